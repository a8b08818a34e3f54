-- The sums of the first i figures stand.
use mathlib.Core.Path.{◌≡◌}
use Prim.Native.Nat.{◌+◌, ◌*◌, ◌≤◌}
use lib.ListN.{length}
use Rattle.rules.specs.Quantities.{one}
use Rattle.judge_errors.specs.Window.{sum_to, Running}
use Rattle.judge_errors.proofs.sum_up.Given as goal

abbrev pub invariant-loop-i : goal.invariant-loop-i
invariant-loop-i l = (length l.sums ≡ length l.initial.sums) × (l.sum ≡ sum_to l.figures (λ j. l.p + j) l.i) × (l.sum ≤ l.i * one) × Running l.figures l.p l.i l.sums
