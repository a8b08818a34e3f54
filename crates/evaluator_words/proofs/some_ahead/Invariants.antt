use mathlib.Core.Path.{◌≡◌}
use Prim.Native.Nat.{ℕ, ◌-◌, ◌≤◌}
use Rattle.evaluator_words.specs.Bits.{on}
use Rattle.evaluator_words.specs.Ahead.{some}
use Rattle.evaluator_words.proofs.some_ahead.Given as goal

abbrev pub invariant-loop-seen : goal.invariant-loop-seen
invariant-loop-seen l = (1 ≤ l.seen) × (l.seen ≤ l.n) × ((j : ℕ) → on l.x j ≡ some (on l.w) l.seen j)

abbrev pub decreases-loop-seen : goal.decreases-loop-seen
decreases-loop-seen l = l.n - l.seen
