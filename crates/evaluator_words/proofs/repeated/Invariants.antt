use Prim.Native.Nat.{◌-◌, ◌≤◌}
use Rattle.evaluator_words.specs.Rounds.{Repeated}
use Rattle.evaluator_words.proofs.repeated.Given as goal

abbrev pub invariant-loop-seen : goal.invariant-loop-seen
invariant-loop-seen l = (1 ≤ l.seen) × Repeated l.d l.w l.seen l.x

abbrev pub decreases-loop-seen : goal.decreases-loop-seen
decreases-loop-seen l = 64 - l.seen
