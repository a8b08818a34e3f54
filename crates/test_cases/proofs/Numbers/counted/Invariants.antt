use Rattle.std.proofs.Common.{◌≤◌, length}
use Rattle.test_cases.proofs.Numbers.counted.Given as goal

abbrev pub invariant-loop-pair : goal.invariant-loop-pair
invariant-loop-pair l =
    (l.n ≤ length l.into) × (goal.iterator-loop-pair).can_next l.pair-iterator × (goal.iterator-loop-pair).is_finite l.pair-iterator
