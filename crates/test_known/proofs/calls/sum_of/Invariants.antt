use Rattle.std.proofs.Common.{◌*◌, ◌≤◌, nat_abs}
use Rattle.millionths.specs.Bounds as Bounds
use Rattle.test_known.proofs.calls.sum_of.Given as goal

abbrev pub invariant-loop-figure : goal.invariant-loop-figure
invariant-loop-figure l = nat_abs l.sum ≤ Bounds.figure * l.figure-index
