-- None of the figures before the block is outside.
use Rattle.std.proofs.Common.{◌*◌, min}
use Rattle.lists.specs.Scan.{Skipped}
use Rattle.judge_limits.specs.Tests.{outside_at, at_once}
use Rattle.judge_limits.proofs.first_outside.Given as goal

abbrev pub invariant-loop-block : goal.invariant-loop-block
invariant-loop-block l = Skipped (outside_at l.e l.figures) 0 (min l.n (l.block * at_once))
