-- The rows of the blocks passed are tested.
use Rattle.std.proofs.Common.{Ok}
use Rattle.rules.specs.Judge.{shortfall}
use Rattle.judge_search.specs.Blocks.{Testing}
use Rattle.judge_search.proofs.test_node.Given as goal

abbrev pub invariant-loop-i : goal.invariant-loop-i
invariant-loop-i l = Testing l.t l.l l.block l.v l.test.test.e (shortfall l.test.test.figures.now) (Ok l.fn.count) l.i (Ok l.rows)
