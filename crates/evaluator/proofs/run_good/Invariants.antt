use Rattle.evaluator.specs.Runs.{Seen}
use Rattle.evaluator.proofs.run_good.Given as goal

abbrev pub invariant-loop-number : goal.invariant-loop-number
invariant-loop-number l = Seen l.m l.run l.number-index l.seen
