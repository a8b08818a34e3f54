use Rattle.rules.specs.TableTest.{nodes_in}
use Rattle.evaluator.specs.Filled.{Filled}
use Rattle.evaluator.proofs.work.Given as goal

abbrev pub invariant-loop-n : goal.invariant-loop-n
invariant-loop-n l = Filled l.plan.t l.plan.l l.run (nodes_in l.plan.table.now) l.initial.out l.n l.out
