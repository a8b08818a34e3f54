-- The error figures of the first n nodes are known.
use Rattle.std.proofs.Common.{length}
use Rattle.rules.specs.TableTest.{nodes_in}
use Rattle.judge_errors.specs.Known.{Known}
use Rattle.judge_errors.proofs.work.Given as goal

abbrev pub invariant-loop-n : goal.invariant-loop-n
invariant-loop-n l = Known l.plan.t l.plan.l l.e (nodes_in l.plan.table.now) (length l.initial.figures) l.n l.figures
