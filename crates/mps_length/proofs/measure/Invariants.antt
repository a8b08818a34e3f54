use Rattle.rules.specs.TableTest.{nodes_in}
use Rattle.mps_length.specs.Measured.{Measured}
use Rattle.mps_length.proofs.measure.Given as goal

abbrev pub invariant-loop-i : goal.invariant-loop-i
invariant-loop-i l = Measured l.plan.t l.plan.m l.plan.l (nodes_in l.plan.table.now) l.i l.size.rows l.size.lines
