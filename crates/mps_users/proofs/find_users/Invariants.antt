use Rattle.rules.specs.TableTest.{nodes_in}
use Rattle.mps_users.specs.Finding.{FoundTo}
use Rattle.mps_users.proofs.find_users.Given as goal

abbrev pub invariant-loop-i : goal.invariant-loop-i
invariant-loop-i l = FoundTo l.plan.m (nodes_in l.plan.table.now) l.x l.i l.users l.count
