use Rattle.std.proofs.Common.{◌≡◌, ◌≤◌}
use Rattle.rules.specs.TableTest.{nodes_in}
use Rattle.mps_length.specs.Idle.{idle_atoms}
use Rattle.mps_length.proofs.idle_atoms.Given as goal

abbrev pub invariant-loop-x : goal.invariant-loop-x
invariant-loop-x l = (l.idle ≡ idle_atoms (nodes_in l.plan.table.now) l.plan.nodes l.x) × (l.idle ≤ l.x)
