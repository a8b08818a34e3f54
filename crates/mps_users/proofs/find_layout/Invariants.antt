use Rattle.std.proofs.Common.{◌≡◌, ◌≤◌, length}
use Rattle.rules.specs.TableTest.{nodes_in}
use Rattle.table.specs.Looping.{looping_to}
use Rattle.row.specs.NodeRows.{rows_to}
use Rattle.mps_users.specs.Found.{Layout}
use Rattle.mps_users.proofs.find_layout.Given as goal

abbrev pub invariant-loop-i : goal.invariant-loop-i
invariant-loop-i l = record {
  counted : l.rows ≡ length (rows_to l.plan.t l.plan.m l.plan.l (nodes_in l.plan.table.now) l.i);
  before : l.looping ≡ looping_to (nodes_in l.plan.table.now) l.i;
  few : l.looping ≤ l.i;
  laid : Layout l.plan.t l.plan.m l.plan.l (nodes_in l.plan.table.now) l.i l.layout;
}
