use Rattle.std.proofs.Common.{◌≡◌, ◌*◌, ◌≤◌}
use Rattle.rules.specs.TableTest.{nodes_in}
use Rattle.row.specs.Placed.{node_row_limit}
use Rattle.rows.specs.Sizes.{node_byte_limit}
use Rattle.rows.specs.Parts.{count_to, length_to}
use Rattle.rows.proofs.measure.Given as goal

-- the rows of the nodes passed, and their bytes, are counted
abbrev pub invariant-loop-i : goal.invariant-loop-i
invariant-loop-i l = record {
  rows_are : l.rows ≡ count_to l.plan.t l.plan.m l.plan.l (nodes_in l.plan.table.now) l.i;
  bytes_are : l.bytes ≡ length_to l.plan.t l.plan.m l.plan.l (nodes_in l.plan.table.now) l.i;
  few_rows : l.rows ≤ node_row_limit * l.i;
  few_bytes : l.bytes ≤ node_byte_limit * l.i;
}
