use Rattle.std.proofs.Common.{◌+◌, ◌*◌, ◌≤◌}
use Rattle.lists.specs.Flat.{flat}
use Rattle.mps.specs.Page.{entry_line}
use Rattle.row.specs.NodeRows.{block_on}
use Rattle.mps_line.specs.Bounds.{line_limit, slot_lines}
use Rattle.mps_node.specs.Turns.{Listed}
use Rattle.mps_columns.proofs.put_windows.Given as goal

abbrev pub invariant-loop-s : goal.invariant-loop-s
invariant-loop-s l = record {
  put : Listed (entry_line l.v) l.start (flat (block_on l.block l.t l.l) l.s) l.i l.initial.page l.page;
  end : l.page.at ≤ l.initial.page.at + l.s * slot_lines * line_limit;
  few : l.i ≤ l.start + l.s * slot_lines;
}
