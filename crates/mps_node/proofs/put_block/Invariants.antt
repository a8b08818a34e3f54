use Rattle.std.proofs.Common.{◌+◌, ◌*◌, ◌≤◌}
use Rattle.lists.specs.Flat.{flat}
use Rattle.row.specs.NodeRows.{block_on}
use Rattle.mps_line.specs.Bounds.{line_limit, slot_lines}
use Rattle.mps_row.specs.Texts.{line_of}
use Rattle.mps_node.specs.Turns.{Listed}
use Rattle.mps_node.proofs.put_block.Given as goal

abbrev pub invariant-loop-s : goal.invariant-loop-s
invariant-loop-s l = (l.page.at ≤ l.initial.page.at + l.s * slot_lines * line_limit) × (l.i ≤ l.first + l.s * slot_lines) ×
    Listed (line_of l.text) l.first (flat (block_on l.block l.t l.l) l.s) l.i l.initial.page l.page
