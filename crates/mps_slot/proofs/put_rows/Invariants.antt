use Rattle.std.proofs.Common.{map, take, ◌+◌, ◌*◌, ◌≤◌}
use Rattle.mps.specs.Page.{each_row}
use Rattle.row.specs.Meaning.{row_of}
use Rattle.mps_line.specs.Bounds.{line_limit}
use Rattle.mps_line.specs.Emitted.{Emitted}
use Rattle.mps_row.specs.Texts.{line_of}
use Rattle.mps_slot.proofs.put_rows.Given as goal

abbrev pub invariant-loop-j : goal.invariant-loop-j
invariant-loop-j l =
    Emitted (each_row (line_of l.text) l.i (map row_of (take l.j l.rows))) l.initial.page l.page × (l.page.at ≤ l.initial.page.at + l.j * line_limit)
