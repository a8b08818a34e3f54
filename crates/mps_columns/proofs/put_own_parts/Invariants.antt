use Rattle.std.proofs.Common.{◌+◌, ◌*◌, ◌≤◌}
use Rattle.lists.specs.Flat.{flat}
use Rattle.mps_line.specs.Bounds.{line_limit, part_lines}
use Rattle.mps_line.specs.Emitted.{Emitted}
use Rattle.mps_columns.specs.Plans.{planned_part}
use Rattle.mps_columns.proofs.put_own_parts.Given as goal

abbrev pub invariant-loop-x : goal.invariant-loop-x
invariant-loop-x l = record {
  put : Emitted (flat (planned_part l.columns.plan) l.x) l.initial.page l.page;
  end : l.page.at ≤ l.initial.page.at + l.x * part_lines * line_limit;
}
