use Rattle.std.proofs.Common.{◌+◌, ◌*◌, ◌≤◌}
use Rattle.lists.specs.Flat.{flat}
use Rattle.mps.specs.Page.{column_lines}
use Rattle.mps_line.specs.Bounds.{line_limit, table_lines}
use Rattle.mps_line.specs.Emitted.{Emitted}
use Rattle.mps_columns.specs.Plans.{plan_rows}
use Rattle.mps_columns.proofs.put_part.Given as goal

abbrev pub invariant-loop-s : goal.invariant-loop-s
invariant-loop-s l = record {
  put : Emitted (flat (λ i. column_lines (plan_rows l.part.columns.now.plan) (l.part.x * l.part.columns.now.plan.t + i)) l.s) l.initial.page l.page;
  end : l.page.at ≤ l.initial.page.at + l.s * table_lines * line_limit;
}
