use Rattle.std.proofs.Common.{◌+◌, ◌*◌, ◌≤◌, get_or}
use Rattle.lists.specs.Flat.{flat}
use Rattle.mps_line.specs.Bounds.{line_limit, node_lines}
use Rattle.mps_line.specs.Emitted.{Emitted}
use Rattle.mps_columns.specs.Plans.{planned_user}
use Rattle.mps_columns.proofs.put_users.Given as goal

abbrev pub invariant-loop-user : goal.invariant-loop-user
invariant-loop-user l = record {
  put : Emitted (flat (λ j. planned_user l.part.columns.now.plan l.variable.v (get_or l.part.users.now j 0)) l.user-index) l.initial.page l.page;
  end : l.page.at ≤ l.initial.page.at + l.user-index * node_lines * line_limit;
}
