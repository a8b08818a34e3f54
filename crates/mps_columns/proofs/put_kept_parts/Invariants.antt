use Rattle.std.proofs.Common.{◌≡◌, ◌+◌, ◌*◌, ◌≤◌}
use Rattle.lists.specs.Flat.{flat}
use Rattle.rules.specs.TableTest.{nodes_in}
use Rattle.table.specs.Looping.{looping_to}
use Rattle.mps_line.specs.Bounds.{line_limit, part_lines}
use Rattle.mps_line.specs.Emitted.{Emitted}
use Rattle.mps_columns.specs.Plans.{planned_part}
use Rattle.mps_columns.proofs.put_kept_parts.Given as goal

abbrev pub invariant-loop-n : goal.invariant-loop-n
invariant-loop-n l = record {
  before : l.found ≡ looping_to (nodes_in l.columns.plan.table.now) l.n;
  few : l.found ≤ l.n;
  put : Emitted (flat (λ j. planned_part l.columns.plan (l.columns.plan.m + l.columns.plan.nodes + j)) l.found) l.initial.page l.page;
  end : l.page.at ≤ l.initial.page.at + l.n * part_lines * line_limit;
}
