use Rattle.std.proofs.Common.{◌+◌, ◌*◌, ◌≤◌}
use Rattle.lists.specs.Flat.{flat}
use Rattle.mps.specs.Page.{bound_line}
use Rattle.mps_line.specs.Bounds.{line_limit}
use Rattle.mps_line.specs.Emitted.{Emitted}
use Rattle.mps_sections.proofs.put_bounds.Given as goal

abbrev pub invariant-loop-v : goal.invariant-loop-v
invariant-loop-v l = record {
  put : Emitted (flat (bound_line l.atoms) l.v) l.initial.page l.page;
  end : l.page.at ≤ l.initial.page.at + l.v * line_limit;
}
