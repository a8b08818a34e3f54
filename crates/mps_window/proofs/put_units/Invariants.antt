use Rattle.std.proofs.Common.{◌+◌, ◌*◌, ◌≤◌}
use Rattle.lists.specs.Flat.{flat}
use Rattle.mps_line.specs.Units.{unit_line}
use Rattle.mps_line.specs.Bounds.{line_limit}
use Rattle.mps_line.specs.Emitted.{Emitted}
use Rattle.mps_window.proofs.put_units.Given as goal

abbrev pub invariant-loop-j : goal.invariant-loop-j
invariant-loop-j l = Emitted (flat (λ j. unit_line l.v (l.i + j) l.up) l.j) l.initial.page l.page × (l.page.at ≤ l.initial.page.at + l.j * line_limit)
