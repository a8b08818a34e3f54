use Rattle.std.proofs.Common.{◌+◌, ◌*◌, ◌≤◌}
use Rattle.lists.specs.Flat.{flat}
use Rattle.mps.specs.Words.{G}
use Rattle.mps.specs.Page.{row_name, type_line}
use Rattle.mps_line.specs.Bounds.{line_limit}
use Rattle.mps_line.specs.Emitted.{Emitted}
use Rattle.mps_window.proofs.put_types.Given as goal

abbrev pub invariant-loop-j : goal.invariant-loop-j
invariant-loop-j l = Emitted (flat (λ j. type_line G (row_name (l.i + j))) l.j) l.initial.page l.page × (l.page.at ≤ l.initial.page.at + l.j * line_limit)
