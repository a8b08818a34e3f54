-- A node at a slot, with its window there or without one, and its rows.
use Rattle.std.specs.Prelude.{Option, Some, None, List, []}
use Rattle.rules.specs.Rows.{Row}
use Rattle.mps_row.specs.declared.Spot.{Spot}
use Rattle.mps_row.specs.Spots.{spot_rows}
use Rattle.mps_row.specs.Laws.{Plain}
use Rattle.mps_window.specs.declared.over.Over.{Over}
use Rattle.mps_window.specs.Places.{rows_over}

abbrev pub slot_rows : Spot → Option Over → List Row
slot_rows s (Some o) = rows_over o
slot_rows s None = spot_rows s []

-- a kind that has a window has it
abbrev pub Windowed : Spot → Option Over → Type 0
Windowed s (Some o) = Unit {0}
Windowed s None = Plain s.kind
