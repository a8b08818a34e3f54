-- A window at a slot: its rows, and which of its slots a variable stands at, where p is the part's variable at the first slot of all.
use Rattle.std.specs.Prelude.{◌≡◌, Option, Some, None, List, ℕ, ◌<◌}
use Rattle.rules.specs.Rows.{Row}
use Rattle.window.specs.declared.Looks.{Looks}
use Rattle.window.specs.Slots.{window_by, variable_at, variables}
use Rattle.row.specs.Kinds.{over_rows}
use Rattle.mps_window.specs.declared.over.Over.{Over}

-- the rows of a window at a slot
abbrev pub rows_over : Over → List Row
rows_over o = over_rows (window_by o.within) o.own (variables o.looks o.left)

abbrev pub Placed : Looks → (p v : ℕ) → Option ℕ → Type 0
Placed w p v (Some j) = (j < w.count) × (variable_at w p j ≡ v)
Placed w p v None = (j : ℕ) → j < w.count → variable_at w p j ≡ v → ⊥

-- the part's variables stand before the node's
abbrev pub PartBelow : Over → Type 0
PartBelow o = (j : ℕ) → j < o.looks.count → variable_at o.looks o.left j < o.own
