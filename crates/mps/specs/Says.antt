-- "What the page says, read by the column rules, must be exactly the rows of the table after that adding and dropping."
-- The statements; their proofs stand in Proved and in Meaning.
use Rattle.std.specs.Prelude.{◌≡◌, ◌↔◌, cond, List, [], ◌∷◌, ℕ, ◌+◌, ◌*◌, ltb, ℤ, pos}
use Rattle.std.proofs.Math.Option.{some}
use Rattle.lists.specs.Every.{Every}
use Rattle.lists.specs.Flat.{flat}
use Rattle.lists.specs.Tabulate.{tabulate}
use Rattle.rules.specs.Quantities.{SlotsAllowed, AtomsAllowed, LoopAllowed}
use Rattle.rules.specs.Table.{Node, Good}
use Rattle.rules.specs.Rows.{Term, Row, variable_count, rows_of, Meets}
use Rattle.mps.specs.Merged.{merged, stands}
use Rattle.mps.specs.Page.{page}
use Rattle.mps.specs.Parsing.{ModelRow, Bound, Model, parse_page}
use Rattle.mps.specs.Parsing.ModelRow.{free, numbered}
use Rattle.mps.specs.Parsing.Bound.{binary, upper}

-- the rows from number i on, of a table of n variables, "after that adding and dropping"
abbrev pub merged_rows : (n i : ℕ) → List Row → List ModelRow
merged_rows n i [] = []
merged_rows n i (r ∷ rs) = numbered i (merged n r) ∷ merged_rows n (i + 1) rs

-- "A variable in no row has one COST line with 0."
abbrev pub cost_of : List Row → (v : ℕ) → List Term
cost_of rs v = cond (stands v rs) [] (record { coefficient = pos 0; variable = v } ∷ [])

-- "BV for atoms and UP 1 for slacks"
abbrev pub bound_of : (atoms v : ℕ) → Bound
bound_of atoms v = cond (ltb v atoms) (binary v) (upper v (pos 1))

abbrev pub model_of : (atoms variables : ℕ) → List Row → Model
model_of atoms variables rs =
    record { rows = free ∷ merged_rows variables 0 rs; costs = flat (cost_of rs) variables; bounds = tabulate variables (bound_of atoms) }

-- the free row, the rows of the table after that adding and dropping, every variable's bound, and nothing else
abbrev pub PageSays : Type 0
PageSays = (T M L : ℕ) (table : List ℕ) (ns : List Node) → SlotsAllowed T → AtomsAllowed M → LoopAllowed T L → Good M table ns →
    parse_page (page T M L ns) ≡ some (model_of (M * T) (variable_count T M L ns) (rows_of T M L ns))

-- The meaning is kept: numerators meet a row after that adding and dropping exactly when they meet the row as written.
abbrev pub SameMeaning : Type 0
SameMeaning = (T M L : ℕ) (table : List ℕ) (ns : List Node) → SlotsAllowed T → AtomsAllowed M → LoopAllowed T L → Good M table ns → (D : ℕ) (xs : List ℤ) →
    Every (λ (r : Row). Meets D xs (merged (variable_count T M L ns) r) ↔ Meets D xs r) (rows_of T M L ns)
