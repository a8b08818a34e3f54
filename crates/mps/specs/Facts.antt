-- What the lines of each section say, in the order of the page.
use Rattle.std.specs.Prelude.{cond, List, [], ◌∷◌, ℕ, pos}
use Rattle.rules.specs.Rows.{Row}
use Rattle.mps.specs.Merged.{coefficient, is_zero, stands}
use Rattle.mps.specs.Page.{each_row}
use Rattle.mps.specs.Parsing.{RowFact, ColumnFact, RightFact}
use Rattle.mps.specs.Parsing.RowFact.{typed}
use Rattle.mps.specs.Parsing.ColumnFact.{entry, cost}
use Rattle.mps.specs.Parsing.RightFact.{right}

abbrev pub row_facts : (i : ℕ) → Row → List RowFact
row_facts i r = typed i r.relation ∷ []

abbrev pub entry_facts : (v i : ℕ) → Row → List ColumnFact
entry_facts v i r = cond (is_zero (coefficient v r.terms)) [] (entry v i (coefficient v r.terms) ∷ [])

abbrev pub column_facts : List Row → (v : ℕ) → List ColumnFact
column_facts rs v = cond (stands v rs) (each_row (entry_facts v) 0 rs) (cost v (pos 0) ∷ [])

abbrev pub right_facts : (i : ℕ) → Row → List RightFact
right_facts i r = cond (is_zero r.right) [] (right i r.right ∷ [])
