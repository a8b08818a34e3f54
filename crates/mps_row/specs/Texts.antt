-- The line that a row gives.
use Rattle.std.specs.Prelude.{◌≡◌, refl, List, [], ◌∷◌, ℕ, ◌<◌}
use Rattle.rules.specs.Rows.{Relation, Row}
use Rattle.rules.specs.Rows.Relation.{at_least, equal}
use Rattle.mps.specs.Page.{type_text, row_line, right_line, entry_line}
use Rattle.mps_line.specs.Bounds.{number_limit}
use Rattle.mps_row.specs.declared.Text.{Text}
use Rattle.mps_row.specs.declared.Text.TheVariants.{Typed, Right, Entry}

abbrev pub line_of : Text → (i : ℕ) → Row → List ℕ
line_of Typed i r = row_line i r
line_of Right i r = right_line i r
line_of (Entry v) i r = entry_line v i r

-- a variable's number has at most six digits
abbrev pub TextFits : Text → Type 0
TextFits Typed = Unit {0}
TextFits Right = Unit {0}
TextFits (Entry v) = v < number_limit

-- the letter of a row's type
abbrev pub type_letter : Relation → ℕ
type_letter at_least = 71
type_letter equal = 69

pub letter-text : (o : Relation) → type_letter o ∷ [] ≡ type_text o
letter-text at_least = refl
letter-text equal = refl
