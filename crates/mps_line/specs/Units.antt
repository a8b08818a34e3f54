-- Lines of 1 and −1.
use Rattle.std.specs.Prelude.{◌≡◌, Bool, true, false, List, [], ◌∷◌, ◌++◌, ℕ, ◌+◌, ◌<◌, ℤ, pos, negsuc, length}
use Rattle.std.proofs.Common.{sym, ap, ◌∙◌, append_assoc, arith}
use Rattle.text.specs.Decimal.{signed_text}
use Rattle.text.proofs.DecimalLaws.{decimal-low, length-low}
use Rattle.mps.specs.Page.{row_name, variable_name, number_line}
use Rattle.mps_line.specs.Bounds.{number_limit}
use Rattle.mps_line.specs.declared.Name.TheVariants.{Row, Variable}
use Rattle.mps_line.specs.Names.{name-length, number-length}
use Rattle.mps_line.specs.Fields.{fields, number_fields}

-- 1 or −1
abbrev pub one : (up : Bool) → ℤ
one true = pos 1
one false = negsuc 0

abbrev pub unit_line : (v i : ℕ) (up : Bool) → List ℕ
unit_line v i up = number_line (variable_name v) (row_name i) (one up)

abbrev pub bit : Bool → ℕ
bit true = 1
bit false = 0

pub one-text : signed_text (one true) ++ (10 ∷ []) ≡ 49 ∷ 10 ∷ []
one-text = ap (λ (l : List ℕ). l ++ (10 ∷ [])) (decimal-low 1 (omega arith))

pub minus-text : signed_text (one false) ++ (10 ∷ []) ≡ 45 ∷ 49 ∷ 10 ∷ []
minus-text = ap (λ (l : List ℕ). (45 ∷ l) ++ (10 ∷ [])) (decimal-low 1 (omega arith))

pub unit-length : (v i : ℕ) (up : Bool) → v < number_limit → i < number_limit → length (unit_line v i up) + bit up ≡ 27
unit-length v i true h g = omega (arith, number-length (Variable v) (Row i) (pos 1) h g, length-low 1 (omega arith))
unit-length v i false h g = omega (arith, number-length (Variable v) (Row i) (negsuc 0) h g, length-low 1 (omega arith))

pub unit_fields : (v i : ℕ) (up : Bool) → v < number_limit → i < number_limit →
    fields (variable_name v) (row_name i) ++ (signed_text (one up) ++ (10 ∷ [])) ≡ unit_line v i up
unit_fields v i up h g =
    let a = name-length (Variable v) h in
    let b = name-length (Row i) g in
    sym (append_assoc (fields (variable_name v) (row_name i)) (signed_text (one up)) (10 ∷ []))
    ∙ sym (number_fields (variable_name v) (row_name i) (one up) (omega arith) (omega arith))
