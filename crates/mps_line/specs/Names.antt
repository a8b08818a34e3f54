-- The text of a name.
use Rattle.std.specs.Prelude.{◌≡◌, List, [], ◌∷◌, ◌++◌, ℕ, ◌+◌, ◌≤◌, ◌<◌, ℤ, length}
use Rattle.std.proofs.Common.{ap, ap₂, ◌∙◌, arith, length-append}
use Rattle.text.specs.Decimal.{decimal, signed_text}
use Rattle.text.proofs.DecimalLaws.{length-low, below_1000000}
use Rattle.mps.specs.Words.{COST, RHS}
use Rattle.mps.specs.Page.{row_name, variable_name, type_line, number_line, binary_line, upper_line}
use Rattle.mps_line.specs.Bounds.{number_limit}
use Rattle.mps_line.specs.Fields.{padded, length-padded, type_fields, number_fields, binary_fields, upper_fields}
use Rattle.mps_line.specs.declared.Name.{Name}
use Rattle.mps_line.specs.declared.Name.TheVariants.{Cost, Rights, Row, Variable}

abbrev pub name_text : Name → List ℕ
name_text Cost = COST
name_text Rights = RHS
name_text (Row i) = row_name i
name_text (Variable v) = variable_name v

-- its number has at most six digits
abbrev pub NameFits : Name → Type 0
NameFits Cost = Unit {0}
NameFits Rights = Unit {0}
NameFits (Row i) = i < number_limit
NameFits (Variable v) = v < number_limit

-- so a name has at most seven bytes
pub name-length : (name : Name) → NameFits name → length (name_text name) ≤ 7
name-length Cost h = omega arith
name-length Rights h = omega arith
name-length (Row i) h = omega (arith, below_1000000 i h)
name-length (Variable v) h = omega (arith, below_1000000 v h)

-- so lines have these lengths
pub type_length : (letter : ℕ) (name : Name) → length (type_line (letter ∷ []) (name_text name)) ≡ 5 + length (name_text name)
type_length letter name = ap length (type_fields letter (name_text name)) ∙ length-append ((32 ∷ letter ∷ 32 ∷ 32 ∷ []) ++ name_text name) (10 ∷ []) ∙ omega arith

pub number-length : (name row : Name) (c : ℤ) → NameFits name → NameFits row → length (number_line (name_text name) (name_text row) c) ≡ 25 + length (signed_text c)
number-length name row c h g =
    let a = name-length name h in
    let b = name-length row g in
    let first : List ℕ = (32 ∷ 32 ∷ 32 ∷ 32 ∷ []) ++ padded 10 (name_text name) in
    let second : List ℕ = first ++ padded 10 (name_text row) in
    let x = length-padded 10 (name_text name) (omega arith) in
    let y = length-padded 10 (name_text row) (omega arith) in
    let e : length first ≡ 14 = length-append (32 ∷ 32 ∷ 32 ∷ 32 ∷ []) (padded 10 (name_text name)) ∙ ap (λ (n : ℕ). 4 + n) x in
    let f : length second ≡ 24 = length-append first (padded 10 (name_text row)) ∙ ap₂ ◌+◌ e y in
    ap length (number_fields (name_text name) (name_text row) c (omega arith) (omega arith))
    ∙ omega (arith, length-append (second ++ signed_text c) (10 ∷ []), length-append second (signed_text c))

pub binary-length : (v : ℕ) → length (binary_line v) ≡ 16 + length (decimal v)
binary-length v = ap length (binary_fields v) ∙ simp length-append (omega arith)

pub upper-length : (v : ℕ) → v < number_limit → length (upper_line v) ≡ 26
upper-length v h =
    let a = name-length (Variable v) h in
    let before : List ℕ = 32 ∷ 85 ∷ 80 ∷ 32 ∷ 66 ∷ 78 ∷ 68 ∷ 32 ∷ 32 ∷ 32 ∷ 32 ∷ 32 ∷ 32 ∷ 32 ∷ [] in
    let first : List ℕ = before ++ padded 10 (variable_name v) in
    let e : length first ≡ 24 = length-append before (padded 10 (variable_name v)) ∙ ap (λ (n : ℕ). 14 + n) (length-padded 10 (variable_name v) (omega arith)) in
    ap length (upper_fields v (omega arith))
    ∙ omega (arith, length-append (first ++ decimal 1) (10 ∷ []), length-append first (decimal 1), length-low 1 (omega arith))
