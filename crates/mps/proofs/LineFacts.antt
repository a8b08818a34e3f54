-- Each line of a page, read back.
use Rattle.std.specs.Prelude.{◌≡◌, refl, Bool, true, false, cond, List, [], ◌∷◌, ℕ, ◌<◌, ltb, ℤ, pos}
use Rattle.std.proofs.Math.Option.{some}
use Rattle.std.proofs.Common.{arith}
use Rattle.rules.specs.Rows.{Relation, Row}
use Rattle.rules.specs.Rows.Relation.{at_least, equal}
use Rattle.text.specs.Decimal.{decimal}
use Rattle.text.specs.Decimal.{signed_text}
use Rattle.mps.specs.Words.{COST, N, G, E, RHS, BND, BV, UP, R, X}
use Rattle.mps.specs.Merged.{is_zero}
use Rattle.mps.specs.Page.{field, row_name, variable_name, type_text, type_line, row_line, number_line, number_unless_zero}
use Rattle.mps.specs.Page.{cost_line, binary_line, upper_line, bound_line}
use Rattle.mps.specs.Parsing.{same, RowFact, row_fact, column_fact, right_fact, bound_fact}
use Rattle.mps.specs.Parsing.RowFact.{free, typed}
use Rattle.mps.specs.Parsing.ColumnFact.{entry, cost}
use Rattle.mps.specs.Parsing.RightFact.{right}
use Rattle.mps.specs.Parsing.Bound.{binary, upper}
use Rattle.mps.specs.Says.{bound_of}
use Rattle.mps.proofs.Numbers.{decimal-solid, signed_solid, number-decimal, whole_signed, name-short}
use Rattle.mps.proofs.FieldLaws.{Line, Content, two_fields, three_fields, four_fields}
use Rattle.mps.proofs.Blocks.{Block, block_none, block-line, block_cond}

-- the name of a number below 1000000 fits its field
name-content : (letter n : ℕ) → 32 < letter → n < 1000000 → Content 10 (letter ∷ decimal n)
name-content letter n l h = record { solid = (l, decimal-solid n); fits = name-short letter n h }

-- ---- ROWS

type-line : (type name : List ℕ) (f : RowFact) → Content 3 type → Content 10 name →
    row_fact (record { first = type; second = name; third = []; fourth = [] }) ≡ some f → Block row_fact (type_line type name) (f ∷ [])
unfolding type_line
type-line type name f a b e = block-line row_fact (two_fields type a name b) e

pub free-line : Block row_fact (type_line N COST) (free ∷ [])
unfolding row_fact same
free-line = type-line N COST free (omega arith) (omega arith) refl

relation-line : (i : ℕ) (o : Relation) → i < 1000000 → Block row_fact (type_line (type_text o) (row_name i)) (typed i o ∷ [])
unfolding row_fact same
relation-line i at_least h = type-line G (row_name i) (typed i at_least) (omega arith) (name-content R i (omega arith) h) (rw (number-decimal i) refl)
relation-line i equal h = type-line E (row_name i) (typed i equal) (omega arith) (name-content R i (omega arith) h) (rw (number-decimal i) refl)

pub row-line : (i : ℕ) (r : Row) → i < 1000000 → Block row_fact (row_line i r) (typed i r.relation ∷ [])
unfolding row_line
row-line i r h = relation-line i r.relation h

-- ---- COLUMNS and RHS

number_fields : (name row : List ℕ) (c : ℤ) → Content 10 name → Content 10 row →
    Line (field 25 (field 15 (field 5 [] name) row) (signed_text c)) (record { first = []; second = name; third = row; fourth = signed_text c })
unfolding field
number_fields name row c a b = four_fields [] (omega arith) name a row (signed_text c) b (signed_solid c)

entry-line : (v i : ℕ) (c : ℤ) → v < 1000000 → i < 1000000 → Block column_fact (number_line (variable_name v) (row_name i) c) (entry v i c ∷ [])
unfolding number_line column_fact same
entry-line v i c g h =
    block-line column_fact (number_fields (variable_name v) (row_name i) c (name-content X v (omega arith) g) (name-content R i (omega arith) h))
    (rw (number-decimal v, whole_signed c, number-decimal i) refl)

pub cost-line : (v : ℕ) → v < 1000000 → Block column_fact (cost_line v) (cost v (pos 0) ∷ [])
unfolding cost_line number_line column_fact same
cost-line v g =
    block-line column_fact (number_fields (variable_name v) COST (pos 0) (name-content X v (omega arith) g) (omega arith))
    (rw (number-decimal v, whole_signed (pos 0)) refl)

right-line : (i : ℕ) (c : ℤ) → i < 1000000 → Block right_fact (number_line RHS (row_name i) c) (right i c ∷ [])
unfolding number_line right_fact same
right-line i c h =
    block-line right_fact (number_fields RHS (row_name i) c (omega arith) (name-content R i (omega arith) h))
    (rw (number-decimal i, whole_signed c) refl)

pub entry-unless-zero : (v i : ℕ) (c : ℤ) → v < 1000000 → i < 1000000 →
    Block column_fact (number_unless_zero (variable_name v) i c) (cond (is_zero c) [] (entry v i c ∷ []))
unfolding number_unless_zero
entry-unless-zero v i c g h = block_cond column_fact (is_zero c) (block_none column_fact) (entry-line v i c g h)

pub right-unless-zero : (i : ℕ) (c : ℤ) → i < 1000000 → Block right_fact (number_unless_zero RHS i c) (cond (is_zero c) [] (right i c ∷ []))
unfolding number_unless_zero
right-unless-zero i c h = block_cond right_fact (is_zero c) (block_none right_fact) (right-line i c h)

-- ---- BOUNDS

binary-line : (v : ℕ) → v < 1000000 → Block bound_fact (binary_line v) (binary v ∷ [])
unfolding binary_line bound_fact same
binary-line v h =
    block-line bound_fact (three_fields BV (omega arith) BND (omega arith) (variable_name v) (name-content X v (omega arith) h))
    (rw (number-decimal v) refl)

upper-line : (v : ℕ) → v < 1000000 → Block bound_fact (upper_line v) (upper v (pos 1) ∷ [])
unfolding upper_line bound_fact same
upper-line v h =
    block-line bound_fact (four_fields UP (omega arith) BND (omega arith) (variable_name v) (decimal 1) (name-content X v (omega arith) h) (decimal-solid 1))
    (rw (number-decimal v, whole_signed (pos 1)) refl)

bound_by : (atom : Bool) (v : ℕ) → v < 1000000 → Block bound_fact (cond atom (binary_line v) (upper_line v)) (cond atom (binary v) (upper v (pos 1)) ∷ [])
bound_by true v h = binary-line v h
bound_by false v h = upper-line v h

pub bound-line : (atoms v : ℕ) → v < 1000000 → Block bound_fact (bound_line atoms v) (bound_of atoms v ∷ [])
bound-line atoms v h = bound_by (ltb v atoms) v h
