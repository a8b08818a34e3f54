-- Request N2: the rows of a table as a fixed-column MPS page.
use Rattle.std.specs.Prelude.{cond, List, [], ◌∷◌, ◌++◌, ℕ, ◌+◌, ◌-◌, ◌*◌, ltb, ℤ, length, replicate}
use Rattle.lists.specs.Flat.{flat}
use Rattle.rules.specs.Table.{Node}
use Rattle.rules.specs.Rows.{Relation, Row, variable_count, rows_of}
use Rattle.rules.specs.Rows.Relation.{at_least, equal}
use Rattle.text.specs.Decimal.{decimal, signed_text}
use Rattle.mps.specs.Words.{NAME, ROWS, COLUMNS, RHS, BOUNDS, ENDATA, COST, N, G, E, BND, BV, UP, R, X}
use Rattle.mps.specs.Merged.{coefficient, is_zero, stands}

-- "Fields start in columns 2, 5, 15 and 25 and are left-aligned": a line's text so far, spaces up to the column, and what stands there
unfoldable pub field : (column : ℕ) → (text content : List ℕ) → List ℕ
field column text content = text ++ (replicate (column - 1 - length text) 32 ++ content)

-- "a line ends after its last field with a line feed"
abbrev pub ended : List ℕ → List ℕ
ended text = text ++ (10 ∷ [])

-- "Rows are R and the row number ..; variables are X and the variable number."
abbrev pub row_name : ℕ → List ℕ
row_name i = R ∷ decimal i

abbrev pub variable_name : ℕ → List ℕ
variable_name v = X ∷ decimal v

-- ---- ROWS

-- "of type G for ≥ and E for ="
abbrev pub type_text : Relation → List ℕ
type_text at_least = G
type_text equal = E

unfoldable pub type_line : (type name : List ℕ) → List ℕ
type_line type name = ended (field 5 (field 2 [] type) name)

unfoldable pub row_line : (i : ℕ) → Row → List ℕ
row_line i r = type_line (type_text r.relation) (row_name i)

-- ---- COLUMNS and RHS: a name, a row and a number. "Numbers are whole and decimal, with a minus sign where negative."

unfoldable pub number_line : (name row : List ℕ) → ℤ → List ℕ
number_line name row c = ended (field 25 (field 15 (field 5 [] name) row) (signed_text c))

-- "a zero coefficient is dropped"; "the right sides that are not 0"
unfoldable pub number_unless_zero : (name : List ℕ) (i : ℕ) → ℤ → List ℕ
number_unless_zero name i c = cond (is_zero c) [] (number_line name (row_name i) c)

-- "Columns go by variable, then by row, one entry a line."
abbrev pub entry_line : (v i : ℕ) → Row → List ℕ
entry_line v i r = number_unless_zero (variable_name v) i (coefficient v r.terms)

-- "RHS lists the right sides that are not 0, by row, under the name RHS."
abbrev pub right_line : (i : ℕ) → Row → List ℕ
right_line i r = number_unless_zero RHS i r.right

-- what each row gives, one after the other, from row i on
module _ {A : Type 0} where
  unfoldable pub each_row : (ℕ → Row → List A) → ℕ → List Row → List A
  each_row f i [] = []
  each_row f i (r ∷ rs) = f i r ++ each_row f (i + 1) rs

-- "A variable in no row has one COST line with 0."
unfoldable pub cost_line : ℕ → List ℕ
cost_line v = number_line (variable_name v) COST (ℤ.pos 0)

unfoldable pub column_lines : List Row → (v : ℕ) → List ℕ
column_lines rs v = cond (stands v rs) (each_row (entry_line v) 0 rs) (cost_line v)

-- ---- "Bounds, under BND and by variable, are BV for atoms and UP 1 for slacks."

unfoldable pub binary_line : ℕ → List ℕ
binary_line v = ended (field 15 (field 5 (field 2 [] BV) BND) (variable_name v))

unfoldable pub upper_line : ℕ → List ℕ
upper_line v = ended (field 25 (field 15 (field 5 (field 2 [] UP) BND) (variable_name v)) (decimal 1))

-- the first variables, as many as `atoms`, are the atoms'
abbrev pub bound_line : (atoms v : ℕ) → List ℕ
bound_line atoms v = cond (ltb v atoms) (binary_line v) (upper_line v)

-- ---- the page. "Section names start in column 1, and NAME has nothing after it."

unfoldable pub row_section : List Row → List ℕ
row_section rs = ended NAME ++ (ended ROWS ++ (type_line N COST ++ each_row row_line 0 rs))

unfoldable pub column_section : (variables : ℕ) → List Row → List ℕ
column_section variables rs = ended COLUMNS ++ flat (column_lines rs) variables

unfoldable pub right_section : List Row → List ℕ
right_section rs = ended RHS ++ each_row right_line 0 rs

unfoldable pub bound_section : (atoms variables : ℕ) → List ℕ
bound_section atoms variables = ended BOUNDS ++ (flat (bound_line atoms) variables ++ ended ENDATA)

-- "NAME, ROWS, COLUMNS, RHS, BOUNDS, ENDATA"
unfoldable pub page_of : (atoms variables : ℕ) → List Row → List ℕ
page_of atoms variables rs = row_section rs ++ (column_section variables rs ++ (right_section rs ++ bound_section atoms variables))

unfoldable pub page : (T M L : ℕ) → List Node → List ℕ
page T M L ns = page_of (M * T) (variable_count T M L ns) (rows_of T M L ns)
