-- What an MPS page says, read by the column rules: a linear model. `none` where a line is not understood, where a line of COLUMNS or RHS
-- is for a row that ROWS does not declare, where a row is declared twice, and where a row has two right sides.
use Rattle.std.specs.Prelude.{Bool, true, false, cond, not, ◌&&◌, ℕ, zero, suc, ◌+◌, ◌-◌, ◌*◌, eqb, leb, ℤ, pos, negsuc, take, drop}
use mathlib.Core.List.{List, [], ◌∷◌, flat_map}
use Rattle.std.proofs.Math.Option.{Option, none, some}
use Rattle.rules.specs.Rows.{Relation, Term, Row}
use Rattle.rules.specs.Rows.Relation.{at_least, equal}
use Rattle.mps.specs.Words.{NAME, ROWS, COLUMNS, RHS, BOUNDS, ENDATA, COST, N, G, E, BND, BV, UP, R, X}

-- ---- lines and fields

-- the lines of a text, cut at its line feeds
abbrev pub before : ℕ → List (List ℕ) → List (List ℕ)
before b [] = (b ∷ []) ∷ []
before b (l ∷ ls) = (b ∷ l) ∷ ls

unfoldable pub lines_in : List ℕ → List (List ℕ)
lines_in [] = []
lines_in (b ∷ bytes) = cond (eqb b 10) ([] ∷ lines_in bytes) (before b (lines_in bytes))

-- a text without the spaces at its end
abbrev pub unless_end : ℕ → List ℕ → List ℕ
unless_end b [] = cond (eqb b 32) [] (b ∷ [])
unless_end b (c ∷ l) = b ∷ c ∷ l

unfoldable pub trimmed : List ℕ → List ℕ
trimmed [] = []
trimmed (b ∷ l) = unless_end b (trimmed l)

-- "Fields start in columns 2, 5, 15 and 25 and are left-aligned": a field goes up to the next one, and the last up to the line's end.
-- Columns count from 1, so what is before the field is one less.
pub record Fields : Type 0 where
  pub first : List ℕ
  pub second : List ℕ
  pub third : List ℕ
  pub fourth : List ℕ

unfoldable pub fields_in : List ℕ → Fields
fields_in line =
    record {
      first = trimmed (take 3 (drop 1 line));
      second = trimmed (take 10 (drop 4 line));
      third = trimmed (take 10 (drop 14 line));
      fourth = trimmed (drop 24 line);
    }

-- "Section names start in column 1": a line that begins with a space has fields
abbrev pub indented : List ℕ → Bool
indented [] = false
indented (b ∷ l) = eqb b 32

abbrev pub is_none : {A : Type 0} → List A → Bool
is_none [] = true
is_none (a ∷ l) = false

-- ---- names and numbers

unfoldable pub same : (a b : List ℕ) → Bool
same [] [] = true
same [] (y ∷ b) = false
same (x ∷ a) [] = false
same (x ∷ a) (y ∷ b) = eqb x y && same a b

-- digits, after those that have the value n
unfoldable pub digits_in : (n : ℕ) → List ℕ → Option ℕ
digits_in n [] = some n
digits_in n (b ∷ l) = cond (leb 48 b && leb b 57) (digits_in (10 * n + (b - 48)) l) none

module _ {A : Type 0} where
  -- only where the test holds
  abbrev pub when : Bool → Option A → Option A
  when true f = f
  when false f = none

module _ {A B : Type 0} where
  -- with what was understood
  abbrev pub with : Option A → (A → Option B) → Option B
  with none f = none
  with (some a) f = f a

-- one digit or more, and no leading zero: R0 and R00 are two names
abbrev pub number_in : List ℕ → Option ℕ
number_in [] = none
number_in (b ∷ []) = digits_in 0 (b ∷ [])
number_in (b ∷ c ∷ l) = when (not (eqb b 48)) (digits_in 0 (b ∷ c ∷ l))

-- "Numbers are whole and decimal, with a minus sign where negative."
abbrev pub negative : ℕ → Option ℤ
negative zero = none
negative (suc n) = some (negsuc n)

abbrev pub whole_in : List ℕ → Option ℤ
whole_in [] = none
whole_in (b ∷ l) = cond (eqb b 45) (with (number_in l) negative) (with (number_in (b ∷ l)) (λ n. some (pos n)))

-- a letter and a number
abbrev pub name_in : (letter : ℕ) → List ℕ → Option ℕ
name_in letter [] = none
name_in letter (b ∷ l) = cond (eqb b letter) (number_in l) none

-- ---- what a line of each section says: its fields must have the words that the tests look for

-- the free row COST; a row's number and relation
pub data RowFact : Type 0 where
  free : RowFact
  typed : (row : ℕ) → Relation → RowFact

unfoldable pub row_fact : Fields → Option RowFact
row_fact f =
    when (same f.third [] && same f.fourth [])
    (cond (same f.first N) (when (same f.second COST) (some free))
    (cond (same f.first G) (with (name_in R f.second) (λ i. some (typed i at_least)))
    (when (same f.first E) (with (name_in R f.second) (λ i. some (typed i equal))))))

-- a variable's coefficient in a row, and in the free row
pub data ColumnFact : Type 0 where
  entry : (variable row : ℕ) → ℤ → ColumnFact
  cost : (variable : ℕ) → ℤ → ColumnFact

unfoldable pub column_fact : Fields → Option ColumnFact
column_fact f =
    when (same f.first [])
    (with (name_in X f.second) (λ v. with (whole_in f.fourth) (λ c.
    cond (same f.third COST) (some (cost v c)) (with (name_in R f.third) (λ i. some (entry v i c))))))

-- a row's right side
pub data RightFact : Type 0 where
  right : (row : ℕ) → ℤ → RightFact

unfoldable pub right_fact : Fields → Option RightFact
right_fact f =
    when (same f.first [] && same f.second RHS)
    (with (name_in R f.third) (λ i. with (whole_in f.fourth) (λ c. some (right i c))))

-- BV: the variable is 0 or 1; UP: it is at most this, and not below 0
pub data Bound : Type 0 where
  binary : (variable : ℕ) → Bound
  upper : (variable : ℕ) → ℤ → Bound

unfoldable pub bound_fact : Fields → Option Bound
bound_fact f =
    when (same f.second BND)
    (with (name_in X f.third) (λ v.
    cond (same f.first BV) (when (same f.fourth []) (some (binary v)))
    (when (same f.first UP) (with (whole_in f.fourth) (λ c. some (upper v c))))))

-- ---- sections

pub record Section : Type 0 where
  pub name : List ℕ
  pub lines : List (List ℕ)

-- the sections of a list of lines, and the lines with fields before the first
pub record Cut : Type 0 where
  pub pending : List (List ℕ)
  pub sections : List Section

unfoldable pub cut_at : List ℕ → Cut → Cut
cut_at l c =
    cond (indented l) (record { pending = l ∷ c.pending; sections = c.sections })
    (record { pending = []; sections = record { name = l; lines = c.pending } ∷ c.sections })

unfoldable pub cut : List (List ℕ) → Cut
cut [] = record { pending = []; sections = [] }
cut (l ∷ ls) = cut_at l (cut ls)

module _ {A B : Type 0} where
  -- what each element says; `none` where one is not understood
  unfoldable pub each : (A → Option B) → List A → Option (List B)
  each f [] = some []
  each f (x ∷ xs) = with (f x) (λ y. with (each f xs) (λ ys. some (y ∷ ys)))

-- what every line of a section says
abbrev pub facts_in : {A : Type 0} → (Fields → Option A) → List (List ℕ) → Option (List A)
facts_in fact lines = each (λ line. fact (fields_in line)) lines

-- ---- the rows that lines name: ROWS declares each once

-- the types that ROWS gives row i, and the lines that declare the free row
abbrev pub type_in : (i : ℕ) → RowFact → List Relation
type_in i free = []
type_in i (typed j o) = cond (eqb j i) (o ∷ []) []

abbrev pub free_in : RowFact → List RowFact
free_in free = free ∷ []
free_in (typed j o) = []

abbrev pub is_one : {A : Type 0} → List A → Bool
is_one [] = false
is_one (a ∷ []) = true
is_one (a ∷ b ∷ l) = false

abbrev pub declared : List RowFact → (i : ℕ) → Bool
declared os i = is_one (flat_map (type_in i) os)

abbrev pub free_declared : List RowFact → Bool
free_declared os = is_one (flat_map free_in os)

-- a line of COLUMNS or RHS is for a declared row
abbrev pub entry_declared : List RowFact → ColumnFact → Bool
entry_declared os (entry v i c) = declared os i
entry_declared os (cost v c) = free_declared os

abbrev pub right_declared : List RowFact → RightFact → Bool
right_declared os (right i c) = declared os i

module _ {A : Type 0} where
  unfoldable pub every : (A → Bool) → List A → Bool
  every test [] = true
  every test (x ∷ xs) = test x && every test xs

-- ---- the linear model: rows, costs and bounds

-- the terms of row i, and of the free row
abbrev pub term_in : (i : ℕ) → ColumnFact → List Term
term_in i (entry v j c) = cond (eqb j i) (record { coefficient = c; variable = v } ∷ []) []
term_in i (cost v c) = []

abbrev pub cost_in : ColumnFact → List Term
cost_in (entry v j c) = []
cost_in (cost v c) = record { coefficient = c; variable = v } ∷ []

-- the right sides listed for row i: at most one, and 0 where none is listed
abbrev pub right_in : (i : ℕ) → RightFact → List ℤ
right_in i (right j c) = cond (eqb j i) (c ∷ []) []

abbrev pub right_of : List ℤ → Option ℤ
right_of [] = some (pos 0)
right_of (c ∷ []) = some c
right_of (c ∷ d ∷ cs) = none

-- a row: the free one, or a numbered one with what the columns and right sides say of it
pub data ModelRow : Type 0 where
  free : ModelRow
  numbered : (number : ℕ) → Row → ModelRow

abbrev pub model_row : List RowFact → List ColumnFact → List RightFact → RowFact → Option ModelRow
model_row os cs rs free = when (free_declared os) (some free)
model_row os cs rs (typed i o) =
    when (declared os i) (with (right_of (flat_map (right_in i) rs)) (λ b.
    some (numbered i (record { relation = o; terms = flat_map (term_in i) cs; right = b }))))

-- the model that a page states: its rows, the terms of the free row, and its bounds
pub record Model : Type 0 where
  pub rows : List ModelRow
  pub costs : List Term
  pub bounds : List Bound

unfoldable pub model_from : List RowFact → List ColumnFact → List RightFact → List Bound → Option Model
model_from os cs rs bs =
    when (every (entry_declared os) cs && every (right_declared os) rs)
    (with (each (model_row os cs rs) os) (λ rows. some (record { rows = rows; costs = flat_map cost_in cs; bounds = bs })))

-- the page's sections, in this order: NAME, ROWS, COLUMNS, RHS, BOUNDS and ENDATA, the first and the last without lines
abbrev pub named : (word : List ℕ) → Section → Bool
named word s = same s.name word

abbrev pub bare : (word : List ℕ) → Section → Bool
bare word s = same s.name word && is_none s.lines

unfoldable pub parse_six : (a b c d e f : Section) → Option Model
parse_six a b c d e f =
    when (bare NAME a && (named ROWS b && (named COLUMNS c && (named RHS d && (named BOUNDS e && bare ENDATA f)))))
    (with (facts_in row_fact b.lines) (λ os. with (facts_in column_fact c.lines) (λ cs.
    with (facts_in right_fact d.lines) (λ rs. with (facts_in bound_fact e.lines) (λ bs. model_from os cs rs bs)))))

abbrev pub parse_sections : List Section → Option Model
parse_sections [] = none
parse_sections (a ∷ []) = none
parse_sections (a ∷ b ∷ []) = none
parse_sections (a ∷ b ∷ c ∷ []) = none
parse_sections (a ∷ b ∷ c ∷ d ∷ []) = none
parse_sections (a ∷ b ∷ c ∷ d ∷ e ∷ []) = none
parse_sections (a ∷ b ∷ c ∷ d ∷ e ∷ f ∷ []) = parse_six a b c d e f
parse_sections (a ∷ b ∷ c ∷ d ∷ e ∷ f ∷ g ∷ more) = none

unfoldable pub parse_page : List ℕ → Option Model
parse_page text = when (is_none (cut (lines_in text)).pending) (parse_sections (cut (lines_in text)).sections)
