-- The printed text of rows: "counts of rows and variables, then row number, relation, right side, signed terms". Each line ends in a line feed.
use Rattle.std.specs.Prelude.{List, [], ◌∷◌, ◌++◌, ℕ, zero, suc, ◌+◌, ◌*◌, ◌≤◌, length, get_or, drop, ℤ, pos, negsuc}
use Rattle.rules.specs.Rows.{Relation, Term, Row}
use Rattle.rules.specs.Rows.Relation.{at_least, equal}
use Rattle.text.specs.Decimal.{decimal, signed_text}

-- >= and =
abbrev pub relation_text : Relation → List ℕ
relation_text at_least = 62 ∷ 61 ∷ []
relation_text equal = 61 ∷ []

-- + or -; the coefficients of "Rows" are 1 and −1
abbrev pub sign_of : ℤ → ℕ
sign_of (pos n) = 43
sign_of (negsuc n) = 45

-- a space, the sign and the variable
abbrev pub term_text : Term → List ℕ
term_text t = 32 ∷ sign_of t.coefficient ∷ decimal t.variable

unfoldable pub terms_text : List Term → List ℕ
terms_text [] = []
terms_text (t ∷ ts) = term_text t ++ terms_text ts

-- the line of row i
unfoldable pub row_text : ℕ → Row → List ℕ
row_text i r =
    decimal i ++ (32 ∷ (relation_text r.relation ++ (32 ∷ (signed_text r.right ++ (terms_text r.terms ++ (10 ∷ []))))))

-- the lines of rows, from row i on
unfoldable pub rows_text : ℕ → List Row → List ℕ
rows_text i [] = []
rows_text i (r ∷ rs) = row_text i r ++ rows_text (i + 1) rs

-- `rows R vars V`
unfoldable pub head_text : (rows variables : ℕ) → List ℕ
head_text rows variables =
    (114 ∷ 111 ∷ 119 ∷ 115 ∷ 32 ∷ []) ++ (decimal rows ++ ((32 ∷ 118 ∷ 97 ∷ 114 ∷ 115 ∷ 32 ∷ []) ++ (decimal variables ++ (10 ∷ []))))

-- the bytes begin with `count` whole records, each of the length that its term count says
abbrev pub Whole : (count : ℕ) → List ℕ → Type 0
Whole zero b = Unit {0}
Whole (suc n) b = (5 + 3 * get_or b 3 0 ≤ length b) × Whole n (drop (5 + 3 * get_or b 3 0) b)
