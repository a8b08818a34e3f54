-- "Judge": the verdict on a solver's figures (the judge checks a candidate solution).
use Rattle.std.specs.Prelude.{◌≡◌, ◌⊎◌, List, [], ℕ, ◌+◌, ◌*◌, ◌<◌, length, get_or, ℤ, pos, neg_ℤ, ◌-ℤ◌, ◌*ℤ◌, nat_abs, ◌<ℤ◌}
use Rattle.rules.specs.Quantities.{zero, one}
use Rattle.rules.specs.Table.{Node, root}
use Rattle.rules.specs.Rows.{Relation, Row, eq, value_at, sum_of, slack, rows_of}
use Rattle.rules.specs.Rows.Relation.{at_least, equal}
use Rattle.rules.specs.ErrorFigure.{ErrorFigures}

-- more than e from b
abbrev pub Apart : (e : ℕ) → (b x : ℤ) → Type 0
Apart e b x = e < nat_abs (x -ℤ b)

-- "below −e or above 1,000,000 + e"
abbrev pub Outside : (e : ℕ) → ℤ → Type 0
Outside e x = (x <ℤ neg_ℤ (pos e)) ⊎ (pos (one + e) <ℤ x)

-- "more than e from both 0 and 1,000,000"
abbrev pub NotBinary : (e : ℕ) → ℤ → Type 0
NotBinary e x = Apart e (pos zero) x × Apart e (pos one) x

-- "A ≥ row holds when its sum is at least the right side times 1,000,000, less e. An = row holds when the difference is at most e either way."
abbrev pub BrokenBy : Relation → (e : ℕ) → (right sum : ℤ) → Type 0
BrokenBy at_least e b s = s <ℤ (b -ℤ pos e)
BrokenBy equal e b s = Apart e b s

-- of a row with this sum
abbrev pub BrokenWith : (e : ℕ) → Row → (sum : ℤ) → Type 0
BrokenWith e r s = BrokenBy r.relation e (r.right *ℤ pos one) s

abbrev pub Broken : (e : ℕ) → List ℤ → Row → Type 0
Broken e xs r = BrokenWith e r (sum_of xs r.terms)

-- Request N1: "for a ≥ row the right side less the sum, for an = row the distance between them. The tolerance is not taken off."
abbrev pub shortfall_by : Relation → (right sum : ℤ) → ℤ
shortfall_by at_least b s = b -ℤ s
shortfall_by equal b s = pos (nat_abs (s -ℤ b))

-- "in millionths"
abbrev pub shortfall_with : Row → (sum : ℤ) → ℤ
shortfall_with r s = shortfall_by r.relation (r.right *ℤ pos one) s

abbrev pub shortfall : List ℤ → Row → ℤ
shortfall xs r = shortfall_with r (sum_of xs r.terms)

-- the lowest number of which P holds; and none does
pub record Lowest (P : ℕ → Type 0) (n : ℕ) : Type 0 where
  pub holds : P n
  pub below : (k : ℕ) → k < n → P k → ⊥

abbrev pub None : (ℕ → Type 0) → Type 0
None P = (k : ℕ) → P k → ⊥

-- "outside with variable, not binary with variable, broken with row, passed with row count", and what the requests let broken (B) and passed (P) carry
pub data VerdictWith (B P : Type 0) : Type 0 where
  outside not-binary : ℕ → VerdictWith B P
  broken : (row : ℕ) (carried : B) → VerdictWith B P
  passed : (rows : ℕ) (carried : P) → VerdictWith B P

-- row i of a list of rows, and a row of no terms where it has none
abbrev pub no_row : Row
no_row = eq [] (pos 0)

abbrev pub row_at : List Row → ℕ → Row
row_at rows i = get_or rows i no_row

abbrev pub OutsideAt : (e : ℕ) → List ℤ → ℕ → Type 0
OutsideAt e xs v = (v < length xs) × Outside e (value_at xs v)

-- of A atom variables
abbrev pub NotBinaryAt : (A e : ℕ) → List ℤ → ℕ → Type 0
NotBinaryAt A e xs v = (v < A) × NotBinary e (value_at xs v)

abbrev pub BrokenAt : (IsBroken : Row → Type 0) → List Row → ℕ → Type 0
BrokenAt IsBroken rows i = (i < length rows) × IsBroken (row_at rows i)

-- "Its verdict is the first of: outside, with the lowest variable ..; not binary, with the lowest atom variable ..;
-- broken, with the lowest row number; passed, with the row count." Over the number of atom variables, the rows, what a row's sum is, what broken carries of
-- its shortfall and what passed may carry, so that it serves the judge of today and those of before the requests.
module _ {B P : Type 0} (A e : ℕ) (xs : List ℤ) (rows : List Row) (sum : Row → ℤ) (carried : (shortfall : ℤ) → B) (Carries : P → Type 0) where
  abbrev pub IsBroken : Row → Type 0
  IsBroken r = BrokenWith e r (sum r)

  pub data JudgedBy : VerdictWith B P → Type 0 where
    is-outside : {v : ℕ} → Lowest (OutsideAt e xs) v → JudgedBy (VerdictWith.outside v)
    is-not-binary : {v : ℕ} → None (OutsideAt e xs) → Lowest (NotBinaryAt A e xs) v → JudgedBy (VerdictWith.not-binary v)
    is-broken : {i : ℕ} → None (OutsideAt e xs) → None (NotBinaryAt A e xs) → Lowest (BrokenAt IsBroken rows) i →
        JudgedBy (VerdictWith.broken i (carried (shortfall_with (row_at rows i) (sum (row_at rows i)))))
    is-passed : {x : P} → None (OutsideAt e xs) → None (NotBinaryAt A e xs) → None (BrokenAt IsBroken rows) → Carries x →
        JudgedBy (VerdictWith.passed (length rows) x)

-- Request N7, "the root's figure at slot 1", where `Figures` says which the error figures are
abbrev pub RootFigure : (T M : ℕ) → List Node → (Figures : (ℕ → ℕ) → Type 0) → ℕ → Type 0
RootFigure T M ns Figures k = (error : ℕ → ℕ) × Figures error × (k ≡ error (slack T M (root ns) 1))

-- The judge of today. Request N1: "The verdict broken then carries the shortfall in millionths". Request N7: "Passed carries the root's figure at slot 1."
abbrev pub Verdict : Type 0
Verdict = VerdictWith ℤ ℕ

abbrev pub Judged : (T M L e : ℕ) → List Node → List ℤ → Verdict → Type 0
Judged T M L e ns xs =
    JudgedBy (M * T) e xs (rows_of T M L ns) (λ r. sum_of xs r.terms) (λ d. d) (RootFigure T M ns (ErrorFigures T M L e ns))
