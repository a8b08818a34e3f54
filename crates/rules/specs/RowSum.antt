-- Request N3: the row sum adds the positive terms first, and gives the sum reached there beside the whole sum.
use Rattle.std.specs.Prelude.{Bool, cond, not, List, [], ◌∷◌, ℕ, ◌*◌, ℤ, pos, ◌+ℤ◌, ◌*ℤ◌}
use Rattle.std.specs.Int.Signed.{lt_z}
use Rattle.rules.specs.Table.{Node}
use Rattle.rules.specs.Rows.{Term, Row, value_at, rows_of}
use Rattle.rules.specs.ErrorFigure.{ErrorFigures}
use Rattle.rules.specs.Judge.{BrokenWith, shortfall_with, JudgedBy, RootFigure, Verdict}

-- "the positive terms (those with a positive coefficient, whatever the figure)"
abbrev pub is_positive : Term → Bool
is_positive t = lt_z (pos 0) t.coefficient

-- the terms of which `taken` says so, in the order of the row
abbrev pub terms_where : (taken : Term → Bool) → List Term → List Term
terms_where taken [] = []
terms_where taken (t ∷ ts) = cond (taken t) (t ∷ terms_where taken ts) (terms_where taken ts)

abbrev pub positive_terms : List Term → List Term
positive_terms ts = terms_where is_positive ts

-- ---- the row sum

-- a pass through the row: to the sum s, those terms of which `taken` says so are added one after the other
abbrev pub pass : (taken : Term → Bool) → List ℤ → (s : ℤ) → List Term → ℤ
pass taken xs s [] = s
pass taken xs s (t ∷ ts) = pass taken xs (cond (taken t) (s +ℤ t.coefficient *ℤ value_at xs t.variable) s) ts

pub record RowSum : Type 0 where
  pub positive : ℤ
  pub whole : ℤ

-- "the row sum adds the positive terms .. first, wherever they stand in the row, and gives the sum reached there beside the whole sum"
abbrev pub row_sum : List ℤ → List Term → RowSum
row_sum xs ts =
    let reached = pass is_positive xs (pos 0) ts in
    record { positive = reached; whole = pass (λ t. not (is_positive t)) xs reached ts }

-- ---- the judge as in Judge.antt, with the second number of the row sum for a row's sum. Unaltered.antt proves that it gives the same verdicts and shortfalls.

abbrev pub Broken : (e : ℕ) → List ℤ → Row → Type 0
Broken e xs r = BrokenWith e r (row_sum xs r.terms).whole

abbrev pub shortfall : List ℤ → Row → ℤ
shortfall xs r = shortfall_with r (row_sum xs r.terms).whole

abbrev pub Judged : (T M L e : ℕ) → List Node → List ℤ → Verdict → Type 0
Judged T M L e ns xs =
    JudgedBy (M * T) e xs (rows_of T M L ns) (λ r. (row_sum xs r.terms).whole) (λ d. d) (RootFigure T M ns (ErrorFigures T M L e ns))
