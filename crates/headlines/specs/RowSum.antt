-- Request N3: what the row sum gives, and that the judge's verdicts and shortfalls do not alter.
use Rattle.std.specs.Prelude.{◌≡◌, ◌↔◌, ℕ, ℤ, pos}
use mathlib.Core.List.{List, Permᴰ}
use Rattle.rules.specs.Table.{Node, Good}
use Rattle.rules.specs.Rows.{Term, Row, sum_of}
use Rattle.rules.specs.Judge.{Broken, shortfall, None, Verdict}
use Rattle.rules.specs.RowSum.{positive_terms, RowSum, row_sum}
use Rattle.rules.specs.RowSum as Summed
use Rattle.rules.specs.Refusals.{JudgeRefused}
use Rattle.rules.specs.Demands.{Answer}
use Rattle.rules.specs.Demands.Answer.{answered}

-- "For terms in any order, the first is the sum of the positive terms alone and the second is the same number as before."
abbrev pub PositiveFirst : (figures : List ℤ) (terms : List Term) (sum : RowSum) → Type 0
PositiveFirst figures terms sum = (sum.positive ≡ sum_of figures (positive_terms terms)) × (sum.whole ≡ sum_of figures terms)

-- and the same terms in another order have the same two numbers
abbrev pub AnyOrder : Type 0
AnyOrder = (figures : List ℤ) (terms others : List Term) → Permᴰ terms others → row_sum figures terms ≡ row_sum figures others

-- ---- the judge

-- by the second number of its row sum, every row is broken exactly where it was, and its shortfall is what it was
abbrev pub SameRow : Type 0
SameRow =
    (e : ℕ) (figures : List ℤ) (row : Row) →
    (Summed.Broken e figures row ↔ Broken e figures row) × (Summed.shortfall figures row ≡ shortfall figures row)

-- a ruling that meets the judge's contract, and so has the verdict and the shortfall of before, has those worked out from row sums
abbrev pub SummedVerdict : (t m l : ℕ) (table : List ℕ) (figures : List ℤ) (tolerance : ℤ) (ruling : Answer Verdict) → Type 0
SummedVerdict t m l table figures tolerance ruling =
    (v : Verdict) → (ruling ≡ answered v) ↔
    (None (JudgeRefused t m l table figures tolerance) ×
    ((ns : List Node) × (e : ℕ) × Good m table ns × (tolerance ≡ pos e) × Summed.Judged t m l e ns figures v))
