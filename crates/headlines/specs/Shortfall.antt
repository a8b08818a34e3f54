-- Request N1: what the verdict broken carries, and that which verdict is given does not alter.
use Rattle.std.specs.Prelude.{◌≡◌, ◌↔◌, List, ℕ, ◌<◌, length, ℤ, pos, ◌<ℤ◌}
use Rattle.rules.specs.Table.{Node, Good}
use Rattle.rules.specs.Rows.{Row, rows_of}
use Rattle.rules.specs.Judge.{Broken, shortfall, None, Verdict, row_at}
use Rattle.rules.specs.Judge.VerdictWith.{broken}
use Rattle.rules.specs.Refusals.{JudgeRefused}
use Rattle.rules.specs.Demands.{Answer}
use Rattle.rules.specs.Demands.Answer.{answered}
use Rattle.rules.specs.Before.{ruling_before}
use Rattle.rules.specs.Before as Before

-- a row is broken exactly where its shortfall is above the tolerance, and it is then above 0, the goal row's too
abbrev pub BrokenIsShort : Type 0
BrokenIsShort =
    (e : ℕ) (figures : List ℤ) (row : Row) →
    (Broken e figures row ↔ (pos e <ℤ shortfall figures row)) × (Broken e figures row → pos 0 <ℤ shortfall figures row)

-- ---- of a ruling that meets the judge's contract

-- "Which verdict is given does not alter": without shortfall and error figure, the ruling has the verdict of before exactly where document 01 gives it.
-- Where the judge refuses is demand 1, as before.
abbrev pub SameVerdict : (t m l : ℕ) (table : List ℕ) (figures : List ℤ) (tolerance : ℤ) (ruling : Answer Verdict) → Type 0
SameVerdict t m l table figures tolerance ruling =
    (u : Before.Verdict) → (ruling_before ruling ≡ answered u) ↔
    (None (JudgeRefused t m l table figures tolerance) ×
    ((ns : List Node) × (e : ℕ) × Good m table ns × (tolerance ≡ pos e) × Before.Judged t m l e ns figures u))

-- "The verdict broken then carries the shortfall in millionths", that of the row it names: above the tolerance, and so above 0
abbrev pub CarriesShortfall : (t m l : ℕ) (table : List ℕ) (figures : List ℤ) (tolerance : ℤ) (ruling : Answer Verdict) → Type 0
CarriesShortfall t m l table figures tolerance ruling =
    (i : ℕ) (d : ℤ) → ruling ≡ answered (broken i d) →
    (ns : List Node) × (e : ℕ) × Good m table ns × (tolerance ≡ pos e) × (i < length (rows_of t m l ns)) ×
    (d ≡ shortfall figures (row_at (rows_of t m l ns) i)) × (pos e <ℤ d) × (pos 0 <ℤ d)
