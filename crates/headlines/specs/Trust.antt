-- Request N7: what the error figure that passed carries says of the rule, whatever the tolerance.
use Rattle.std.specs.Prelude.{◌≡◌, List, ℕ, ℤ, pos}
use Rattle.rules.specs.Table.{Node, Good, root}
use Rattle.rules.specs.Rows.{slack}
use Rattle.rules.specs.ErrorFigure.{ErrorFigures}
use Rattle.rules.specs.Judge.{Verdict}
use Rattle.rules.specs.Judge.VerdictWith.{passed}
use Rattle.rules.specs.Demands.{Answer, Rounded, NearTruth}
use Rattle.rules.specs.Demands.Answer.{answered}

-- "Passed carries the root's figure at slot 1", and the atoms can be rounded to a run, to whose truth every slack, V's too, is near
abbrev pub PassedNear : (t m l : ℕ) (table : List ℕ) (figures : List ℤ) (tolerance : ℤ) (ruling : Answer Verdict) → Type 0
PassedNear t m l table figures tolerance ruling =
    (n f : ℕ) → ruling ≡ answered (passed n f) →
    (ns : List Node) × (e : ℕ) × (error : ℕ → ℕ) × (run : List ℕ) × Good m table ns × (tolerance ≡ pos e) ×
    ErrorFigures t m l e ns error × (f ≡ error (slack t m (root ns) 1)) × Rounded t m figures run × NearTruth t m l ns figures error f run
