-- Request N2: the fixed-column MPS page. What the page writer refuses, what it writes, and what its page says.
use Rattle.std.specs.Prelude.{◌≡◌, ◌↔◌, List, ℕ, ◌*◌, length, take, ℤ}
use Rattle.std.proofs.Math.Option.{some}
use Rattle.lists.specs.Every.{Every}
use Rattle.rules.specs.Table.{Node, Good}
use Rattle.rules.specs.Rows.{Row, variable_count, rows_of, Meets}
use Rattle.rules.specs.Judge.{None}
use Rattle.rules.specs.Demands.{Answer}
use Rattle.rules.specs.Demands.Answer.{answered}
use Rattle.mps.specs.Merged.{merged}
use Rattle.mps.specs.Page.{page}
use Rattle.mps.specs.Refused.{PageRefused}
use Rattle.mps.specs.Parsing.{parse_page}
use Rattle.mps.specs.Says.{model_of}
use Rattle.headlines.specs.Demand1.{Refuses}
use Rattle.headlines.specs.Demand2.{Holding}

-- "Checks: those of the row writer, with 11 for the page buffer."
abbrev pub PageRefuses : (t m l : ℕ) (table : List ℕ) (answer : Answer ℕ) (out out' : List ℕ) → Type 0
PageRefuses t m l table answer out out' = Refuses (PageRefused t m l table (length out)) answer out out'

-- "Write the rows as such a page"; "The result of this call .. is the length in bytes."
abbrev pub PageAnswers : (t m l : ℕ) (table : List ℕ) (answer : Answer ℕ) (out out' : List ℕ) → Type 0
PageAnswers t m l table answer out out' =
    (n : ℕ) → (answer ≡ answered n) ↔
    (None (PageRefused t m l table (length out)) ×
    ((ns : List Node) × Good m table ns × (n ≡ length (page t m l ns)) × Holding (page t m l ns) out out'))

-- "What the page says, read by the column rules, must be exactly the rows of the table after that adding and dropping": of the n bytes that are written.
-- And numerators meet a row after that adding and dropping exactly when they meet the row as the row writer has it.
abbrev pub PageMeans : (t m l : ℕ) (table : List ℕ) (answer : Answer ℕ) (out' : List ℕ) → Type 0
PageMeans t m l table answer out' =
    (n : ℕ) → answer ≡ answered n →
    (ns : List Node) × Good m table ns ×
    (parse_page (take n out') ≡ some (model_of (m * t) (variable_count t m l ns) (rows_of t m l ns))) ×
    ((D : ℕ) (xs : List ℤ) → Every (λ (r : Row). Meets D xs (merged (variable_count t m l ns) r) ↔ Meets D xs r) (rows_of t m l ns))
