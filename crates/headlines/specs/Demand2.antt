-- Demand 2: "Each call is exactly what the papers say, as proved equations." Stated of any answer and final buffer that meet a call's contract;
-- src/lib.rt has it as the contracts of functions. "On success, bytes past the output keep their content."
use Rattle.std.specs.Prelude.{◌≡◌, ◌↔◌, List, ◌++◌, ℕ, length, drop, ℤ, pos}
use Rattle.rules.specs.Rule.{Rule, size}
use Rattle.rules.specs.Grammar.{Says}
use Rattle.rules.specs.Table.{Node, Good, table_bytes, nodes_of, rule_at, root}
use Rattle.rules.specs.Truth.{Holds, endless, TruthBit, TruthWords}
use Rattle.rules.specs.Rows.{rows_of, rows_bytes}
use Rattle.rules.specs.Judge.{None, Verdict, Judged}
use Rattle.rules.specs.Refusals.{ReadRefused, EvaluateRefused, RowsRefused, JudgeRefused}
use Rattle.rules.specs.Demands.{Answer}
use Rattle.rules.specs.Demands.Answer.{answered}

-- the output, and what stood behind it
abbrev pub Holding : List ℕ → (out out' : List ℕ) → Type 0
Holding bytes out out' = out' ≡ bytes ++ drop (length bytes) out

-- the reader answers N exactly where the text is a rule of N nodes that nothing refuses, and its table is then written
abbrev pub ReaderAnswers : (m : ℕ) (text : List ℕ) (answer : Answer ℕ) (out out' : List ℕ) → Type 0
ReaderAnswers m text answer out out' =
    (n : ℕ) → (answer ≡ answered n) ↔
    (None (ReadRefused m text (length out)) × ((p : Rule) × Says text p × (n ≡ size p) × Holding (table_bytes (nodes_of p)) out out'))

-- the evaluator answers the root's truth at slot 1 on the run that loops to L, and the words with each node's truth at each slot are then written
abbrev pub EvaluatorAnswers : (t m l : ℕ) (table run : List ℕ) (answer : Answer ℕ) (out out' : List ℕ) → Type 0
EvaluatorAnswers t m l table run answer out out' =
    (v : ℕ) → (answer ≡ answered v) ↔
    (None (EvaluateRefused t m l table run (length out)) ×
    ((ns : List Node) × (words : List ℕ) × Good m table ns × TruthWords t l run ns words ×
    TruthBit (Holds (endless t l run) (rule_at ns (root ns)) 1) v × Holding words out out'))

-- the row writer answers the row count, and the records of the table's rows are then written
abbrev pub RowWriterAnswers : (t m l : ℕ) (table : List ℕ) (answer : Answer ℕ) (out out' : List ℕ) → Type 0
RowWriterAnswers t m l table answer out out' =
    (n : ℕ) → (answer ≡ answered n) ↔
    (None (RowsRefused t m l table (length out)) ×
    ((ns : List Node) × Good m table ns × (n ≡ length (rows_of t m l ns)) × Holding (rows_bytes (rows_of t m l ns)) out out'))

-- the judge's verdict is the one that document 01 gives
abbrev pub JudgeAnswers : (t m l : ℕ) (table : List ℕ) (figures : List ℤ) (tolerance : ℤ) (ruling : Answer Verdict) → Type 0
JudgeAnswers t m l table figures tolerance ruling =
    (v : Verdict) → (ruling ≡ answered v) ↔
    (None (JudgeRefused t m l table figures tolerance) × ((ns : List Node) × (e : ℕ) × Good m table ns × (tolerance ≡ pos e) × Judged t m l e ns figures v))
