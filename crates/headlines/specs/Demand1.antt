-- Demand 1: "Every call copes with all input, of any length and content; bad input brings the refusal that comes first (the lowest number; from N4 on,
-- the first in the order); no refusal writes a byte into a lent buffer." Stated of any answer and final buffer that meet a call's contract; src/lib.rt
-- has it as the contracts of functions.
use Rattle.std.specs.Prelude.{◌≡◌, ◌↔◌, List, ℕ, length, ℤ}
use Rattle.rules.specs.Judge.{Verdict}
use Rattle.rules.specs.Refusals.{order, WinsIn, Wins, ReadRefused, EvaluateRefused, RowsRefused, JudgeRefused}
use Rattle.rules.specs.Demands.{Answer}
use Rattle.rules.specs.Demands.Answer.{refused}

-- the answer is a refusal exactly where it is the first that applies, and the buffer is then as it was
pub record RefusesIn (order : List ℕ) (Refused : ℕ → Type 0) (answer : Answer ℕ) (out out' : List ℕ) : Type 0 where
  pub first : (k : ℕ) → (answer ≡ refused k) ↔ WinsIn order Refused k
  pub untouched : (k : ℕ) → answer ≡ refused k → out' ≡ out

abbrev pub Refuses : (Refused : ℕ → Type 0) (answer : Answer ℕ) (out out' : List ℕ) → Type 0
Refuses Refused answer out out' = RefusesIn order Refused answer out out'

abbrev pub ReaderRefuses : (m : ℕ) (text : List ℕ) (answer : Answer ℕ) (out out' : List ℕ) → Type 0
ReaderRefuses m text answer out out' = Refuses (ReadRefused m text (length out)) answer out out'

abbrev pub EvaluatorRefuses : (t m l : ℕ) (table run : List ℕ) (answer : Answer ℕ) (out out' : List ℕ) → Type 0
EvaluatorRefuses t m l table run answer out out' = Refuses (EvaluateRefused t m l table run (length out)) answer out out'

abbrev pub RowWriterRefuses : (t m l : ℕ) (table : List ℕ) (answer : Answer ℕ) (out out' : List ℕ) → Type 0
RowWriterRefuses t m l table answer out out' = Refuses (RowsRefused t m l table (length out)) answer out out'

abbrev pub JudgeRefuses : (t m l : ℕ) (table : List ℕ) (figures : List ℤ) (tolerance : ℤ) (ruling : Answer Verdict) → Type 0
JudgeRefuses t m l table figures tolerance ruling = (k : ℕ) → (ruling ≡ refused k) ↔ Wins (JudgeRefused t m l table figures tolerance) k
