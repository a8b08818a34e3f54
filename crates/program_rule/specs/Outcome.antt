-- What a program answers and prints, computed; contracts cite these. Refusing and Whole prove that they are as Output says.
use Rattle.std.specs.Prelude.{Bool, List, ℕ}
use Rattle.rules.specs.Demands.{Answer, Written}
use Rattle.rules.specs.Demands.Answer.{refused, answered}
use Rattle.rules.specs.Demands.Written.{wrote}
use Rattle.rules.specs.Outcome.{require, between, read_outcome}
use Rattle.program_input.specs.Lines.{line, after_line, FirstLine}
use Rattle.program_input.specs.Scanning.{begin, steps, settled}
use Rattle.program_input.proofs.Exact.{first_line?}
use Rattle.program_rule.specs.Sizes.{table_room, text_room}
use Rattle.program_rule.specs.Output.{bad_input}

-- a rule read for T slots: the check of T, which is no check of the reader's, and then the reader's answer. Any table fits.
unfoldable pub rule_outcome : (T M : ℕ) (text : List ℕ) → Answer Written
rule_outcome T M text = require (between 1 64 T) 1 (read_outcome M text table_room)

-- what a program makes of T, M and a table of N nodes
abbrev pub Work : Type 0 → Type 0
Work A = (T M N : ℕ) (table : List ℕ) → Answer A

abbrev pub read_then : {A : Type 0} → Work A → (T M : ℕ) → Answer Written → Answer A
read_then work T M (refused k) = refused k
read_then work T M (answered (wrote N table)) = work T M N table

-- the rule is read, and then the program works on its table
unfoldable pub rule_then : {A : Type 0} → Work A → (T M : ℕ) (text : List ℕ) → Answer A
rule_then work T M text = read_then work T M (rule_outcome T M text)

abbrev pub output_of : ((T M : ℕ) (text : List ℕ) → List ℕ) → {s : List ℕ} → Dec ((T : ℕ) × (M : ℕ) × FirstLine s T M) → (text : List ℕ) → List ℕ
output_of print (yes p) text = print p.0 p.1 text
output_of print (no p) text = bad_input

unfoldable pub output : ((T M : ℕ) (text : List ℕ) → List ℕ) → (input : List ℕ) → List ℕ
output print input = output_of print (first_line? (line input)) (line (after_line input))

-- the scan of these bytes is settled, and a program reads no more
unfoldable pub enough : (bytes : List ℕ) → Bool
enough bytes = settled (steps text_room begin bytes).stage
