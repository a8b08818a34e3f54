-- Request N9: rules printed back. What the printer refuses and writes; and what comes of reading a text, printing the table that was read, and reading
-- the printed text again.
use Rattle.std.specs.Prelude.{◌≡◌, ◌↔◌, List, ℕ, ◌*◌, ◌≤◌, ◌<◌, length}
use Rattle.rules.specs.Rule.{Rule, size}
use Rattle.rules.specs.Grammar.{Says}
use Rattle.rules.specs.Table.{table_bytes, nodes_of}
use Rattle.rules.specs.Judge.{None}
use Rattle.rules.specs.Refusals.{Wins, TextRefused, ReadRefused}
use Rattle.rules.specs.Demands.{Answer}
use Rattle.rules.specs.Demands.Answer.{refused, answered}
use Rattle.printer_text.specs.Printed.{Printed}
use Rattle.printer_text.specs.Refused.{RootPrinted, print_order, PrintRefused}
use Rattle.headlines.specs.Demand1.{RefusesIn}
use Rattle.headlines.specs.Demand2.{Holding}
use Rattle.headlines.specs.Demand3.{TableRead}

-- "Checks: 2, then 7, then 3 when the text would pass 1,024 bytes, then 11 for its buffer."
abbrev pub PrinterRefuses : (m : ℕ) (table : List ℕ) (answer : Answer ℕ) (out out' : List ℕ) → Type 0
PrinterRefuses m table answer out out' = RefusesIn print_order (PrintRefused m table (length out)) answer out out'

-- "Print the root of a table as text without spaces and with the fewest brackets"; the result is "the length in bytes" (request N2)
abbrev pub PrinterAnswers : (m : ℕ) (table : List ℕ) (answer : Answer ℕ) (out out' : List ℕ) → Type 0
PrinterAnswers m table answer out out' =
    (n : ℕ) → (answer ≡ answered n) ↔
    (None (PrintRefused m table (length out)) × ((s : List ℕ) × RootPrinted m table s × (n ≡ length s) × Holding s out out'))

-- ---- "For a table that the reader made, the text reads to that very table, and every other text that does so has at least as many bytes."

-- the reader makes this table of a text
abbrev pub ReadsTo : (m : ℕ) (text table : List ℕ) → Type 0
ReadsTo m text table = None (TextRefused m text) × ((p : Rule) × Says text p × (table ≡ table_bytes (nodes_of p)))

module _ (m : ℕ) (text table out again table' out' again' : List ℕ) (answer : Answer ℕ) where
  -- For every input, one of these four: the reader's refusal; or 11, where the buffer for the printed text is shorter than it, or the buffer for its table
  -- is; or the printed text reads to the very table that was printed. A buffer that was not written is as it was.
  pub data PrintingBack : Type 0 where
    unread : {k : ℕ} → Wins (ReadRefused m text (length table)) k →
        answer ≡ refused k → table' ≡ table → out' ≡ out → again' ≡ again → PrintingBack
    unprinted : {p : Rule} {s : List ℕ} → TableRead m text table table' p → Printed p s → length out < length s →
        answer ≡ refused 11 → out' ≡ out → again' ≡ again → PrintingBack
    unread-again : {p : Rule} {s : List ℕ} → TableRead m text table table' p → Printed p s → Holding s out out' → length again < 8 * size p →
        answer ≡ refused 11 → again' ≡ again → PrintingBack
    done : {p : Rule} {s : List ℕ} → TableRead m text table table' p → Printed p s → Holding s out out' →
        Holding (table_bytes (nodes_of p)) again again' → answer ≡ answered (size p) →
        ((t : List ℕ) → ReadsTo m t (table_bytes (nodes_of p)) → length s ≤ length t) → PrintingBack
