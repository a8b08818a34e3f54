-- Demand 3 about the calls: a function reads a text, writes the rows of the table that it read and evaluates that table, all into lent buffers.
-- "Every output buffer is taken to be long enough for its output, and the table handed on is the reader's output alone."
use Rattle.std.specs.Prelude.{◌≡◌, List, ℕ, ◌*◌, ◌≤◌, length, take}
use Rattle.rules.specs.Quantities.{SlotsAllowed, LoopAllowed}
use Rattle.rules.specs.Rule.{Rule, size}
use Rattle.rules.specs.Grammar.{Says}
use Rattle.rules.specs.Table.{table_bytes, nodes_of}
use Rattle.rules.specs.Truth.{Holds, endless, TruthBit, TruthWords}
use Rattle.rules.specs.Rows.{rows_of, rows_bytes}
use Rattle.rules.specs.Judge.{None}
use Rattle.rules.specs.Refusals.{Wins, RunGood, TextRefused, ReadRefused, RowsRefused, EvaluateRefused}
use Rattle.rules.specs.Demands.{Answer, Demand3At}
use Rattle.rules.specs.Demands.Answer.{refused, answered}
use Rattle.headlines.specs.Demand2.{Holding}

-- the results of the three calls: node count, row count and the root's truth at slot 1
pub data Plan : Type 0 where
  planned : (nodes rows truth : ℕ) → Plan

-- the reader answers: the text says the rule p, and p's table is written
abbrev pub TableRead : (m : ℕ) (text table table' : List ℕ) → Rule → Type 0
TableRead m text table table' p = None (ReadRefused m text (length table)) × Says text p × Holding (table_bytes (nodes_of p)) table table'

-- the row writer answers: the rows of p's table are written
abbrev pub RowsWritten : (t m l : ℕ) (rows rows' : List ℕ) → Rule → Type 0
RowsWritten t m l rows rows' p =
    None (RowsRefused t m l (table_bytes (nodes_of p)) (length rows)) × Holding (rows_bytes (rows_of t m l (nodes_of p))) rows rows'

module _ (t m l : ℕ) (text run table rows truth table' rows' truth' : List ℕ) (answer : Answer Plan) where
  -- For every input, one of these four: the first refusal of the first call that refuses, whose buffer and those of the calls after it are as they were;
  -- or the three results.
  pub data Planning : Type 0 where
    unread : {k : ℕ} → Wins (ReadRefused m text (length table)) k →
        answer ≡ refused k → table' ≡ table → rows' ≡ rows → truth' ≡ truth → Planning
    unwritten : {k : ℕ} {p : Rule} → TableRead m text table table' p → Wins (RowsRefused t m l (table_bytes (nodes_of p)) (length rows)) k →
        answer ≡ refused k → rows' ≡ rows → truth' ≡ truth → Planning
    unevaluated : {k : ℕ} {p : Rule} → TableRead m text table table' p → RowsWritten t m l rows rows' p →
        Wins (EvaluateRefused t m l (table_bytes (nodes_of p)) run (length truth)) k →
        answer ≡ refused k → truth' ≡ truth → Planning
    done : {p : Rule} {words : List ℕ} {v : ℕ} → TableRead m text table table' p → RowsWritten t m l rows rows' p →
        None (EvaluateRefused t m l (table_bytes (nodes_of p)) run (length truth)) →
        TruthWords t l run (nodes_of p) words → TruthBit (Holds (endless t l run) p 1) v →
        answer ≡ answered (Plan.planned (size p) (length (rows_of t m l (nodes_of p))) v) → Holding words truth truth' → Planning

  -- For every text that gives no ground to refuse, every horizon, atom count, loop slot, run and common denominator D: with buffers that are long
  -- enough, the function is done, and what stands at the start of each buffer is the rule's table, its rows and its truth as demand 3 says (Demand3At of
  -- crate rules). Request N8: demand 3 is "about the run that loops to L, with V among the slacks".
  abbrev pub Demanded : Type 0
  Demanded =
      None (TextRefused m text) → SlotsAllowed t → LoopAllowed t l → RunGood t m run → (D : ℕ) → 1 ≤ D →
      (p : Rule) × Says text p ×
      (8 * size p ≤ length table → length (rows_bytes (rows_of t m l (nodes_of p))) ≤ length rows → size p ≤ length truth →
      (count v : ℕ) × (answer ≡ answered (Plan.planned (size p) count v)) ×
      Demand3At t m l D run p (take (8 * size p) table') count (take (length (rows_bytes (rows_of t m l (nodes_of p)))) rows') v (take (size p) truth'))
