-- The headlines: every statement that a user of the toolkit cites, with its proof, in the papers' order. They speak of the functions that the calls'
-- contracts cite (`read_outcome` and the like, with returned and buffer); of the calls themselves, on the buffers lent to them, the contracts of crate demands
-- state the same. What a statement says stands in Demands and Before of crate rules, in Says and Refused of crate mps, in Printed and Refused of crate
-- printer_text, and in this folder.
use Rattle.std.specs.Prelude.{◌≡◌, refl, ◌↔◌, List, ℕ, ◌≤◌, length, ℤ}
use Rattle.rules.specs.Quantities.{LoopAllowed}
use Rattle.rules.specs.Rule.{Rule}
use Rattle.rules.specs.Table.{Node, Good}
use Rattle.rules.specs.Truth.{Holds, endless, TruthWords}
use Rattle.rules.specs.Rows.{Term, variable_count, slack_rows, goal_row, rows_of}
use Rattle.rules.specs.ErrorFigure.{ErrorFigures}
use Rattle.rules.specs.Judge.{Verdict, Judged}
use Rattle.rules.specs.RowSum.{row_sum}
use Rattle.rules.specs.Demands.{ReaderExact, OneReading, HeightsRight, EvaluatorExact, FirstSlotExact, RowsExact, JudgeExact, OnlyTheTruth, Demand3}
use Rattle.rules.specs.Demands.{PassedIsNear, RoundedRun, OneFigureEach}
use Rattle.rules.specs.Before.{endless_before, TruthWordsBefore, rows_before, variables_before, ErrorFiguresBefore, JudgedBefore}
use Rattle.rules.specs.Before.{EvaluatorExactBefore, RowsExactBefore, JudgeExactBefore}
use Rattle.rules.specs.Outcome.{returned, buffer, read_outcome, evaluate_outcome, rows_outcome, judge_outcome}
use Rattle.rules.specs.Words.{first_slot}
use Rattle.rules.proofs.Words as FirstSlots
use Rattle.rules.proofs.TableTest as TableTest
use Rattle.rules.proofs.Reading as Reading
use Rattle.rules.proofs.Exactness.Read as Reader
use Rattle.rules.proofs.Exactness.Evaluate as Evaluator
use Rattle.rules.proofs.Exactness.Rows as RowWriter
use Rattle.rules.proofs.Exactness.Judge as Judging
use Rattle.rules.proofs.Solution.Truths as Truths
use Rattle.rules.proofs.Solution.Bytes as Bytes
use Rattle.rules.proofs.Errors.Figures as Figures
use Rattle.rules.proofs.Errors.Passed as Near
use Rattle.rules.proofs.NoLoop as NoLoop
use Rattle.rules.specs.Starred.{StarredShown}
use Rattle.rules.proofs.StarredProof as StarredLines
use Rattle.mps.specs.Page.{page}
use Rattle.mps.specs.Says.{PageSays, SameMeaning}
use Rattle.mps.specs.Refused.{PageExact}
use Rattle.mps.specs.Outcome.{page_outcome}
use Rattle.mps.specs.Before.{page_before, PageExactBefore}
use Rattle.mps.proofs.NoLoop as PageNoLoop
use Rattle.mps.proofs.Exact as PageWriter
use Rattle.mps.proofs.Proved as PageReader
use Rattle.mps.proofs.Meaning as PageMeaning
use Rattle.printer_text.specs.Refused.{PrinterExact, OneText, PrintsBack}
use Rattle.printer_text.specs.Outcome.{print_outcome}
use Rattle.printer_text.proofs.Proved as PrintedText
use Rattle.printer_text.proofs.Exact as Printer
use Rattle.printer_text.proofs.Back as PrintedBack
use Rattle.headlines.specs.Heights.{ReaderHeights}
use Rattle.headlines.specs.Words.{SaysBytes}
use Rattle.headlines.specs.Passed.{PassedIff, PassedIsTrue, PassedMeans, PassedAtZero}
use Rattle.headlines.specs.Trust.{PassedNear}
use Rattle.headlines.specs.Shortfall.{BrokenIsShort, SameVerdict, CarriesShortfall}
use Rattle.headlines.specs.RowSum.{PositiveFirst, AnyOrder, SameRow, SummedVerdict}
use Rattle.headlines.proofs.Answering as Answering
use Rattle.headlines.proofs.Passing as Passing
use Rattle.headlines.proofs.Carrying as Carrying
use Rattle.headlines.proofs.Summing as Summing

-- ---- demands 1 and 2 of each call: "bad input brings the refusal that comes first"; "Each call is exactly what the papers say, as proved equations."

pub reader_exact : ReaderExact read_outcome
reader_exact = Reader.read_exact

pub evaluator_exact : EvaluatorExact evaluate_outcome
evaluator_exact = Evaluator.evaluate_exact

pub rows_exact : RowsExact rows_outcome
rows_exact = RowWriter.rows_exact

pub judge_exact : JudgeExact judge_outcome
judge_exact = Judging.judge_exact

pub page_exact : PageExact page_outcome
page_exact = PageWriter.page_exact

pub printer_exact : PrinterExact print_outcome
printer_exact = Printer.print_exact

-- "exactly the grammar, by one reading"
pub one-reading : OneReading
one-reading = Reading.one-reading

-- ---- demand 3: "exactly one meets the limits and every row but the goal row", of every good table, shared children included ..

pub only_the_truth : (T M L D : ℕ) (run table : List ℕ) (ns : List Node) → Good M table ns → LoopAllowed T L → 1 ≤ D →
    OnlyTheTruth T M L D run ns (slack_rows T M L ns) (goal_row T M ns)
only_the_truth T M L D run table ns good loop 0<D = Truths.only_the_truth T M L D loop run ns good.nodes 0<D good.some

-- .. and of every text that gives no ground to refuse: "About the very bytes that reader and row writer write."
pub demand3 : Demand3 read_outcome rows_outcome evaluate_outcome
demand3 = Bytes.demand3

-- ---- the judge: "passed, with the row count", exactly when every limit and row holds and every atom is 0 or 1, within e; with e = 0 that is the truth

pub passed_iff : PassedIff
passed_iff = Passing.passed_iff

pub passed-is-true : PassedIsTrue
passed-is-true = Passing.passed-is-true

-- ---- request N1: "for a ≥ row the right side less the sum, for an = row the distance between them"

pub broken-is-short : BrokenIsShort
broken-is-short = Carrying.broken-is-short

-- ---- request N2: "What the page says, read by the column rules, must be exactly the rows of the table after that adding and dropping."

pub page-says : PageSays
page-says = PageReader.page-says

-- and that adding and dropping leaves what a row means
pub same_meaning : SameMeaning
same_meaning = PageMeaning.same_meaning

-- ---- request N3: "For terms in any order, the first is the sum of the positive terms alone and the second is the same number as before."

pub positive-first : (figures : List ℤ) (terms : List Term) → PositiveFirst figures terms (row_sum figures terms)
positive-first = Summing.positive-first

pub in-any-order : AnyOrder
in-any-order = Summing.in-any-order

pub same_row : SameRow
same_row = Summing.same_row

-- ---- request N4: "Demand 2 .. and demand 3 hold for rules with windows too, shown for all widths together." They are the statements above, where rules
-- and tables have windows of every width.

-- ---- request N5: "The old bytes and the new words must say the same for every node and slot."

pub says-bytes : (T M L : ℕ) (table run out : List ℕ) →
    SaysBytes T M L table run (returned (evaluate_outcome T M L table run (length out))) (buffer (evaluate_outcome T M L table run (length out)) out)
says-bytes T M L table run out = Answering.evaluator_bytes T M L table run _ out _ (Answering.evaluator-answers T M L table run _ out _ refl refl)

-- "A new call takes one word and gives the first slot with a set bit, or says that there is none."
pub first-slot_exact : FirstSlotExact first_slot
first-slot_exact = FirstSlots.first-slot_exact

-- ---- request N6: "Write the height into every node record", and of good tables, "Callers may then rely on it."

pub reader-heights : (M : ℕ) (text out : List ℕ) →
    ReaderHeights text (returned (read_outcome M text (length out))) (buffer (read_outcome M text (length out)) out)
reader-heights M text out = Answering.reader-heights M text _ out _ refl refl

pub heights_right : HeightsRight
heights_right = TableTest.height-byte

-- ---- request N7: "Each slack is within its own figure of the truth, wherever that figure is below 1,000,000."

pub passed-is-near : PassedIsNear
passed-is-near = Near.passed-is-near

-- "the run made by rounding each atom"
pub rounded_run : RoundedRun
rounded_run = Near.rounded_run

-- "Give passed an error figure, counted thus."
pub one-figure-each : OneFigureEach
one-figure-each T M L e table ns good loop =
    let nodes = good.nodes in
    ((Figures.figure_of T M L e ns loop nodes, Figures.figures_exist T M L e ns loop nodes), Figures.one-figure T M L e ns loop nodes)

-- ---- the judge's ruling on a table and figures

module _ (T M L : ℕ) (table : List ℕ) (figures : List ℤ) (tolerance : ℤ) where
  -- passed, exactly when; and with e = 0
  pub passed-means : PassedMeans T M L table figures tolerance (judge_outcome T M L table figures tolerance)
  passed-means = Passing.passed-means T M L table figures tolerance _ refl

  pub passed-at-zero : PassedAtZero T M L table figures tolerance (judge_outcome T M L table figures tolerance)
  passed-at-zero = Passing.passed-at-zero T M L table figures tolerance _ refl

  -- N1: "Which verdict is given does not alter."
  pub same-verdict : SameVerdict T M L table figures tolerance (judge_outcome T M L table figures tolerance)
  same-verdict = Carrying.same-verdict T M L table figures tolerance _ refl

  -- N1: "The verdict broken then carries the shortfall in millionths"
  pub carries-shortfall : CarriesShortfall T M L table figures tolerance (judge_outcome T M L table figures tolerance)
  carries-shortfall = Carrying.carries-shortfall T M L table figures tolerance _ refl

  -- N3: "the same number as before", and so the same verdict
  pub summed-verdict : SummedVerdict T M L table figures tolerance (judge_outcome T M L table figures tolerance)
  summed-verdict = Summing.summed-verdict T M L table figures tolerance _ refl

  -- N7: "Passed carries the root's figure at slot 1. When it is below 500,000, the run .. must satisfy the rule at slot 1."
  pub passed-near : PassedNear T M L table figures tolerance (judge_outcome T M L table figures tolerance)
  passed-near = Passing.passed-near T M L table figures tolerance _ refl

-- ---- request N8: "With L equal to T everything is as it was". What it was stands in Before of crate rules and, of the page, in Before of crate mps.

pub same_truth : (T : ℕ) (run : List ℕ) → 1 ≤ T → (p : Rule) (t : ℕ) → Holds (endless T T run) p t ≡ Holds (endless_before T run) p t
same_truth = NoLoop.same_truth

pub same_words : (T : ℕ) (run : List ℕ) → 1 ≤ T → (ns : List Node) (words : List ℕ) → TruthWords T T run ns words ↔ TruthWordsBefore T run ns words
same_words = NoLoop.same_words

pub same_rows : (T M : ℕ) → 1 ≤ T → (ns : List Node) → rows_of T M T ns ≡ rows_before T M ns
same_rows = NoLoop.same_rows

pub same-page : (T M : ℕ) → 1 ≤ T → (ns : List Node) → page T M T ns ≡ page_before T M ns
same-page = PageNoLoop.same-page

pub same-variables : (T M : ℕ) (ns : List Node) → variable_count T M T ns ≡ variables_before T M ns
same-variables = NoLoop.same-variables

pub same-figures : (T M : ℕ) → 1 ≤ T → (e : ℕ) (ns : List Node) (error : ℕ → ℕ) → ErrorFigures T M T e ns error ↔ ErrorFiguresBefore T M e ns error
same-figures = NoLoop.same-figures

pub same_verdicts : (T M : ℕ) → 1 ≤ T → (e : ℕ) (ns : List Node) (xs : List ℤ) (v : Verdict) → Judged T M T e ns xs v ↔ JudgedBefore T M e ns xs v
same_verdicts = NoLoop.same_verdicts

-- .. and each call, for every T, is refused and answers exactly as was demanded before
pub same-evaluate : EvaluatorExactBefore (λ T M table run room. evaluate_outcome T M T table run room)
same-evaluate = NoLoop.same-evaluate

pub same-row_writer : RowsExactBefore (λ T M table room. rows_outcome T M T table room)
same-row_writer = NoLoop.same-row_writer

pub same-page_call : PageExactBefore (λ T M table room. page_outcome T M T table room)
same-page_call = PageNoLoop.same-page_call

pub same_judge : JudgeExactBefore (λ T M table figures tolerance. judge_outcome T M T table figures tolerance)
same_judge = NoLoop.same_judge

-- ---- request N9: "text without spaces and with the fewest brackets": every rule has one such text, and every other text that says the rule is longer

pub one-text : OneText
one-text = PrintedText.one-text

-- "For a table that the reader made, the text reads to that very table, and every other text that does so has at least as many bytes."
pub prints-back : PrintsBack read_outcome print_outcome
prints-back = PrintedBack.prints-back

-- ---- "Known rules and runs": "A star marks those shown within the proof."

pub starred-shown : StarredShown
starred-shown = StarredLines.starred-shown
