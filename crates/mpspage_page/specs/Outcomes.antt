-- What an answer of the page writer tells of what is printed.
use Rattle.std.specs.Prelude.{◌≡◌, refl, List, ◌++◌, ℕ, ◌≤◌, leb, length, drop, Result, Ok, Err}
use Rattle.std.proofs.Common.{sym, ap, ◌∙◌, arith, leb-true}
use Rattle.rules.specs.Demands.{Answer, Written}
use Rattle.rules.specs.Demands.Answer.{answered}
use Rattle.rules.specs.Demands.Written.{wrote}
use Rattle.rules.specs.TableTest.{good, nodes_in}
use Rattle.rules.specs.Outcome.{returned, buffer, between, table_checked}
use Rattle.answers.specs.declared.Refusal.{Refusal}
use Rattle.answers.specs.Meaning.{number_of, answer_of}
use Rattle.mps.specs.Page.{page}
use Rattle.mps.specs.Outcome.{page_outcome}
use Rattle.program_input.specs.Scanning.{State}
use Rattle.program_rule.specs.Outcome.{output}
use Rattle.program_rule.specs.Outcomes.{answer-refused, answer-value, passed}
use Rattle.program_rule.specs.Buffer.{page-front}
use Rattle.program_rule.specs.Shown.{shown}
use Rattle.program_rule.specs.Told.{as_text, text_work, printed_of, Told, printed-same, shown-same, output-same}
use Rattle.mpspage_page.specs.Page.{page_text, page_work, page_printed}

-- ---- the page of a table; y is the buffer z after the page writer's call

-- a page that was written is as long as is said, and fits
page-fits : (T M : ℕ) (table : List ℕ) (room n : ℕ) (bytes : List ℕ) → page_outcome T M T table room ≡ answered (wrote n bytes) →
    (n ≡ length bytes) × (length bytes ≤ room)
unfolding page_outcome table_checked
page-fits T M table room n bytes e =
    let w = wrote n bytes in
    let text = page T M T (nodes_in table) in
    let a = (passed (between 1 64 T) 1 _ w e).1 in
    let b = (passed (between 1 16 M) 2 _ w a).1 in
    let l = (passed (between 1 T T) 13 _ w b).1 in
    let d = (passed (good M table) 7 _ w l).1 in
    let f = passed (leb (length text) room) 11 (answered (wrote (length text) text)) w d in
    let g : answered (wrote (length text) text) ≡ answered (wrote n bytes) = f.1 in
    let h : length text ≡ n = cc in
    let i : text ≡ bytes = cc in
    (sym h ∙ ap length i, omega (arith, ap length i, leb-true (length text) room f.0))

-- a page is at the start of the buffer, and a refusal leaves the buffer as it was
pub page-told : (T M : ℕ) (table z y : List ℕ) (r : Result ℕ Refusal) → answer_of r ≡ returned (page_outcome T M T table (length z)) →
    y ≡ buffer (page_outcome T M T table (length z)) z → Told (as_text page_text (page_outcome T M T table (length z))) z y r
page-told T M table z y (Ok n) e f =
    let w = answer-value (page_outcome T M T table (length z)) n e in
    let fits = page-fits T M table (length z) n w.bytes w.is in
    let is : y ≡ w.bytes ++ drop (length w.bytes) z = f ∙ ap (λ (x : Answer Written). buffer x z) w.is in
    rw w.is (record { content = is ∙ sym (page-front w.bytes z fits.1); ends = omega (arith, fits.0) }, omega (arith, fits.0, fits.1))
page-told T M table z y (Err k) e f =
    let g = answer-refused (page_outcome T M T table (length z)) (number_of k) e in
    rw g (refl, f ∙ ap (λ (x : Answer Written). buffer x z) g)

-- ---- what is printed of the work on a table, as a text

module _ (room : ℕ) where
  page-is : (T M : ℕ) (rule : List ℕ) → printed_of (text_work page_text (page_work room)) T M rule ≡ page_printed room T M rule
  unfolding page_printed
  page-is T M rule = printed-same page_text (page_work room) T M rule

  pub shown-page : (s : State) → shown (printed_of (text_work page_text (page_work room))) s ≡ shown (page_printed room) s
  shown-page s = shown-same _ (page_printed room) page-is s

  pub output-page : (input : List ℕ) → output (printed_of (text_work page_text (page_work room))) input ≡ output (page_printed room) input
  output-page input = output-same _ (page_printed room) page-is input
