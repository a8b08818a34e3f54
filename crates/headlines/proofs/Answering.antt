-- Demand 2 of each call, from what its contract says.
use Rattle.std.specs.Prelude.{◌≡◌, refl, ◌↔◌, List, ℕ, ◌+◌, ◌*◌, ◌<◌, length, drop, get_or, ℤ}
use Rattle.std.proofs.Common.{sym, ap, ◌∙◌, arith}
use Rattle.std.proofs.Math.ListN.{get_or-append}
use Rattle.rules.specs.Rule.{size}
use Rattle.rules.specs.Table.{table_bytes, nodes_of}
use Rattle.rules.proofs.TableRules.{length-nodes_from}
use Rattle.rules.proofs.TableTest.{length-table, height-written}
use Rattle.rules.specs.Rows.{rows_of, rows_bytes}
use Rattle.rules.specs.Judge.{None, Verdict}
use Rattle.rules.specs.Refusals.{ReadRefused, EvaluateRefused, RowsRefused}
use Rattle.rules.specs.Demands.{Answer, Written, ExactIn}
use Rattle.rules.specs.Demands.Answer.{refused, answered}
use Rattle.rules.specs.Demands.Written.{wrote}
use Rattle.rules.specs.Outcome.{returned, buffer, read_outcome, evaluate_outcome, rows_outcome, judge_outcome}
use Rattle.rules.specs.Truth.{slot_bit}
use Rattle.rules.specs.Unaltered.{bytes_of}
use Rattle.rules.proofs.Unaltered.{words_give_bytes, words_say_same}
use Rattle.rules.proofs.Exactness.Read.{read_exact}
use Rattle.rules.proofs.Exactness.Evaluate.{evaluate_exact}
use Rattle.rules.proofs.Exactness.Rows.{rows_exact}
use Rattle.rules.proofs.Exactness.Judge.{judge_exact}
use Rattle.headlines.specs.Heights.{ReaderHeights}
use Rattle.headlines.specs.Words.{SaysBytes}
use Rattle.headlines.specs.Demand2.{Holding, ReaderAnswers, EvaluatorAnswers, RowWriterAnswers, JudgeAnswers}

record Wrote (a : Answer Written) (n : ℕ) (out out' : List ℕ) : Type 0 where
  bytes : List ℕ
  is : a ≡ answered (wrote n bytes)
  holds : Holding bytes out out'

result-answered : (a : Answer Written) (n : ℕ) (out out' : List ℕ) → out' ≡ buffer a out → returned a ≡ answered n → Wrote a n out out'
result-answered (refused k) n out out' left e = let z : ◌≡◌ {A = ℕ} 0 1 = cc in absurd (omega arith)
result-answered (answered (wrote j bytes)) n out out' left e =
    let z : j ≡ n = cc in
    record { bytes = bytes; is = ap (λ (i : ℕ). answered (wrote i bytes)) z; holds = left }

-- where a call answers n, what `Is` says is written; `Out` is the same of the result and the buffer
pub answers : {order : List ℕ} (Refused : ℕ → Type 0) (Is : Written → Type 0) (a : Answer Written) → ExactIn order Refused Is a →
    (answer : Answer ℕ) (out out' : List ℕ) → answer ≡ returned a → out' ≡ buffer a out → (n : ℕ) (Out : Type 0) →
    ((bytes : List ℕ) → Is (wrote n bytes) → Holding bytes out out' → Out) → (Out → (bytes : List ℕ) × Is (wrote n bytes)) →
    (answer ≡ answered n) ↔ (None Refused × Out)
answers Refused Is a exact answer out out' told left n Out to from = (
  λ e.
      let w = result-answered a n out out' left (sym told ∙ e) in
      let x = (exact.answers (wrote n w.bytes)).0 w.is in
      (x.0, to w.bytes x.1 w.holds),
  λ x. let y = from x.1 in told ∙ ap returned ((exact.answers (wrote n y.0)).1 (x.0, y.1)),
)

pub reader-answers : (m : ℕ) (text : List ℕ) (answer : Answer ℕ) (out out' : List ℕ) →
    answer ≡ returned (read_outcome m text (length out)) → out' ≡ buffer (read_outcome m text (length out)) out → ReaderAnswers m text answer out out'
reader-answers m text answer out out' told left n =
    answers (ReadRefused m text (length out)) _ (read_outcome m text (length out)) (read_exact m text (length out)) answer out out' told left n _
    (λ bytes i h. let e : n ≡ size i.0 = cc i.2 in let f : bytes ≡ table_bytes (nodes_of i.0) = cc i.2 in (i.0, i.1, e, rw f at h))
    (λ i. (table_bytes (nodes_of i.0), (i.0, i.1, ap (λ (k : ℕ). wrote k (table_bytes (nodes_of i.0))) i.2)))

pub reader-heights : (m : ℕ) (text : List ℕ) (answer : Answer ℕ) (out out' : List ℕ) →
    answer ≡ returned (read_outcome m text (length out)) → out' ≡ buffer (read_outcome m text (length out)) out → ReaderHeights text answer out'
reader-heights m text answer out out' told left n e =
    let x = (reader-answers m text answer out out' told left n).0 e in
    let p = x.1.0 in
    let bytes = table_bytes (nodes_of p) in
    let long : length bytes ≡ 8 * n = length-table (nodes_of p) ∙ omega (arith, length-nodes_from 0 p, x.1.2) in (
      p,
      x.1.1,
      λ i h. ap (λ (l : List ℕ). get_or l (8 * i + 7) 0) x.1.3 ∙ get_or-append bytes (drop (length bytes) out) 0 (8 * i + 7) (omega (arith, long))
          ∙ height-written (nodes_of p) i (omega (arith, length-nodes_from 0 p, x.1.2)),
    )

pub evaluator-answers : (t m l : ℕ) (table run : List ℕ) (answer : Answer ℕ) (out out' : List ℕ) →
    answer ≡ returned (evaluate_outcome t m l table run (length out)) → out' ≡ buffer (evaluate_outcome t m l table run (length out)) out →
    EvaluatorAnswers t m l table run answer out out'
evaluator-answers t m l table run answer out out' told left v =
    answers (EvaluateRefused t m l table run (length out)) _ (evaluate_outcome t m l table run (length out))
    (evaluate_exact t m l table run (length out)) answer out out' told left v _
    (λ bytes i h.
    let e : i.1 ≡ v = cc i.6 in
    let f : bytes ≡ i.2 = cc i.6 in
    (i.0, i.2, i.3, i.4, rw e at i.5, rw f at h))
    (λ i. (i.1, (i.0, v, i.1, i.2, i.3, i.4, refl)))

pub evaluator_bytes : (t m l : ℕ) (table run : List ℕ) (answer : Answer ℕ) (out out' : List ℕ) → EvaluatorAnswers t m l table run answer out out' →
    SaysBytes t m l table run answer out'
evaluator_bytes t m l table run answer out out' told v e =
    let x = ((told v).0 e).1 in
    let ns = x.0 in
    let words = x.1 in
    let bytes = words_give_bytes t l run ns words x.3 in (
      ns,
      bytes_of t words,
      x.2,
      bytes,
      λ n s h from upto.
          let inside : n < length words = omega (arith, x.3.count) in
          ap (λ (o : List ℕ). slot_bit (get_or o n 0) s) x.5 ∙ ap (λ (w : ℕ). slot_bit w s) (get_or-append words (drop (length words) out) 0 n inside)
          ∙ words_say_same t l run ns (bytes_of t words) words bytes x.3 n s h from upto,
    )

pub row-writer-answers : (t m l : ℕ) (table : List ℕ) (answer : Answer ℕ) (out out' : List ℕ) →
    answer ≡ returned (rows_outcome t m l table (length out)) → out' ≡ buffer (rows_outcome t m l table (length out)) out →
    RowWriterAnswers t m l table answer out out'
row-writer-answers t m l table answer out out' told left n =
    answers (RowsRefused t m l table (length out)) _ (rows_outcome t m l table (length out)) (rows_exact t m l table (length out)) answer out out' told left n _
    (λ bytes i h.
    let e : n ≡ length (rows_of t m l i.0) = cc i.2 in
    let f : bytes ≡ rows_bytes (rows_of t m l i.0) = cc i.2 in
    (i.0, i.1, e, rw f at h))
    (λ i. (rows_bytes (rows_of t m l i.0), (i.0, i.1, ap (λ (k : ℕ). wrote k (rows_bytes (rows_of t m l i.0))) i.2)))

pub judge-answers : (t m l : ℕ) (table : List ℕ) (figures : List ℤ) (tolerance : ℤ) (ruling : Answer Verdict) →
    ruling ≡ judge_outcome t m l table figures tolerance → JudgeAnswers t m l table figures tolerance ruling
judge-answers t m l table figures tolerance ruling told v = rw told ((judge_exact t m l table figures tolerance).answers v)
