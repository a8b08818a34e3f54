-- Demand 1 of each call, from what its contract says; and what a call that does not refuse knows of T, M and L.
use Rattle.std.specs.Prelude.{◌≡◌, ◌↔◌, List, ℕ, ◌≤◌, length, ℤ}
use Rattle.std.proofs.Common.{sym, ap, ◌∙◌, arith}
use Rattle.std.proofs.Math.Logic.Iff as Iff
use Rattle.rules.specs.Quantities.{SlotsAllowed, LoopAllowed, AtomsAllowed}
use Rattle.rules.specs.Judge.{None, Verdict}
use Rattle.rules.specs.Refusals.{TableRefused, ReadRefused, EvaluateRefused, RowsRefused, JudgeRefused}
use Rattle.rules.specs.Demands.{Answer, Written, ExactIn}
use Rattle.rules.specs.Demands.Answer.{refused, answered}
use Rattle.rules.specs.Demands.Written.{wrote}
use Rattle.rules.specs.Outcome.{returned, buffer, read_outcome, evaluate_outcome, rows_outcome, judge_outcome}
use Rattle.rules.proofs.Exactness.Tests.{at_least}
use Rattle.rules.proofs.Exactness.Read.{read_exact}
use Rattle.rules.proofs.Exactness.Evaluate.{evaluate_exact}
use Rattle.rules.proofs.Exactness.Rows.{rows_exact}
use Rattle.rules.proofs.Exactness.Judge.{judge_exact}
use Rattle.headlines.specs.Demand1.{RefusesIn, ReaderRefuses, EvaluatorRefuses, RowWriterRefuses, JudgeRefuses}

result-refused : (a : Answer Written) (k : ℕ) → (returned a ≡ refused k) ↔ (a ≡ refused k)
result-refused (refused j) k = (λ e. let z : j ≡ k = cc in ap (λ (i : ℕ). refused i) z, λ e. let z : j ≡ k = cc in ap (λ (i : ℕ). refused i) z)
result-refused (answered (wrote n bytes)) k =
    (λ e. let z : ◌≡◌ {A = ℕ} 0 1 = cc in absurd (omega arith), λ e. let z : ◌≡◌ {A = ℕ} 0 1 = cc in absurd (omega arith))

module _ {order : List ℕ} (Refused : ℕ → Type 0) (Is : Written → Type 0) (a : Answer Written) (exact : ExactIn order Refused Is a) (answer : Answer ℕ)
    (out out' : List ℕ) (told : answer ≡ returned a) (left : out' ≡ buffer a out) where
  pub refuses : RefusesIn order Refused answer out out'
  refuses = record {
    first = λ k. rw told (Iff.trans (result-refused a k) (exact.refuses k));
    untouched = λ k e. left ∙ ap (λ (x : Answer Written). buffer x out) ((result-refused a k).0 (sym told ∙ e));
  }

pub reader-refuses : (m : ℕ) (text : List ℕ) (answer : Answer ℕ) (out out' : List ℕ) →
    answer ≡ returned (read_outcome m text (length out)) → out' ≡ buffer (read_outcome m text (length out)) out → ReaderRefuses m text answer out out'
reader-refuses m text answer out out' told left =
    refuses (ReadRefused m text (length out)) _ (read_outcome m text (length out)) (read_exact m text (length out)) answer out out' told left

pub evaluator-refuses : (t m l : ℕ) (table run : List ℕ) (answer : Answer ℕ) (out out' : List ℕ) →
    answer ≡ returned (evaluate_outcome t m l table run (length out)) → out' ≡ buffer (evaluate_outcome t m l table run (length out)) out →
    EvaluatorRefuses t m l table run answer out out'
evaluator-refuses t m l table run answer out out' told left =
    refuses (EvaluateRefused t m l table run (length out)) _ (evaluate_outcome t m l table run (length out))
    (evaluate_exact t m l table run (length out)) answer out out' told left

pub row-writer-refuses : (t m l : ℕ) (table : List ℕ) (answer : Answer ℕ) (out out' : List ℕ) →
    answer ≡ returned (rows_outcome t m l table (length out)) → out' ≡ buffer (rows_outcome t m l table (length out)) out →
    RowWriterRefuses t m l table answer out out'
row-writer-refuses t m l table answer out out' told left =
    refuses (RowsRefused t m l table (length out)) _ (rows_outcome t m l table (length out)) (rows_exact t m l table (length out)) answer out out' told left

pub judge-refuses : (t m l : ℕ) (table : List ℕ) (figures : List ℤ) (tolerance : ℤ) (ruling : Answer Verdict) →
    ruling ≡ judge_outcome t m l table figures tolerance → JudgeRefuses t m l table figures tolerance ruling
judge-refuses t m l table figures tolerance ruling told k = rw told ((judge_exact t m l table figures tolerance).refuses k)

-- ---- what nothing refuses

-- a number that is not outside two limits
inside : (low high n : ℕ) → (((low ≤ n) × (n ≤ high) → ⊥) → ⊥) → (low ≤ n) × (n ≤ high)
inside low high n f = (at_least n low (λ h. f (λ x. omega arith)), at_least high n (λ h. f (λ x. omega arith)))

module _ (t m l : ℕ) (table : List ℕ) (none : None (TableRefused t m l table)) where
  pub slots-allowed : SlotsAllowed t
  slots-allowed = inside 1 64 t (λ f. none 1 (TableRefused.slots f))

  pub atoms-allowed : AtomsAllowed m
  atoms-allowed = inside 1 16 m (λ f. none 2 (TableRefused.atoms f))

  pub loop-allowed : LoopAllowed t l
  loop-allowed = inside 1 t l (λ f. none 13 (TableRefused.loop f))

pub judge_loop-allowed : (t m l : ℕ) (table : List ℕ) (figures : List ℤ) (tolerance : ℤ) → None (JudgeRefused t m l table figures tolerance) → LoopAllowed t l
judge_loop-allowed t m l table figures tolerance none = loop-allowed t m l table (λ k x. none k (JudgeRefused.table-refused x))
