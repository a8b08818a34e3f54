-- Results fit 32 bits.
use mathlib.Core.Path.{◌≡◌, refl}
use mathlib.Core.Bool.{cond}
use mathlib.Core.List.{List}
use Prim.Native.Nat.{ℕ, ◌+◌, ◌*◌, ◌≤◌, ◌<◌}
use native.Mathlib.Nat.{mul-le-mul}
use native.Mathlib.Decide.{ℕ_discrete}
use native.Mathlib.Omega.{arith}
use lib.Dec.{ltb}
use lib.ListN.{length}
use lib.IntN.{ℤ}
use Rattle.rules.specs.Rule.{size}
use Rattle.rules.specs.Table.{Node, Good}
use Rattle.rules.specs.Truth.{TruthBit}
use Rattle.rules.specs.Rows.{looping, variable_count, rows_of}
use Rattle.rules.proofs.RowCount.{rows-count}
use Rattle.rules.specs.Judge.{None, Verdict, Judged}
use Rattle.rules.specs.Judge.JudgedBy.{is-outside, is-not-binary, is-broken, is-passed}
use Rattle.rules.specs.Refusals.{TextRefused, ReadRefused, TableRefused, RowsRefused, JudgeRefused}
use Rattle.rules.specs.Demands.{Answer, Written, ExactIn}
use Rattle.rules.specs.Demands.Answer.{refused, answered}
use Rattle.rules.specs.Demands.Written.{wrote}
use Rattle.rules.specs.Outcome.{returned, read_outcome, evaluate_outcome, rows_outcome, judge_outcome}
use Rattle.rules.proofs.Exactness.Tests.{at_least}
use Rattle.rules.proofs.Exactness.Read.{read_exact}
use Rattle.rules.proofs.Exactness.Evaluate.{evaluate_exact}
use Rattle.rules.proofs.Exactness.Rows.{rows_exact}
use Rattle.rules.proofs.Exactness.Judge.{judge_exact}
use Rattle.mps.proofs.Proved.{looping_le, if-le}
use Rattle.printer_text.specs.Refused.{PrintRefused}
use Rattle.printer_text.specs.Outcome.{print_outcome}
use Rattle.printer_text.proofs.Exact.{print_exact}
use Rattle.mps_page.specs.Answers.{Short}
use Rattle.sepia.proofs.FirstSlot.{slot-fits}
use Rattle.sepia_answers.specs.Boundary.{too_large, Fits, verdict_value, VerdictFits}

-- an outcome's result fits, where every result that it may have does
fits : {order : List ℕ} (Refused : ℕ → Type 0) (Is : Written → Type 0) (a : Answer Written) → ExactIn order Refused Is a →
    ((n : ℕ) (bytes : List ℕ) → None Refused → Is (wrote n bytes) → n < too_large) → Fits (returned a)
fits Refused Is a exact small = go a refl
  where
    go : (x : Answer Written) → a ≡ x → Fits (returned x)
    go (refused k) e = tt
    go (answered (wrote n bytes)) e = let y = (exact.answers (wrote n bytes)).0 e in small n bytes y.0 y.1

pub read_fits : (m : ℕ) (text : List ℕ) (room : ℕ) → Fits (returned (read_outcome m text room))
read_fits m text room =
    fits (ReadRefused m text room) _ (read_outcome m text room) (read_exact m text room)
    (λ n bytes none i.
    let e : n ≡ size i.0 = cc i.2 in
    omega (arith, at_least 128 (size i.0) (λ h. none 6 (ReadRefused.text-refused (TextRefused.nodes i.1 h)))))

bit-fits : {P : Type 0} {v : ℕ} → TruthBit P v → v < too_large
bit-fits (TruthBit.true x) = omega arith
bit-fits (TruthBit.false x) = omega arith

pub evaluate-fits : (t m l : ℕ) (table run : List ℕ) (room : ℕ) → Fits (returned (evaluate_outcome t m l table run room))
evaluate-fits t m l table run room =
    fits _ _ (evaluate_outcome t m l table run room) (evaluate_exact t m l table run room)
    (λ v bytes none i. let e : i.1 ≡ v = cc i.6 in rw e at (bit-fits i.5))

-- ---- at most T + 8 rows for a node at a slot

rows_few : (T M L : ℕ) (ns : List Node) → T ≤ 64 → length ns ≤ 128 → length (rows_of T M L ns) < too_large
rows_few T M L ns h k =
    let e : length ns * T ≤ 128 * 64 = mul-le-mul {n₂ = 128} {m₂ = 64} k h in
    let f : (T + 8) * (length ns * T) ≤ 72 * 8192 = mul-le-mul {n₂ = 72} {m₂ = 8192} (omega arith) (omega arith) in
    omega (arith, rows-count T M L ns)

pub write_rows-fits : (t m l : ℕ) (table : List ℕ) (room : ℕ) → Fits (returned (rows_outcome t m l table room))
write_rows-fits t m l table room =
    fits (RowsRefused t m l table room) _ (rows_outcome t m l table room) (rows_exact t m l table room)
    (λ n bytes none i.
    let e : n ≡ length (rows_of t m l i.0) = cc i.2 in
    let slots : t ≤ 64 = at_least 64 t (λ h. none 1 (RowsRefused.table-refused (TableRefused.slots (λ s. omega arith)))) in
    rw e (rows_few t m l i.0 slots i.1.few))

pub print-fits : (m : ℕ) (table : List ℕ) (room : ℕ) → Fits (returned (print_outcome m table room))
print-fits m table room =
    fits (PrintRefused m table room) _ (print_outcome m table room) (print_exact m table room)
    (λ n bytes none i.
    let e : n ≡ length i.0 = cc i.2 in
    omega (arith, at_least 1024 (length i.0) (λ h. none 3 (PrintRefused.long i.1 h))))

-- the page's length, as its call bounds it
pub short-fits : (a : Answer ℕ) → Short a → Fits a
short-fits (refused k) h = tt
short-fits (answered n) h = omega arith

-- ---- the judge's variables and rows

judged-small : {T M L e : ℕ} {ns : List Node} {xs : List ℤ} {v : Verdict} → T ≤ 64 → M ≤ 16 → length ns ≤ 128 → length xs ≡ variable_count T M L ns →
    Judged T M L e ns xs v → verdict_value v < too_large
judged-small {T} {M} {L} {ns = ns} h m k c (is-outside x) =
    let b = length ns + cond (ltb L T) (looping ns) 0 in
    let few : b ≤ 256 = omega (arith, if-le (ltb L T) (looping ns), looping_le ns) in
    omega (arith, x.holds.0, mul-le-mul m h, mul-le-mul few h)
judged-small {T} {M} h m k c (is-not-binary p x) = omega (arith, x.holds.0, mul-le-mul m h)
judged-small {T} {M} {L} {ns = ns} h m k c (is-broken p q x) = omega (arith, x.holds.0, rows_few T M L ns h k)
judged-small {T} {M} {L} {ns = ns} h m k c (is-passed p q r f) = rows_few T M L ns h k

pub judge_fits : (t m l : ℕ) (table : List ℕ) (figures : List ℤ) (tolerance : ℤ) → VerdictFits (judge_outcome t m l table figures tolerance)
judge_fits t m l table figures tolerance = go (judge_outcome t m l table figures tolerance) refl
  where
    counted : None (JudgeRefused t m l table figures tolerance) → (ns : List Node) → Good m table ns → Dec (length figures ≡ variable_count t m l ns) →
        length figures ≡ variable_count t m l ns
    counted none ns good (yes h) = h
    counted none ns good (no h) = absurd (none 9 (JudgeRefused.miscounted good h))

    go : (x : Answer Verdict) → judge_outcome t m l table figures tolerance ≡ x → VerdictFits x
    go (refused k) e = tt
    go (answered v) e =
        let (none, (ns, d, good, tol, j)) = ((judge_exact t m l table figures tolerance).answers v).0 e in
        let slots : t ≤ 64 = at_least 64 t (λ h. none 1 (JudgeRefused.table-refused (TableRefused.slots (λ s. omega arith)))) in
        let atoms : m ≤ 16 = at_least 16 m (λ h. none 2 (JudgeRefused.table-refused (TableRefused.atoms (λ s. omega arith)))) in
        judged-small slots atoms good.few (counted none ns good (ℕ_discrete (length figures) (variable_count t m l ns))) j

-- for the calls
pub ruleset fit_32_bits = (read_fits, evaluate-fits, write_rows-fits, print-fits, short-fits, judge_fits, slot-fits)
