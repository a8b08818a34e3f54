-- The judge's verdict as it was before requests N1 and N7, without shortfall and error figure; the evaluator's bytes as they were before request N5; truth,
-- rows, verdicts, refusals and the demands on the calls as they were before request N8, without a loop slot. Unaltered.antt and NoLoop.antt prove that
-- they stay.
use Rattle.std.specs.Prelude.{◌≡◌, ◌&&◌, List, [], ◌∷◌, ◌++◌, ℕ, ◌+◌, ◌-◌, ◌*◌, ◌^◌, ◌≤◌, ◌<◌, min, leb, ltb, eqb, ℤ, pos, length, get_or}
use Rattle.lists.specs.Any.{any}
use Rattle.lists.specs.Passing.{passing}
use Rattle.rules.specs.Quantities.{bit_at, one, SlotsAllowed, AtomsAllowed, tolerance_limit}
use Rattle.rules.specs.Table.{Node, Good, node_at, rule_at, root}
use Rattle.rules.specs.Table.Node.{atom, unary, binary, windowed}
use Rattle.rules.specs.Truth.{Endless, Holds, endless, TruthBit, slot_bit}
use Rattle.rules.specs.Rows.{Row, sum_of, atom_variable, slack, same_rows, unary_rows, binary_rows, window_rows, slots_rows, goal_row, rows_of, rows_bytes}
use Rattle.rules.specs.ErrorFigure.{others}
use Rattle.rules.specs.Judge.{VerdictWith, JudgedBy, RootFigure}
use Rattle.rules.specs.Judge.VerdictWith.{outside, not-binary, broken, passed}
use Rattle.rules.specs.Judge as Now
use Rattle.rules.specs.Refusals.{RunGood, place_in, WinsIn}
use Rattle.rules.specs.Demands.{Answer, Written, ExactIn}
use Rattle.rules.specs.Demands.Answer.{refused, answered}
use Rattle.rules.specs.Demands.Written.{wrote}

-- "The evaluator writes one byte, 0 or 1, for node n and slot t at place n·T + t − 1."
pub record TruthBytes (T L : ℕ) (run : List ℕ) (ns : List Node) (bytes : List ℕ) : Type 0 where
  pub count : length bytes ≡ length ns * T
  pub at : (n t : ℕ) → n < length ns → 1 ≤ t → t ≤ T → TruthBit (Holds (endless T L run) (rule_at ns n) t) (get_or bytes (n * T + (t - 1)) 0)

-- broken and passed carried nothing but row number and row count
abbrev pub Verdict : Type 0
Verdict = VerdictWith (Unit {0}) (Unit {0})

abbrev pub Judged : (T M L e : ℕ) → List Node → List ℤ → Verdict → Type 0
Judged T M L e ns xs = JudgedBy (M * T) e xs (rows_of T M L ns) (λ r. sum_of xs r.terms) (λ d. tt) (λ x. Unit {0})

-- a verdict, and what the judge answers, without the shortfall of request N1 and the error figure of request N7
abbrev pub verdict_before : Now.Verdict → Verdict
verdict_before (outside v) = outside v
verdict_before (not-binary v) = not-binary v
verdict_before (broken i d) = broken i tt
verdict_before (passed n f) = passed n tt

abbrev pub ruling_before : Answer Now.Verdict → Answer Verdict
ruling_before (refused k) = refused k
ruling_before (answered v) = answered (verdict_before v)

-- ---- before request N8: truth

-- "A slot after T has the atoms of slot T."
abbrev pub endless_before : ℕ → List ℕ → Endless
endless_before T run k a = bit_at run (min k T) a ≡ 1

-- request N5: "one 64-bit word per node, with bit t − 1 for slot t and zeros above"
pub record TruthWordsBefore (T : ℕ) (run : List ℕ) (ns : List Node) (words : List ℕ) : Type 0 where
  pub count : length words ≡ length ns
  pub at : (n t : ℕ) → n < length ns → 1 ≤ t → t ≤ T → TruthBit (Holds (endless_before T run) (rule_at ns n) t) (slot_bit (get_or words n 0) t)
  pub above : (n : ℕ) → n < length ns → get_or words n 0 < 2 ^ T

-- ---- rows

-- "slots t + a to t + b, and a slot after T counts as T"
abbrev pub window_before : (T t a b : ℕ) → List ℕ
window_before T t a b = passing (λ s. any (λ j. leb a j && eqb (min (t + j) T) s) (b + 1)) T 1

abbrev pub rows_at_before : (T M n : ℕ) → Node → (t : ℕ) → List Row
rows_at_before T M n (atom a) t = same_rows (slack T M n t) (atom_variable T a t)
rows_at_before T M n (unary u c) t = unary_rows u (ltb t T) (slack T M n t) (slack T M c t) (slack T M n (t + 1))
rows_at_before T M n (binary o l r) t = binary_rows o (ltb t T) (slack T M n t) (slack T M l t) (slack T M r t) (slack T M n (t + 1))
rows_at_before T M n (windowed w a b c) t = window_rows w (slack T M n t) (slack T M c) (window_before T t a b)

abbrev pub nodes_rows_before : (T M n : ℕ) → List Node → List Row
nodes_rows_before T M n [] = []
nodes_rows_before T M n (nd ∷ ns) = slots_rows (rows_at_before T M n nd) T 1 ++ nodes_rows_before T M (n + 1) ns

abbrev pub rows_before : (T M : ℕ) → List Node → List Row
rows_before T M ns = nodes_rows_before T M 0 ns ++ (goal_row T M ns ∷ [])

-- ---- verdicts

-- "Atom a at slot t is variable a·T + t − 1. Node n at slot t is variable (M + n)·T + t − 1": how many variables there are
abbrev pub variables_before : (T M : ℕ) → List Node → ℕ
variables_before T M ns = (M + length ns) * T

-- request N7: "An atom variable has e. A node has e plus the error figures of all other variables .."
pub record ErrorFiguresBefore (T M e : ℕ) (ns : List Node) (error : ℕ → ℕ) : Type 0 where
  pub atoms : (v : ℕ) → v < M * T → error v ≡ e
  pub nodes : (n t : ℕ) → n < length ns → 1 ≤ t → t ≤ T →
      error (slack T M n t) ≡ min one (e + others error (slack T M n t) (rows_at_before T M n (node_at ns n) t) (variables_before T M ns))

-- with the shortfall of request N1 and the error figure of request N7
abbrev pub JudgedBefore : (T M e : ℕ) → List Node → List ℤ → Now.Verdict → Type 0
JudgedBefore T M e ns xs =
    JudgedBy (M * T) e xs (rows_before T M ns) (λ r. sum_of xs r.terms) (λ d. d) (RootFigure T M ns (ErrorFiguresBefore T M e ns))

-- ---- which refusals apply, which of them wins, and the demands on the calls

abbrev pub order_before : List ℕ
order_before = 1 ∷ 2 ∷ 3 ∷ 4 ∷ 5 ∷ 12 ∷ 6 ∷ 7 ∷ 8 ∷ 9 ∷ 10 ∷ 11 ∷ []

abbrev pub place_before : ℕ → ℕ
place_before k = place_in order_before k

abbrev pub WinsBefore : (Refused : ℕ → Type 0) (k : ℕ) → Type 0
WinsBefore Refused k = WinsIn order_before Refused k

abbrev pub ExactBefore : {A : Type 0} (Refused : ℕ → Type 0) (Is : A → Type 0) (answer : Answer A) → Type 0
ExactBefore Refused Is answer = ExactIn order_before Refused Is answer

pub data TableRefusedBefore (T M : ℕ) (table : List ℕ) : ℕ → Type 0 where
  slots : (SlotsAllowed T → ⊥) → TableRefusedBefore T M table 1
  atoms : (AtomsAllowed M → ⊥) → TableRefusedBefore T M table 2
  not_good : ((ns : List Node) → Good M table ns → ⊥) → TableRefusedBefore T M table 7

pub data EvaluateRefusedBefore (T M : ℕ) (table run : List ℕ) (room : ℕ) : ℕ → Type 0 where
  table-refused : {k : ℕ} → TableRefusedBefore T M table k → EvaluateRefusedBefore T M table run room k
  run_bad : (RunGood T M run → ⊥) → EvaluateRefusedBefore T M table run room 8
  short : {ns : List Node} → Good M table ns → room < length ns → EvaluateRefusedBefore T M table run room 11

pub data RowsRefusedBefore (T M : ℕ) (table : List ℕ) (room : ℕ) : ℕ → Type 0 where
  table-refused : {k : ℕ} → TableRefusedBefore T M table k → RowsRefusedBefore T M table room k
  short : {ns : List Node} → Good M table ns → room < length (rows_bytes (rows_before T M ns)) → RowsRefusedBefore T M table room 11

pub data JudgeRefusedBefore (T M : ℕ) (table : List ℕ) (figures : List ℤ) (tolerance : ℤ) : ℕ → Type 0 where
  table-refused : {k : ℕ} → TableRefusedBefore T M table k → JudgeRefusedBefore T M table figures tolerance k
  miscounted : {ns : List Node} → Good M table ns → (length figures ≡ variables_before T M ns → ⊥) → JudgeRefusedBefore T M table figures tolerance 9
  tolerance_bad : ((e : ℕ) → e ≤ tolerance_limit → tolerance ≡ pos e → ⊥) → JudgeRefusedBefore T M table figures tolerance 10

abbrev pub EvaluatorExactBefore : ((T M : ℕ) (table run : List ℕ) (room : ℕ) → Answer Written) → Type 0
EvaluatorExactBefore evaluate =
    (T M : ℕ) (table run : List ℕ) (room : ℕ) →
    ExactBefore (EvaluateRefusedBefore T M table run room)
    (λ w. (ns : List Node) × (v : ℕ) × (words : List ℕ) × Good M table ns × TruthWordsBefore T run ns words ×
    TruthBit (Holds (endless_before T run) (rule_at ns (root ns)) 1) v × (w ≡ wrote v words))
    (evaluate T M table run room)

abbrev pub RowsExactBefore : ((T M : ℕ) (table : List ℕ) (room : ℕ) → Answer Written) → Type 0
RowsExactBefore rows =
    (T M : ℕ) (table : List ℕ) (room : ℕ) →
    ExactBefore (RowsRefusedBefore T M table room)
    (λ w. (ns : List Node) × Good M table ns × (w ≡ wrote (length (rows_before T M ns)) (rows_bytes (rows_before T M ns))))
    (rows T M table room)

abbrev pub JudgeExactBefore : ((T M : ℕ) (table : List ℕ) (figures : List ℤ) (tolerance : ℤ) → Answer Now.Verdict) → Type 0
JudgeExactBefore judge =
    (T M : ℕ) (table : List ℕ) (figures : List ℤ) (tolerance : ℤ) →
    ExactBefore (JudgeRefusedBefore T M table figures tolerance)
    (λ v. (ns : List Node) × (e : ℕ) × Good M table ns × (tolerance ≡ pos e) × JudgedBefore T M e ns figures v)
    (judge T M table figures tolerance)
