-- The three demands, as statements about any functions that stand for what the calls answer and write.
-- They are proved of the very functions that the calls' contracts cite: Headlines.antt of crate demands names each proof.
use Rattle.std.specs.Prelude.{◌≡◌, Bool, true, cond, ◌↔◌, List, [], ◌∷◌, ◌++◌, ℕ, ◌+◌, ◌-◌, ◌*◌, ◌^◌, ◌≤◌, ◌<◌, ltb, length, get_or, take, ℤ, pos, ◌-ℤ◌, nat_abs, ◌≤ℤ◌}
use Rattle.std.proofs.Math.Option.{Option, none, some}
use Rattle.lists.specs.Every.{Every}
use Rattle.rules.specs.Quantities.{bit_at, zero, one, of_truth, SlotsAllowed, LoopAllowed}
use Rattle.rules.specs.Rule.{Rule, size, height}
use Rattle.rules.specs.Grammar.{Says}
use Rattle.rules.specs.Table.{Node, Good, table_bytes, nodes_of, node_at, rule_at, root}
use Rattle.rules.specs.Truth.{Holds, HoldsKept, endless, TruthOf, TruthBit, slot_bit, TruthWords, SlotSet}
use Rattle.rules.specs.Rows.{Row, Meets, value_at, atom_variable, slack, loops, looping, loop_slack, slack_count, variable_count, rows_of, rows_bytes, rows_in}
use Rattle.rules.specs.ErrorFigure.{ErrorFigures}
use Rattle.rules.specs.Judge.{Lowest, None, Verdict, Judged}
use Rattle.rules.specs.Judge.VerdictWith.{passed}
use Rattle.rules.specs.Refusals.{order, WinsIn, RunGood, TextRefused, ReadRefused, EvaluateRefused, RowsRefused, JudgeRefused}

-- What a call answers: "A refusal returns its number and changes no byte."
pub data Answer (A : Type 0) : Type 0 where
  refused : ℕ → Answer A
  answered : A → Answer A

-- A result, and the bytes (the evaluator's words) written from the start of the lent buffer: "On success, bytes past the output keep their content."
pub data Written : Type 0 where
  wrote : ℕ → List ℕ → Written

-- Demands 1 and 2. Where several refusals apply, "the first in this order wins" (request N4), "and none is returned otherwise": refused with k exactly
-- when k is the first that applies, and answered exactly when none does, with what `Is` says.
pub record ExactIn {A : Type 0} (order : List ℕ) (Refused : ℕ → Type 0) (Is : A → Type 0) (answer : Answer A) : Type 0 where
  pub refuses : (k : ℕ) → (answer ≡ refused k) ↔ WinsIn order Refused k
  pub answers : (x : A) → (answer ≡ answered x) ↔ (None Refused × Is x)

abbrev pub Exact : {A : Type 0} (Refused : ℕ → Type 0) (Is : A → Type 0) (answer : Answer A) → Type 0
Exact Refused Is answer = ExactIn order Refused Is answer

abbrev pub ReaderExact : ((M : ℕ) (text : List ℕ) (room : ℕ) → Answer Written) → Type 0
ReaderExact read =
    (M : ℕ) (text : List ℕ) (room : ℕ) →
    Exact (ReadRefused M text room) (λ w. (p : Rule) × Says text p × (w ≡ wrote (size p) (table_bytes (nodes_of p)))) (read M text room)

-- "exactly the grammar, by one reading": a text says at most one rule
abbrev pub OneReading : Type 0
OneReading = (text : List ℕ) (p q : Rule) → Says text p → Says text q → p ≡ q

-- Request N6, "Callers may then rely on it": in a good table the last byte of every record, also of one that the root does not use, is the height of the
-- rule that its node stands for.
abbrev pub HeightsRight : Type 0
HeightsRight = (M : ℕ) (table : List ℕ) (ns : List Node) → Good M table ns → (n : ℕ) → n < length ns → get_or table (8 * n + 7) 0 ≡ height (rule_at ns n)

-- "Its result is the root's truth at slot 1."
abbrev pub EvaluatorExact : ((T M L : ℕ) (table run : List ℕ) (room : ℕ) → Answer Written) → Type 0
EvaluatorExact evaluate =
    (T M L : ℕ) (table run : List ℕ) (room : ℕ) →
    Exact (EvaluateRefused T M L table run room)
    (λ w. (ns : List Node) × (v : ℕ) × (words : List ℕ) × Good M table ns × TruthWords T L run ns words ×
    TruthBit (Holds (endless T L run) (rule_at ns (root ns)) 1) v × (w ≡ wrote v words))
    (evaluate T M L table run room)

-- Request N5: "the first slot with a set bit, or says that there is none", of a 64-bit word
abbrev pub FirstAnswers : (word : ℕ) (answer : Option ℕ) → Type 0
FirstAnswers word answer = ((t : ℕ) → (answer ≡ some t) ↔ Lowest (SlotSet word) t) × ((answer ≡ none) ↔ None (SlotSet word))

abbrev pub FirstSlotExact : (ℕ → Option ℕ) → Type 0
FirstSlotExact first_slot = (word : ℕ) → word < 2 ^ 64 → FirstAnswers word (first_slot word)

-- "The result is the row count."
abbrev pub RowsExact : ((T M L : ℕ) (table : List ℕ) (room : ℕ) → Answer Written) → Type 0
RowsExact rows =
    (T M L : ℕ) (table : List ℕ) (room : ℕ) →
    Exact (RowsRefused T M L table room)
    (λ w. (ns : List Node) × Good M table ns × (w ≡ wrote (length (rows_of T M L ns)) (rows_bytes (rows_of T M L ns))))
    (rows T M L table room)

abbrev pub JudgeExact : ((T M L : ℕ) (table : List ℕ) (figures : List ℤ) (tolerance : ℤ) → Answer Verdict) → Type 0
JudgeExact judge =
    (T M L : ℕ) (table : List ℕ) (figures : List ℤ) (tolerance : ℤ) →
    Exact (JudgeRefused T M L table figures tolerance)
    (λ v. (ns : List Node) × (e : ℕ) × Good M table ns × (tolerance ≡ pos e) × Judged T M L e ns figures v)
    (judge T M L table figures tolerance)

-- ---- demand 3

-- "an atom's variable at slot t has the numerator D when its bit in the run's number for t is set, otherwise 0"
pub record AtomNumerators (T M D : ℕ) (run : List ℕ) (atoms : List ℤ) : Type 0 where
  pub count : length atoms ≡ M * T
  pub at : (a t : ℕ) → a < M → 1 ≤ t → t ≤ T → value_at atoms (atom_variable T a t) ≡ pos (bit_at run t a * D)

-- One way to give each slack a whole numerator that meets the limits and the rows: "A slack meets the limits when its numerator is from 0 to D."
pub record Fits (D count : ℕ) (atoms : List ℤ) (rows : List Row) (slacks : List ℤ) : Type 0 where
  pub counted : length slacks ≡ count
  pub limits : (v : ℕ) → v < length slacks → (pos 0 ≤ℤ value_at slacks v) × (value_at slacks v ≤ℤ pos D)
  pub meets : Every (Meets D (atoms ++ slacks)) rows

-- "For every common denominator D ≥ 1, of all ways to give each slack a whole numerator, exactly one meets the limits and every row but the goal row;
-- in it each part has 1 where it holds and 0 where not; it meets the goal row exactly when the rule holds at slot 1."
-- "A part has 1 at a slot when its numerator there is D, and 0 when it is 0." Request N8: "about the run that loops to L, with V among the slacks".
pub record OnlyTheTruth (T M L D : ℕ) (run : List ℕ) (ns : List Node) (rows : List Row) (goal : Row) : Type 0 where
  pub atoms : List ℤ
  pub atoms_are : AtomNumerators T M D run atoms
  pub slacks : List ℤ
  pub fits : Fits D (slack_count T L ns) atoms rows slacks
  pub only : (others : List ℤ) → Fits D (slack_count T L ns) atoms rows others → others ≡ slacks
  pub one : (n t : ℕ) → n < length ns → 1 ≤ t → t ≤ T → Holds (endless T L run) (rule_at ns n) t → value_at slacks (n * T + (t - 1)) ≡ pos D
  pub zero : (n t : ℕ) → n < length ns → 1 ≤ t → t ≤ T → (Holds (endless T L run) (rule_at ns n) t → ⊥) → value_at slacks (n * T + (t - 1)) ≡ pos 0
  pub kept-one : (n t : ℕ) → n < length ns → loops (node_at ns n) ≡ true → L < T → 1 ≤ t → t ≤ T → HoldsKept T (endless T L run) (rule_at ns n) t →
      value_at slacks ((length ns + looping (take n ns)) * T + (t - 1)) ≡ pos D
  pub kept-zero : (n t : ℕ) → n < length ns → loops (node_at ns n) ≡ true → L < T → 1 ≤ t → t ≤ T → (HoldsKept T (endless T L run) (rule_at ns n) t → ⊥) →
      value_at slacks ((length ns + looping (take n ns)) * T + (t - 1)) ≡ pos 0
  pub goal-met : Meets D (atoms ++ slacks) goal ↔ Holds (endless T L run) (rule_at ns (root ns)) 1

-- "About the very bytes that reader and row writer write." For the rule p: the table is p's, its rows are read back from the row writer's bytes,
-- and the evaluator's words have the numerators over D.
pub record Demand3At (T M L D : ℕ) (run : List ℕ) (p : Rule) (table : List ℕ) (count : ℕ) (written : List ℕ) (answer : ℕ) (truth : List ℕ) : Type 0 where
  pub table_is : table ≡ table_bytes (nodes_of p)
  pub root_is : rule_at (nodes_of p) (root (nodes_of p)) ≡ p
  pub rows : List Row
  pub goal : Row
  pub rows-read : rows_in count written ≡ rows ++ (goal ∷ [])
  pub truthful : OnlyTheTruth T M L D run (nodes_of p) rows goal
  pub evaluated : (n t : ℕ) → n < size p → 1 ≤ t → t ≤ T → value_at truthful.slacks (n * T + (t - 1)) ≡ pos (slot_bit (get_or truth n 0) t * D)
  pub answered : (answer ≡ 1) ↔ Holds (endless T L run) p 1

-- "A text gives no ground to refuse when no refusal of the reader on M or the text applies. Every output buffer is taken to be long enough
-- for its output, and the table handed on is the reader's output alone."
abbrev pub Demand3 :
    ((M : ℕ) (text : List ℕ) (room : ℕ) → Answer Written) →
    ((T M L : ℕ) (table : List ℕ) (room : ℕ) → Answer Written) →
    ((T M L : ℕ) (table run : List ℕ) (room : ℕ) → Answer Written) → Type 0
Demand3 read rows evaluate =
    (M : ℕ) (text : List ℕ) → None (TextRefused M text) →
    (T L D : ℕ) (run : List ℕ) → SlotsAllowed T → LoopAllowed T L → RunGood T M run → 1 ≤ D →
    (p : Rule) × Says text p ×
    ((room₁ room₂ room₃ : ℕ) → 8 * size p ≤ room₁ → length (rows_bytes (rows_of T M L (nodes_of p))) ≤ room₂ → size p ≤ room₃ →
    (table written truth : List ℕ) × (count answer : ℕ) ×
    (read M text room₁ ≡ answered (wrote (size p) table)) ×
    (rows T M L table room₂ ≡ answered (wrote count written)) ×
    (evaluate T M L table run room₃ ≡ answered (wrote answer truth)) ×
    Demand3At T M L D run p table count written answer truth)

-- ---- request N7: figures that are nearly right

-- "the run made by rounding each atom to the nearer of 0 and 1,000,000"
pub record Rounded (T M : ℕ) (figures : List ℤ) (run : List ℕ) : Type 0 where
  pub run-good : RunGood T M run
  pub at : (a t : ℕ) → a < M → 1 ≤ t → t ≤ T →
      let x = value_at figures (atom_variable T a t) in bit_at run t a ≡ cond (ltb (nat_abs (x -ℤ pos one)) (nat_abs (x -ℤ pos zero))) 1 0

abbrev pub trust_limit : ℕ
trust_limit = 500000

-- `error` gives the error figures, `carried` is the one that passed carries, and `run` is the rounded run
pub record NearTruth (T M L : ℕ) (ns : List Node) (figures : List ℤ) (error : ℕ → ℕ) (carried : ℕ) (run : List ℕ) : Type 0 where
  -- "Each slack is within its own figure of the truth, wherever that figure is below 1,000,000."
  pub within : (n t : ℕ) (b : Bool) → n < length ns → 1 ≤ t → t ≤ T → error (slack T M n t) < one →
      TruthOf (Holds (endless T L run) (rule_at ns n) t) b → nat_abs (value_at figures (slack T M n t) -ℤ pos (of_truth b)) ≤ error (slack T M n t)
  -- Request N8: "The truth of a V slack at t, there and in N7, is that of its F, G or U with k kept to the slots t to T"
  pub kept-within : (n t : ℕ) (b : Bool) → n < length ns → loops (node_at ns n) ≡ true → L < T → 1 ≤ t → t ≤ T → error (loop_slack T M ns n t) < one →
      TruthOf (HoldsKept T (endless T L run) (rule_at ns n) t) b →
      nat_abs (value_at figures (loop_slack T M ns n t) -ℤ pos (of_truth b)) ≤ error (loop_slack T M ns n t)
  -- "Passed carries the root's figure at slot 1. When it is below 500,000, the run .. must satisfy the rule at slot 1."
  pub satisfied : carried < trust_limit → Holds (endless T L run) (rule_at ns (root ns)) 1

-- of every good table, T, M, L, tolerance and figures that the judge passes, and every run that is the rounded one
abbrev pub PassedIsNear : Type 0
PassedIsNear =
    (T M L e count carried : ℕ) (table : List ℕ) (ns : List Node) (figures : List ℤ) (error : ℕ → ℕ) (run : List ℕ) → LoopAllowed T L → Good M table ns →
    length figures ≡ variable_count T M L ns → ErrorFigures T M L e ns error → Rounded T M figures run →
    Judged T M L e ns figures (passed count carried) → NearTruth T M L ns figures error carried run

-- any figures can be rounded
abbrev pub RoundedRun : Type 0
RoundedRun = (T M : ℕ) (figures : List ℤ) → (run : List ℕ) × Rounded T M figures run

-- a good table has error figures, one of each variable
abbrev pub OneFigureEach : Type 0
OneFigureEach =
    (T M L e : ℕ) (table : List ℕ) (ns : List Node) → Good M table ns → LoopAllowed T L →
    ((error : ℕ → ℕ) × ErrorFigures T M L e ns error) ×
    ((f g : ℕ → ℕ) → ErrorFigures T M L e ns f → ErrorFigures T M L e ns g → (v : ℕ) → v < variable_count T M L ns → f v ≡ g v)
