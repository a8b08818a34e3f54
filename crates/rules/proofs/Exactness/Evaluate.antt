-- Evaluate: refusals 1, 2, 13, 7, 8 and 11.
use Rattle.std.specs.Prelude.{◌≡◌, refl, Bool, true, false, ◌↔◌, List, ℕ, ◌≤◌, ◌<◌, T as Is, leb, length, get_or}
use Rattle.std.proofs.Common.{sym, ap, ap₂, ◌∙◌, arith, leb-false, leb-true, ext_get_or}
use Rattle.lists.specs.Tabulate.{length-tabulate, get_d_tabulate}
use Rattle.rules.specs.Quantities.{SlotsAllowed, LoopAllowed}
use Rattle.rules.specs.Rule.{Rule}
use Rattle.rules.specs.Table.{Node, Good, rule_at, root}
use Rattle.rules.specs.TableTest.{nodes_in}
use Rattle.rules.proofs.TableTest.{good-nodes}
use Rattle.rules.specs.Truth.{Holds, endless, TruthBit, TruthWords}
use Rattle.rules.specs.Evaluation.{bit_of, truth}
use Rattle.rules.proofs.Evaluation.{truth-holds}
use Rattle.rules.specs.Words.{word_of}
use Rattle.rules.proofs.Words.{word-slot, word-above, same-slots}
use Rattle.rules.specs.Refusals.{order, place, RunGood, TableRefused, EvaluateRefused}
use Rattle.rules.specs.Demands.{Written, EvaluatorExact}
use Rattle.rules.specs.Demands.Written.{wrote}
use Rattle.rules.specs.Outcome.{run_good, truth_words, evaluate_outcome}
use Rattle.rules.proofs.Ladder.{From, rung, exact_answered}
use Rattle.rules.proofs.Exactness.Tests.{run-true, failed, passes, at_least}
use Rattle.rules.proofs.Exactness.Tables.{table-under, table_exact, of-nodes}

pub truth-bit : (T L : ℕ) → LoopAllowed T L → (run : List ℕ) (p : Rule) (t : ℕ) → 1 ≤ t → t ≤ T →
    TruthBit (Holds (endless T L run) p t) (bit_of (truth T L run p t))
truth-bit T L loop run p t l u = go (truth T L run p t) (truth-holds T L loop run p t l u)
  where
    go : (b : Bool) → Holds (endless T L run) p t ↔ Is b → TruthBit (Holds (endless T L run) p t) (bit_of b)
    go true h = TruthBit.true (h.1 tt)
    go false h = TruthBit.false (λ x. h.0 x)

pub bit-one : (P : Type 0) (a b : ℕ) → TruthBit P a → TruthBit P b → a ≡ b
bit-one P a b x y = go x y
  where
    go : {a b : ℕ} → TruthBit P a → TruthBit P b → a ≡ b
    go (TruthBit.true h) (TruthBit.true k) = refl
    go (TruthBit.true h) (TruthBit.false k) = absurd (k h)
    go (TruthBit.false h) (TruthBit.true k) = absurd (h k)
    go (TruthBit.false h) (TruthBit.false k) = refl

module _ (T L : ℕ) (loop : LoopAllowed T L) (run : List ℕ) (ns : List Node) where
  word-is : (n : ℕ) → n < length ns → get_or (truth_words T L run ns) n 0 ≡ word_of (truth T L run (rule_at ns n)) T
  unfolding truth_words
  word-is n h = get_d_tabulate (length ns) (λ n. word_of (truth T L run (rule_at ns n)) T) n 0 h

  pub words_are : TruthWords T L run ns (truth_words T L run ns)
  unfolding truth_words
  words_are = record {
    count = length-tabulate (length ns) (λ n. word_of (truth T L run (rule_at ns n)) T);
    at = λ n t h l u. rw (word-is n h, word-slot (truth T L run (rule_at ns n)) T t l u) (truth-bit T L loop run (rule_at ns n) t l u);
    above = λ n h. rw (word-is n h) (word-above (truth T L run (rule_at ns n)) T);
  }

  words_only : (words : List ℕ) → TruthWords T L run ns words → truth_words T L run ns ≡ words
  words_only words w =
      ext_get_or 0 (truth_words T L run ns) words (words_are.count ∙ sym w.count) (λ n h. same n (omega (arith, words_are.count)))
    where
      same : (n : ℕ) → n < length ns → get_or (truth_words T L run ns) n 0 ≡ get_or words n 0
      same n h =
          same-slots T (get_or (truth_words T L run ns) n 0) (get_or words n 0) (words_are.above n h) (w.above n h)
          (λ t l u. bit-one (Holds (endless T L run) (rule_at ns n) t) _ _ (words_are.at n t h l u) (w.at n t h l u))

module _ (T M L : ℕ) (table run : List ℕ) (room : ℕ) where
  abbrev EvaluateIs : Written → Type 0
  EvaluateIs w = (ns : List Node) × (v : ℕ) × (words : List ℕ) × Good M table ns × TruthWords T L run ns words
      × TruthBit (Holds (endless T L run) (rule_at ns (root ns)) 1) v × (w ≡ wrote v words)

  evaluate-down : (j : ℕ) → EvaluateRefused T M L table run room j → place j < place 8 → TableRefused T M L table j
  evaluate-down j x h = go x h
    where
      go : {j : ℕ} → EvaluateRefused T M L table run room j → place j < place 8 → TableRefused T M L table j
      go (EvaluateRefused.table-refused x) h = x
      go (EvaluateRefused.run_bad x) h = absurd (omega arith)
      go (EvaluateRefused.short g x) h = absurd (omega arith)

  evaluate-from : (k : ℕ) → From order (EvaluateRefused T M L table run room) EvaluateIs (place 8) → (place 8 < k → RunGood T M run) →
      (place 11 < k → (ns : List Node) → Good M table ns → length ns ≤ room) → k ≤ 13 → (j : ℕ) → EvaluateRefused T M L table run room j →
      (k ≤ place j) × (place j < 13)
  evaluate-from k a b c u j x = go (a j x) x
    where
      go : {j : ℕ} → place 8 ≤ place j → EvaluateRefused T M L table run room j → (k ≤ place j) × (place j < 13)
      go h (EvaluateRefused.table-refused x) = absurd (omega (arith, table-under T M L table x))
      go h (EvaluateRefused.run_bad x) = (at_least (place 8) k (λ i. x (b i)), omega arith)
      go h (EvaluateRefused.short {ns} g x) = (at_least (place 11) k (λ i. omega (arith, c i ns g)), omega arith)

  evaluated : SlotsAllowed T → LoopAllowed T L → Good M table (nodes_in table) →
      EvaluateIs (wrote (bit_of (truth T L run (rule_at (nodes_in table) (root (nodes_in table))) 1)) (truth_words T L run (nodes_in table)))
  evaluated s loop g =
      let ns = nodes_in table in (
        ns,
        bit_of (truth T L run (rule_at ns (root ns)) 1),
        truth_words T L run ns,
        g,
        words_are T L loop run ns,
        truth-bit T L loop run (rule_at ns (root ns)) 1 (omega arith) s.0,
        refl,
      )

  evaluated-one : SlotsAllowed T → LoopAllowed T L → (w : Written) → EvaluateIs w →
      wrote (bit_of (truth T L run (rule_at (nodes_in table) (root (nodes_in table))) 1)) (truth_words T L run (nodes_in table)) ≡ w
  evaluated-one s loop w (ns, v, words, g, b, r, e) =
      ap (λ (l : List Node). wrote (bit_of (truth T L run (rule_at l (root l)) 1)) (truth_words T L run l)) (sym (good-nodes M table ns g))
      ∙ ap₂ wrote (bit-one _ _ _ (truth-bit T L loop run (rule_at ns (root ns)) 1 (omega arith) s.0) r) (words_only T L loop run ns words b) ∙ sym e

pub evaluate_exact : EvaluatorExact evaluate_outcome
unfolding evaluate_outcome
evaluate_exact T M L table run room =
    let Refused : ℕ → Type 0 = EvaluateRefused T M L table run room in
    let AnswerIs : Written → Type 0 = EvaluateIs T M L table run room in
    table_exact T M L table Refused AnswerIs (λ k x. EvaluateRefused.table-refused x) (evaluate-down T M L table run room) _
    (λ s m l g low.
    rung order Refused AnswerIs (run_good T M run) 8 _ low
    (λ e. EvaluateRefused.run_bad (failed (run_good T M run) (run-true T M run).1 e))
    (λ e. let r = (run-true T M run).0 (passes (run_good T M run) e) in
    rung order Refused AnswerIs (leb (length (nodes_in table)) room) 11 _
    (λ j x. (evaluate-from T M L table run room (place 11) low (λ h. r) (λ h. absurd (omega arith)) (omega arith) j x).0)
    (λ e. EvaluateRefused.short g (leb-false (length (nodes_in table)) room e))
    (λ e. let f = of-nodes T M L table (λ ns. length ns ≤ room) (leb-true (length (nodes_in table)) room e) in
    exact_answered order Refused AnswerIs _
    (λ j x. let z = evaluate-from T M L table run room 13 low (λ h. r) (λ h. f) (omega arith) j x in omega (arith, z))
    (evaluated T M L table run room s l g) (evaluated-one T M L table run room s l))))
