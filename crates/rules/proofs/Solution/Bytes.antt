-- Demand 3 about the bytes that the outcomes of reader, row writer and evaluator write.
use Rattle.std.specs.Prelude.{◌≡◌, refl, ◌↔◌, List, ℕ, ◌+◌, ◌-◌, ◌*◌, ◌≤◌, ◌<◌, length, get_or, ℤ, pos}
use Rattle.std.proofs.Common.{sym, ap, subst, ◌∙◌, arith}
use Rattle.rules.proofs.RuleSize.{size-positive}
use Rattle.rules.specs.Quantities.{SlotsAllowed, AtomsAllowed, LoopAllowed}
use Rattle.rules.specs.Rule.{Rule, size, AtomsBelow, WindowsAllowed}
use Rattle.rules.specs.Grammar.{Says}
use Rattle.rules.proofs.Reading.{one-reading}
use Rattle.rules.specs.Table.{Node, table_bytes, nodes_of, rule_at, root}
use Rattle.rules.proofs.TableRules.{length-nodes_from, nodes-good}
use Rattle.rules.specs.Truth.{Holds, endless, TruthBit, slot_bit}
use Rattle.rules.specs.Evaluation.{bit_of, truth}
use Rattle.rules.specs.Rows.{value_at, rows_of, rows_bytes, slack_rows, goal_row}
use Rattle.rules.proofs.RowRecords.{rows_back, rows_recordable}
use Rattle.rules.specs.Judge.{None}
use Rattle.rules.specs.Refusals.{RunGood, TextRefused, ReadRefused, TableRefused, EvaluateRefused, RowsRefused}
use Rattle.rules.specs.Demands.{OnlyTheTruth, Demand3At, Demand3}
use Rattle.rules.specs.Demands.Answer.{answered}
use Rattle.rules.specs.Demands.Written.{wrote}
use Rattle.rules.specs.Outcome.{read_outcome, rows_outcome, truth_words, evaluate_outcome}
use Rattle.rules.specs.Exactness.Unrefused.{Unrefused}
use Rattle.rules.proofs.Exactness.Unrefused.{rule-said, unrefused}
use Rattle.rules.proofs.Exactness.Read.{read_exact}
use Rattle.rules.proofs.Exactness.Rows.{rows_exact}
use Rattle.rules.proofs.Exactness.Evaluate.{evaluate_exact, truth-bit, words_are}
use Rattle.rules.proofs.Solution.Truths.{only_the_truth}

-- what a text has that gives no ground to refuse
pub record Plain (M : ℕ) (text : List ℕ) : Type 0 where
  pub allowed : AtomsAllowed M
  pub rule : Rule
  pub says : Says text rule
  pub atoms : AtomsBelow M rule
  pub windows : WindowsAllowed rule
  pub nodes : size rule ≤ 128

pub plain : (M : ℕ) (text : List ℕ) → None (TextRefused M text) → Plain M text
plain M text ok =
    let (p, says) = rule-said M text ok in
    let q = unrefused M text ok p says in
    record { allowed = q.allowed; rule = p; says = says; atoms = q.atoms; windows = q.windows; nodes = q.nodes }

-- a numerator where a bit is the truth
bit_numerator : (P : Type 0) (D x b : ℕ) (z : ℤ) → TruthBit P b → (P → z ≡ pos D) → ((P → ⊥) → z ≡ pos 0) → z ≡ pos (b * D)
bit_numerator P D x b z h f g = go h
  where
    go : {b : ℕ} → TruthBit P b → z ≡ pos (b * D)
    go (TruthBit.true y) = f y ∙ ap pos (omega arith)
    go (TruthBit.false y) = g y ∙ ap pos (omega arith)

bit-one_iff : (P : Type 0) (b : ℕ) → TruthBit P b → (b ≡ 1) ↔ P
bit-one_iff P b h = go h
  where
    go : {b : ℕ} → TruthBit P b → (b ≡ 1) ↔ P
    go (TruthBit.true y) = (λ e. y, λ z. refl)
    go (TruthBit.false y) = (λ e. absurd (omega arith), λ z. absurd (y z))

module _ (T M L D : ℕ) (run : List ℕ) (slots : SlotsAllowed T) (loop : LoopAllowed T L) (runs : RunGood T M run) (0<D : 1 ≤ D) (text : List ℕ)
    (ok : None (TextRefused M text)) (p : Rule) (says : Says text p) (q : Unrefused M text p) where
  abbrev ns : List Node
  ns = nodes_of p

  length-ns : length ns ≡ size p
  length-ns = length-nodes_from 0 p

  table_ok : None (TableRefused T M L (table_bytes ns))
  table_ok k (TableRefused.slots x) = x slots
  table_ok k (TableRefused.atoms x) = x q.allowed
  table_ok k (TableRefused.loop x) = x loop
  table_ok k (TableRefused.not_good x) = x ns q.good-table

  module _ (room : ℕ) where
    read_ok : 8 * size p ≤ room → None (ReadRefused M text room)
    read_ok h k (ReadRefused.text-refused x) = ok k x
    read_ok h k (ReadRefused.short {p = r} s x) = omega (arith, ap size (one-reading text p r says s))

    rows_ok : length (rows_bytes (rows_of T M L ns)) ≤ room → None (RowsRefused T M L (table_bytes ns) room)
    rows_ok h k (RowsRefused.table-refused x) = table_ok k x
    rows_ok h k (RowsRefused.short {ns = ms} g x) = omega (arith, ap (λ (l : List Node). length (rows_bytes (rows_of T M L l))) (sym (q.nodes-alone ms g)))

    evaluate_ok : size p ≤ room → None (EvaluateRefused T M L (table_bytes ns) run room)
    evaluate_ok h k (EvaluateRefused.table-refused x) = table_ok k x
    evaluate_ok h k (EvaluateRefused.run_bad x) = x runs
    evaluate_ok h k (EvaluateRefused.short {ns = ms} g x) = omega (arith, ap (λ (l : List Node). length l) (sym (q.nodes-alone ms g)), length-ns)

    read_is : 8 * size p ≤ room → read_outcome M text room ≡ answered (wrote (size p) (table_bytes ns))
    read_is h = ((read_exact M text room).answers (wrote (size p) (table_bytes ns))).1 (read_ok h, (p, says, refl))

    rows_are : length (rows_bytes (rows_of T M L ns)) ≤ room →
        rows_outcome T M L (table_bytes ns) room ≡ answered (wrote (length (rows_of T M L ns)) (rows_bytes (rows_of T M L ns)))
    rows_are h =
        ((rows_exact T M L (table_bytes ns) room).answers (wrote (length (rows_of T M L ns)) (rows_bytes (rows_of T M L ns)))).1
        (rows_ok h, (ns, q.good-table, refl))

    evaluate-is : size p ≤ room →
        evaluate_outcome T M L (table_bytes ns) run room ≡ answered (wrote (bit_of (truth T L run (rule_at ns (root ns)) 1)) (truth_words T L run ns))
    evaluate-is h =
        ((evaluate_exact T M L (table_bytes ns) run room).answers (wrote (bit_of (truth T L run (rule_at ns (root ns)) 1)) (truth_words T L run ns))).1 (
          evaluate_ok h,
          (
            ns,
            bit_of (truth T L run (rule_at ns (root ns)) 1),
            truth_words T L run ns,
            q.good-table,
            words_are T L loop run ns,
            truth-bit T L loop run (rule_at ns (root ns)) 1 (omega arith) slots.0,
            refl,
          ),
        )

  truthful : OnlyTheTruth T M L D run ns (slack_rows T M L ns) (goal_row T M ns)
  truthful = only_the_truth T M L D loop run ns (nodes-good M p q.atoms q.windows) 0<D (omega (arith, length-ns, size-positive p))

  at-bytes : Demand3At T M L D run p (table_bytes ns) (length (rows_of T M L ns)) (rows_bytes (rows_of T M L ns)) (bit_of (truth T L run (rule_at ns (root ns)) 1))
      (truth_words T L run ns)
  at-bytes = record {
    table_is = refl;
    root_is = q.root-rule;
    rows = slack_rows T M L ns;
    goal = goal_row T M ns;
    rows-read = rows_back (rows_of T M L ns) (rows_recordable T M L slots.1 ns);
    truthful = truthful;
    evaluated = λ n t h l u.
        let k : n < length ns = omega (arith, length-ns) in
        bit_numerator (Holds (endless T L run) (rule_at ns n) t) D 0 (slot_bit (get_or (truth_words T L run ns) n 0) t)
        (value_at truthful.slacks (n * T + (t - 1)))
        ((words_are T L loop run ns).at n t k l u) (truthful.one n t k l u) (truthful.zero n t k l u);
    answered = subst (λ (r : Rule). (bit_of (truth T L run (rule_at ns (root ns)) 1) ≡ 1) ↔ Holds (endless T L run) r 1) q.root-rule
        (bit-one_iff (Holds (endless T L run) (rule_at ns (root ns)) 1) (bit_of (truth T L run (rule_at ns (root ns)) 1))
        (truth-bit T L loop run (rule_at ns (root ns)) 1 (omega arith) slots.0));
  }

pub demand3 : Demand3 read_outcome rows_outcome evaluate_outcome
demand3 M text ok T L D run slots loop runs 0<D =
    let (p, says) = rule-said M text ok in
    let q = unrefused M text ok p says in
    let ns = nodes_of p in
    let r = rows_of T M L ns in (
      p,
      says,
      λ room₁ room₂ room₃ h₁ h₂ h₃. (
        table_bytes ns,
        rows_bytes r,
        truth_words T L run ns,
        length r,
        bit_of (truth T L run (rule_at ns (root ns)) 1),
        read_is T M L D run slots loop runs 0<D text ok p says q room₁ h₁,
        rows_are T M L D run slots loop runs 0<D text ok p says q room₂ h₂,
        evaluate-is T M L D run slots loop runs 0<D text ok p says q room₃ h₃,
        at-bytes T M L D run slots loop runs 0<D text ok p says q,
      ),
    )
