-- Judge: refusals 1, 2, 13, 7, 9 and 10.
use Rattle.std.specs.Prelude.{◌≡◌, refl, List, ℕ, ◌≤◌, ◌<◌, leb, eqb, length, ℤ, pos, negsuc, nat_abs}
use Rattle.std.proofs.Common.{sym, ap, subst, ◌∙◌, arith, leb-false, leb-true, eqb-true}
use Rattle.std.proofs.lemmas.Bool.{eqb-false}
use Rattle.std.proofs.Math.IntN.{pos-ne-negsuc}
use Rattle.rules.specs.Quantities.{LoopAllowed}
use Rattle.rules.specs.Table.{Node, Good}
use Rattle.rules.specs.TableTest.{nodes_in}
use Rattle.rules.proofs.TableTest.{good-nodes}
use Rattle.rules.specs.Rows.{variable_count}
use Rattle.rules.specs.Judge.{Verdict, Judged}
use Rattle.rules.specs.Verdicts.{verdict}
use Rattle.rules.proofs.Verdicts.{verdict-judged, judged-verdict}
use Rattle.rules.specs.Refusals.{order, place, TableRefused, JudgeRefused}
use Rattle.rules.specs.Demands.{Exact, JudgeExact}
use Rattle.rules.specs.Demands.Answer.{answered}
use Rattle.rules.specs.Outcome.{with_tolerance, judge_outcome}
use Rattle.rules.proofs.Ladder.{From, rung, refuse, exact_answered}
use Rattle.rules.proofs.Exactness.Tests.{at_least}
use Rattle.rules.proofs.Exactness.Tables.{table-under, table_exact, of-nodes}

module _ (T M L : ℕ) (table : List ℕ) (figures : List ℤ) (tolerance : ℤ) where
  abbrev JudgeIs : Verdict → Type 0
  JudgeIs v = (ns : List Node) × (e : ℕ) × Good M table ns × (tolerance ≡ pos e) × Judged T M L e ns figures v

  judge_down : (j : ℕ) → JudgeRefused T M L table figures tolerance j → place j < place 8 → TableRefused T M L table j
  judge_down j x h = go x h
    where
      go : {j : ℕ} → JudgeRefused T M L table figures tolerance j → place j < place 8 → TableRefused T M L table j
      go (JudgeRefused.table-refused x) h = x
      go (JudgeRefused.miscounted g x) h = absurd (omega arith)
      go (JudgeRefused.tolerance_bad x) h = absurd (omega arith)

  judge_from : (k : ℕ) → From order (JudgeRefused T M L table figures tolerance) JudgeIs (place 8) →
      (place 9 < k → (ns : List Node) → Good M table ns → length figures ≡ variable_count T M L ns) →
      (place 10 < k → (e : ℕ) × (e ≤ 1000) × (tolerance ≡ pos e)) → k ≤ 13 → (j : ℕ) → JudgeRefused T M L table figures tolerance j →
      (k ≤ place j) × (place j < 13)
  judge_from k a b c u j x = go (a j x) x
    where
      go : {j : ℕ} → place 8 ≤ place j → JudgeRefused T M L table figures tolerance j → (k ≤ place j) × (place j < 13)
      go h (JudgeRefused.table-refused x) = absurd (omega (arith, table-under T M L table x))
      go h (JudgeRefused.miscounted {ns} g x) = (at_least (place 9) k (λ i. x (b i ns g)), omega arith)
      go h (JudgeRefused.tolerance_bad x) = (at_least (place 10) k (λ i. x (c i).0 (c i).1 (c i).2), omega arith)

  module _ (g : Good M table (nodes_in table)) (low : From order (JudgeRefused T M L table figures tolerance) JudgeIs (place 8))
      (n : (ns : List Node) → Good M table ns → length figures ≡ variable_count T M L ns) where
    tolerance_exact : LoopAllowed T L → (z : ℤ) → tolerance ≡ z →
        Exact (JudgeRefused T M L table figures tolerance) JudgeIs (with_tolerance z (λ e. answered (verdict T M L e (nodes_in table) figures)))
    tolerance_exact loop (negsuc d) e =
        refuse order (JudgeRefused T M L table figures tolerance) JudgeIs 10
        (λ j x. (judge_from (place 10) low (λ h. n) (λ h. absurd (omega arith)) (omega arith) j x).0)
        (JudgeRefused.tolerance_bad (λ c h f. pos-ne-negsuc c d (sym f ∙ e)))
    tolerance_exact loop (pos c) e =
        rung order (JudgeRefused T M L table figures tolerance) JudgeIs (leb c 1000) 10 _
        (λ j x. (judge_from (place 10) low (λ h. n) (λ h. absurd (omega arith)) (omega arith) j x).0)
        (λ f. JudgeRefused.tolerance_bad (λ d h i. omega (arith, leb-false c 1000 f, ap nat_abs (sym e ∙ i))))
        (λ t. exact_answered order (JudgeRefused T M L table figures tolerance) JudgeIs (verdict T M L c (nodes_in table) figures)
        (λ j x. let z = judge_from 13 low (λ h. n) (λ h. (c, leb-true c 1000 t, e)) (omega arith) j x in omega (arith, z))
        (nodes_in table, c, g, e, verdict-judged T M L c (nodes_in table) figures g.nodes g.some loop)
        (λ v i. judged-verdict T M L c (nodes_in table) figures g.nodes g.some loop
        (subst (λ (l : List Node). Judged T M L c l figures v) (good-nodes M table i.0 i.2)
        (subst (λ (d : ℕ). Judged T M L d i.0 figures v) (ap nat_abs (sym i.3 ∙ e)) i.4))))

pub judge_exact : JudgeExact judge_outcome
unfolding judge_outcome
judge_exact T M L table figures tolerance =
    let Refused : ℕ → Type 0 = JudgeRefused T M L table figures tolerance in
    let AnswerIs : Verdict → Type 0 = JudgeIs T M L table figures tolerance in
    table_exact T M L table Refused AnswerIs (λ k x. JudgeRefused.table-refused x) (judge_down T M L table figures tolerance) _
    (λ s m l g low.
    rung order Refused AnswerIs (eqb (length figures) (variable_count T M L (nodes_in table))) 9 _
    (λ j x. (judge_from T M L table figures tolerance (place 9) low (λ h. absurd (omega arith)) (λ h. absurd (omega arith)) (omega arith) j x).0)
    (λ e. JudgeRefused.miscounted g (eqb-false (length figures) (variable_count T M L (nodes_in table)) e))
    (λ e. tolerance_exact T M L table figures tolerance g low
    (of-nodes T M L table (λ ns. length figures ≡ variable_count T M L ns)
    (eqb-true (length figures) (variable_count T M L (nodes_in table)) e)) l tolerance refl))
