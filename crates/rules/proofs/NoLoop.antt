-- Request N8: "With L equal to T everything is as it was": truth, number of figures, rows, verdicts and what the calls answer.
use Rattle.std.specs.Prelude.{◌≡◌, refl, Bool, true, false, cond, ◌&&◌, ◌||◌, ◌↔◌, List, [], ◌∷◌, ◌++◌, ℕ, suc, ◌+◌, ◌*◌, ◌≤◌, ◌<◌, min, ◌-◌, leb, ltb, eqb, ℤ, length, get_or}
use Rattle.std.proofs.Common.{sym, ap, ap₂, subst, ◌∙◌, le_refl, arith, le-ltb}
use Rattle.std.proofs.Math.Logic.Iff as Iff
use Rattle.std.proofs.Math.Decide.{dec_lt}
use Rattle.lists.specs.Any.{any}
use Rattle.lists.specs.Passing.{passing}
use Rattle.rules.specs.Quantities.{bit_at, one}
use Rattle.rules.specs.Rule.{Unary, Binary, Rule}
use Rattle.rules.specs.Rule.Unary.{not, eventually, always}
use Rattle.rules.specs.Rule.Binary.{and, or, implies, until}
use Rattle.rules.specs.Table.{Node, node_at, rule_at, root}
use Rattle.rules.specs.Table.Node.{atom, unary, binary, windowed}
use Rattle.rules.specs.Truth.{endless, Holds, TruthBit, slot_bit, TruthWords}
use Rattle.rules.specs.Rows.{Row, sum_of, slack, looping, loop_slack, slack_count, variable_count, unary_rows, binary_rows, window_rows, window_slots, slots_rows}
use Rattle.rules.specs.Rows.{rows_at, loop_rows_at, node_rows, nodes_rows, goal_row, rows_of, rows_bytes}
use Rattle.rules.proofs.Slots.{slot_no_loop}
use Rattle.rules.specs.ErrorFigure.{ErrorFigures, others}
use Rattle.rules.specs.Judge.{Verdict, JudgedBy, RootFigure, Judged}
use Rattle.rules.specs.Refusals.{order, place_in, place, WinsIn, Wins, TableRefused, EvaluateRefused, RowsRefused, JudgeRefused}
use Rattle.rules.specs.Demands.{Answer, Exact}
use Rattle.rules.specs.Demands.Answer.{refused, answered}
use Rattle.rules.specs.Demands.Written.{wrote}
use Rattle.rules.proofs.Unaltered.{same-judged}
use Rattle.rules.specs.Outcome.{evaluate_outcome, rows_outcome, judge_outcome}
use Rattle.rules.proofs.Ladder.{refuse}
use Rattle.rules.proofs.Exactness.Evaluate.{evaluate_exact}
use Rattle.rules.proofs.Exactness.Rows.{rows_exact}
use Rattle.rules.proofs.Exactness.Judge.{judge_exact}
use Rattle.rules.specs.Before.{endless_before, TruthWordsBefore, window_before, rows_at_before, nodes_rows_before, rows_before, variables_before}
use Rattle.rules.specs.Before.{ErrorFiguresBefore, JudgedBefore, TableRefusedBefore, EvaluateRefusedBefore, RowsRefusedBefore, JudgeRefusedBefore}
use Rattle.rules.specs.Before.{order_before, ExactBefore, EvaluatorExactBefore, RowsExactBefore, JudgeExactBefore}

no_loop : (T : ℕ) → ltb T T ≡ false
no_loop T = le-ltb T T (le_refl T)

-- ---- the run, and so the truth

pub same-run : (T : ℕ) (run : List ℕ) → 1 ≤ T → endless T T run ≡ endless_before T run
same-run T run h = λ i k a. bit_at run (slot_no_loop T k h i) a ≡ 1

pub same_truth : (T : ℕ) (run : List ℕ) → 1 ≤ T → (p : Rule) (t : ℕ) → Holds (endless T T run) p t ≡ Holds (endless_before T run) p t
same_truth T run h p t = λ i. Holds (same-run T run h i) p t

pub same_words : (T : ℕ) (run : List ℕ) → 1 ≤ T → (ns : List Node) (words : List ℕ) → TruthWords T T run ns words ↔ TruthWordsBefore T run ns words
same_words T run 0<T ns words =
    let bit : ℕ → ℕ → Type 0 → Type 0 = λ n t P. TruthBit P (slot_bit (get_or words n 0) t) in (
      λ w. record { count = w.count; at = λ n t h l u. subst (bit n t) (same_truth T run 0<T (rule_at ns n) t) (w.at n t h l u); above = w.above },
      λ w. record { count = w.count; at = λ n t h l u. subst (bit n t) (sym (same_truth T run 0<T (rule_at ns n) t)) (w.at n t h l u); above = w.above },
    )

-- ---- how many slacks and variables

pub same-slacks : (T : ℕ) (ns : List Node) → slack_count T T ns ≡ length ns * T
same-slacks T ns = ap (λ (b : Bool). (length ns + cond b (looping ns) 0) * T) (no_loop T) ∙ omega arith

pub same-variables : (T M : ℕ) (ns : List Node) → variable_count T M T ns ≡ variables_before T M ns
same-variables T M ns = ap (λ (n : ℕ). M * T + n) (same-slacks T ns) ∙ omega arith

-- ---- the rows

-- where no slot follows, what would follow does not count
unary-ends : (u : Unary) (P p P' Q : ℕ) → unary_rows u false P p P' ≡ unary_rows u false P p Q
unary-ends not P p P' Q = refl
unary-ends eventually P p P' Q = refl
unary-ends always P p P' Q = refl

binary-ends : (o : Binary) (P p q P' Q : ℕ) → binary_rows o false P p q P' ≡ binary_rows o false P p q Q
binary-ends and P p q P' Q = refl
binary-ends or P p q P' Q = refl
binary-ends implies P p q P' Q = refl
binary-ends until P p q P' Q = refl

module _ (T M : ℕ) (0<T : 1 ≤ T) (ns : List Node) where
  same-window : (t a b : ℕ) → window_slots T T t a b ≡ window_before T t a b
  same-window t a b = λ i. passing (λ s. any (λ j. leb a j && eqb (slot_no_loop T (t + j) 0<T i) s) (b + 1)) T 1

  same_at : (n : ℕ) (nd : Node) (t : ℕ) → rows_at T M T ns n nd t ≡ rows_at_before T M n nd t
  same_at n (atom a) t = refl
  same_at n (unary u c) t = rw (no_loop T) (go (ltb t T))
    where
      go : (b : Bool) →
          unary_rows u (b || false) (slack T M n t) (slack T M c t) (cond b (slack T M n (t + 1)) (loop_slack T M ns n T))
          ≡ unary_rows u b (slack T M n t) (slack T M c t) (slack T M n (t + 1))
      go true = refl
      go false = unary-ends u (slack T M n t) (slack T M c t) (loop_slack T M ns n T) (slack T M n (t + 1))
  same_at n (binary o l r) t = rw (no_loop T) (go (ltb t T))
    where
      go : (b : Bool) →
          binary_rows o (b || false) (slack T M n t) (slack T M l t) (slack T M r t) (cond b (slack T M n (t + 1)) (loop_slack T M ns n T))
          ≡ binary_rows o b (slack T M n t) (slack T M l t) (slack T M r t) (slack T M n (t + 1))
      go true = refl
      go false = binary-ends o (slack T M n t) (slack T M l t) (slack T M r t) (loop_slack T M ns n T) (slack T M n (t + 1))
  same_at n (windowed w a b c) t = ap (window_rows w (slack T M n t) (slack T M c)) (same-window t a b)

  same-node : (n : ℕ) (nd : Node) → node_rows T M T ns n nd ≡ slots_rows (rows_at_before T M n nd) T 1
  same-node n nd =
      ap (λ (b : Bool). cond b (slots_rows (loop_rows_at T M ns n nd) T 1) [] ++ slots_rows (rows_at T M T ns n nd) T 1) (no_loop T)
      ∙ ap (λ (f : ℕ → List Row). slots_rows f T 1) (λ i t. same_at n nd t i)

  same_nodes : (n : ℕ) (l : List Node) → nodes_rows T M T ns n l ≡ nodes_rows_before T M n l
  same_nodes n [] = refl
  same_nodes n (nd ∷ l) = ap₂ ◌++◌ (same-node n nd) (same_nodes (n + 1) l)

  pub same_rows : rows_of T M T ns ≡ rows_before T M ns
  same_rows = ap (λ (rs : List Row). rs ++ (goal_row T M ns ∷ [])) (same_nodes 0 ns)

-- ---- error figures and verdicts

module _ (T M : ℕ) (0<T : 1 ≤ T) (e : ℕ) (ns : List Node) where
  same-figure : (error : ℕ → ℕ) (n t : ℕ) →
      min one (e + others error (slack T M n t) (rows_at T M T ns n (node_at ns n) t) (variable_count T M T ns))
      ≡ min one (e + others error (slack T M n t) (rows_at_before T M n (node_at ns n) t) (variables_before T M ns))
  same-figure error n t =
      ap₂ (λ (rs : List Row) (k : ℕ). min one (e + others error (slack T M n t) rs k)) (same_at T M 0<T ns n (node_at ns n) t) (same-variables T M ns)

  -- there is no V
  pub same-figures : (error : ℕ → ℕ) → ErrorFigures T M T e ns error ↔ ErrorFiguresBefore T M e ns error
  same-figures error = (
    λ f. record { atoms = f.atoms; nodes = λ n t h l u. f.nodes n t h l u ∙ same-figure error n t },
    λ f. record { atoms = f.atoms; nodes = λ n t h l u. f.nodes n t h l u ∙ sym (same-figure error n t); kept = λ n t h b l. absurd (omega arith) },
  )

  pub same_verdicts : (xs : List ℤ) (v : Verdict) → Judged T M T e ns xs v ↔ JudgedBefore T M e ns xs v
  same_verdicts xs v =
      let by : List Row → Type 0 =
      λ rs. JudgedBy (M * T) e xs rs (λ r. sum_of xs r.terms) (λ d. d) (RootFigure T M ns (ErrorFigures T M T e ns)) v in
      Iff.trans (subst by (same_rows T M 0<T ns), subst by (sym (same_rows T M 0<T ns))) (
        same-judged (λ r. refl) (λ k (error, f, is). (error, (same-figures error).0 f, is)),
        same-judged (λ r. refl) (λ k (error, f, is). (error, (same-figures error).1 f, is)),
      )

-- ---- what the calls answer: exactly what they were to answer before. Where T is 0 they refuse with 1 before they look at L.

-- 13 has come into the order of refusals, and the others stand in it as they did
place-shifted : (k : ℕ) → eqb k 13 ≡ false → place k ≡ place_in order_before k + (min (place_in order_before k) 2 - 1)
place-shifted k e =
    let rest = place_in (3 ∷ 4 ∷ 5 ∷ 12 ∷ 6 ∷ 7 ∷ 8 ∷ 9 ∷ 10 ∷ 11 ∷ []) k in
    ap (λ (c : Bool). cond (eqb k 1) 0 (suc (cond (eqb k 2) 0 (suc (cond c 0 (suc rest)))))) e ∙ go (eqb k 1) (eqb k 2) rest
  where
    go : (a b : Bool) (n : ℕ) → let p = cond a 0 (suc (cond b 0 (suc n))) in cond a 0 (suc (cond b 0 (suc (suc n)))) ≡ p + (min p 2 - 1)
    go true b n = omega arith
    go false true n = omega arith
    go false false n = omega arith

order-kept : (j k : ℕ) → eqb j 13 ≡ false → eqb k 13 ≡ false → (place j < place k) ↔ (place_in order_before j < place_in order_before k)
order-kept j k a b =
    let x = place-shifted j a in
    let y = place-shifted k b in
    (λ l. omega (arith, x, y), λ l. omega (arith, x, y))

-- what is exact by today's order is so by that of before, where 13 is no refusal
exact_before : {A : Type 0} {S : ℕ → Type 0} {J : A → Type 0} {answer : Answer A} → ((k : ℕ) → S k → eqb k 13 ≡ false) →
    Exact S J answer → ExactBefore S J answer
exact_before {S = S} old x = record { refuses = λ k. Iff.trans (x.refuses k) (wins k); answers = x.answers }
  where
    wins : (k : ℕ) → Wins S k ↔ WinsIn order_before S k
    wins k = (
      λ w. record { applies = w.applies; earlier = λ j l y. w.earlier j ((order-kept j k (old j y) (old k w.applies)).1 l) y },
      λ w. record { applies = w.applies; earlier = λ j l y. w.earlier j ((order-kept j k (old j y) (old k w.applies)).0 l) y },
    )

wins_too : {P Q : ℕ → Type 0} → ((k : ℕ) → P k ↔ Q k) → {k : ℕ} → Wins P k → Wins Q k
wins_too same {k} w = record { applies = (same k).0 w.applies; earlier = λ j l x. w.earlier j l ((same j).1 x) }

-- refusals R, S and answers I, J that are the same where 1 ≤ T, with 1 refused where not
module _ {A : Type 0} (T : ℕ) (R S : ℕ → Type 0) (I J : A → Type 0) where
  pub exact_too : (answer : Answer A) → ((k : ℕ) → S k → eqb k 13 ≡ false) → ((1 ≤ T → ⊥) → R 1 × S 1) → (1 ≤ T → (k : ℕ) → R k ↔ S k) →
      (1 ≤ T → (x : A) → I x ↔ J x) → Exact R I answer → ExactBefore S J answer
  exact_too answer old out same is x = exact_before old (go (dec_lt 0 T))
    where
      go : Dec (0 < T) → Exact S J answer
      go (no h) =
          let first : Wins R 1 = record { applies = (out h).0; earlier = λ j l y. absurd (omega arith) } in
          subst (Exact S J) (sym ((x.refuses 1).1 first)) (refuse order S J 1 (λ j y. omega arith) (out h).1)
      go (yes h) = record {
        refuses = λ k. Iff.trans (x.refuses k) (wins_too (same h), wins_too (λ j. Iff.symm (same h j)));
        answers = λ a. Iff.trans (x.answers a) (
          λ y. (λ k r. y.0 k ((same h k).1 r), (is h a).0 y.1),
          λ y. (λ k r. y.0 k ((same h k).0 r), (is h a).1 y.1),
        );
      }

module _ (T M : ℕ) (table : List ℕ) where
  -- "13 when L is not 1 to T" does not apply
  pub same-table : 1 ≤ T → (k : ℕ) → TableRefused T M T table k ↔ TableRefusedBefore T M table k
  same-table 0<T k = (to, from)
    where
      to : {j : ℕ} → TableRefused T M T table j → TableRefusedBefore T M table j
      to (TableRefused.slots x) = TableRefusedBefore.slots x
      to (TableRefused.atoms x) = TableRefusedBefore.atoms x
      to (TableRefused.loop x) = absurd (x (0<T, le_refl T))
      to (TableRefused.not_good x) = TableRefusedBefore.not_good x

      from : {j : ℕ} → TableRefusedBefore T M table j → TableRefused T M T table j
      from (TableRefusedBefore.slots x) = TableRefused.slots x
      from (TableRefusedBefore.atoms x) = TableRefused.atoms x
      from (TableRefusedBefore.not_good x) = TableRefused.not_good x

  pub table-old : {k : ℕ} → TableRefusedBefore T M table k → eqb k 13 ≡ false
  table-old (TableRefusedBefore.slots x) = refl
  table-old (TableRefusedBefore.atoms x) = refl
  table-old (TableRefusedBefore.not_good x) = refl

  pub no_slots : (1 ≤ T → ⊥) → TableRefused T M T table 1 × TableRefusedBefore T M table 1
  no_slots h = (TableRefused.slots (λ s. h s.0), TableRefusedBefore.slots (λ s. h s.0))

pub same-evaluate : EvaluatorExactBefore (λ T M table run room. evaluate_outcome T M T table run room)
same-evaluate T M table run room =
    exact_too T _ _ _ _ (evaluate_outcome T M T table run room) (λ k x. old x)
    (λ h. let n = no_slots T M table h in (EvaluateRefused.table-refused n.0, EvaluateRefusedBefore.table-refused n.1))
    (λ h k. (to h, from h))
    (λ h w. (
      λ (ns, v, words, g, t, b, e). (ns, v, words, g, (same_words T run h ns words).0 t, subst (λ (P : Type 0). TruthBit P v) (at-root h ns) b, e),
      λ (ns, v, words, g, t, b, e). (ns, v, words, g, (same_words T run h ns words).1 t, subst (λ (P : Type 0). TruthBit P v) (sym (at-root h ns)) b, e),
    ))
    (evaluate_exact T M T table run room)
  where
    at-root : 1 ≤ T → (ns : List Node) → Holds (endless T T run) (rule_at ns (root ns)) 1 ≡ Holds (endless_before T run) (rule_at ns (root ns)) 1
    at-root h ns = same_truth T run h (rule_at ns (root ns)) 1

    old : {k : ℕ} → EvaluateRefusedBefore T M table run room k → eqb k 13 ≡ false
    old (EvaluateRefusedBefore.table-refused x) = table-old T M table x
    old (EvaluateRefusedBefore.run_bad x) = refl
    old (EvaluateRefusedBefore.short g x) = refl

    to : 1 ≤ T → {k : ℕ} → EvaluateRefused T M T table run room k → EvaluateRefusedBefore T M table run room k
    to h (EvaluateRefused.table-refused {k} x) = EvaluateRefusedBefore.table-refused ((same-table T M table h k).0 x)
    to h (EvaluateRefused.run_bad x) = EvaluateRefusedBefore.run_bad x
    to h (EvaluateRefused.short g x) = EvaluateRefusedBefore.short g x

    from : 1 ≤ T → {k : ℕ} → EvaluateRefusedBefore T M table run room k → EvaluateRefused T M T table run room k
    from h (EvaluateRefusedBefore.table-refused {k} x) = EvaluateRefused.table-refused ((same-table T M table h k).1 x)
    from h (EvaluateRefusedBefore.run_bad x) = EvaluateRefused.run_bad x
    from h (EvaluateRefusedBefore.short g x) = EvaluateRefused.short g x

pub same-row_writer : RowsExactBefore (λ T M table room. rows_outcome T M T table room)
same-row_writer T M table room =
    exact_too T _ _ _ _ (rows_outcome T M T table room) (λ k x. old x)
    (λ h. let n = no_slots T M table h in (RowsRefused.table-refused n.0, RowsRefusedBefore.table-refused n.1))
    (λ h k. (to h, from h))
    (λ h w. (λ (ns, g, e). (ns, g, e ∙ written h ns), λ (ns, g, e). (ns, g, e ∙ sym (written h ns))))
    (rows_exact T M T table room)
  where
    written : 1 ≤ T → (ns : List Node) →
        wrote (length (rows_of T M T ns)) (rows_bytes (rows_of T M T ns)) ≡ wrote (length (rows_before T M ns)) (rows_bytes (rows_before T M ns))
    written h ns = ap (λ (rs : List Row). wrote (length rs) (rows_bytes rs)) (same_rows T M h ns)

    old : {k : ℕ} → RowsRefusedBefore T M table room k → eqb k 13 ≡ false
    old (RowsRefusedBefore.table-refused x) = table-old T M table x
    old (RowsRefusedBefore.short g x) = refl

    to : 1 ≤ T → {k : ℕ} → RowsRefused T M T table room k → RowsRefusedBefore T M table room k
    to h (RowsRefused.table-refused {k} x) = RowsRefusedBefore.table-refused ((same-table T M table h k).0 x)
    to h (RowsRefused.short {ns} g x) = RowsRefusedBefore.short g (subst (λ (rs : List Row). room < length (rows_bytes rs)) (same_rows T M h ns) x)

    from : 1 ≤ T → {k : ℕ} → RowsRefusedBefore T M table room k → RowsRefused T M T table room k
    from h (RowsRefusedBefore.table-refused {k} x) = RowsRefused.table-refused ((same-table T M table h k).1 x)
    from h (RowsRefusedBefore.short {ns} g x) = RowsRefused.short g (subst (λ (rs : List Row). room < length (rows_bytes rs)) (sym (same_rows T M h ns)) x)

pub same_judge : JudgeExactBefore (λ T M table figures tolerance. judge_outcome T M T table figures tolerance)
same_judge T M table figures tolerance =
    exact_too T _ _ _ _ (judge_outcome T M T table figures tolerance) (λ k x. old x)
    (λ h. let n = no_slots T M table h in (JudgeRefused.table-refused n.0, JudgeRefusedBefore.table-refused n.1))
    (λ h k. (to h, from h))
    (λ h v. (
      λ (ns, e, g, z, j). (ns, e, g, z, (same_verdicts T M h e ns figures v).0 j),
      λ (ns, e, g, z, j). (ns, e, g, z, (same_verdicts T M h e ns figures v).1 j),
    ))
    (judge_exact T M T table figures tolerance)
  where
    old : {k : ℕ} → JudgeRefusedBefore T M table figures tolerance k → eqb k 13 ≡ false
    old (JudgeRefusedBefore.table-refused x) = table-old T M table x
    old (JudgeRefusedBefore.miscounted g x) = refl
    old (JudgeRefusedBefore.tolerance_bad x) = refl

    to : 1 ≤ T → {k : ℕ} → JudgeRefused T M T table figures tolerance k → JudgeRefusedBefore T M table figures tolerance k
    to h (JudgeRefused.table-refused {k} x) = JudgeRefusedBefore.table-refused ((same-table T M table h k).0 x)
    to h (JudgeRefused.miscounted {ns} g x) = JudgeRefusedBefore.miscounted g (λ c. x (c ∙ sym (same-variables T M ns)))
    to h (JudgeRefused.tolerance_bad x) = JudgeRefusedBefore.tolerance_bad x

    from : 1 ≤ T → {k : ℕ} → JudgeRefusedBefore T M table figures tolerance k → JudgeRefused T M T table figures tolerance k
    from h (JudgeRefusedBefore.table-refused {k} x) = JudgeRefused.table-refused ((same-table T M table h k).1 x)
    from h (JudgeRefusedBefore.miscounted {ns} g x) = JudgeRefused.miscounted g (λ c. x (c ∙ same-variables T M ns))
    from h (JudgeRefusedBefore.tolerance_bad x) = JudgeRefused.tolerance_bad x

-- what is exact is one answer, so that a function that met a demand of before gave the answers of today at L equal to T
pub one_answer : {A : Type 0} {Refused : ℕ → Type 0} {Is : A → Type 0} (a b : Answer A) → ExactBefore Refused Is a → ExactBefore Refused Is b → a ≡ b
one_answer (refused k) b x y = sym ((y.refuses k).1 ((x.refuses k).0 refl))
one_answer (answered v) b x y = sym ((y.answers v).1 ((x.answers v).0 refl))
