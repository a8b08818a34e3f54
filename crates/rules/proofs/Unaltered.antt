-- The judge's verdict does not alter, and the evaluator's truth is the one of before.
use Rattle.rules.specs.Unaltered.{bytes_of}
use Rattle.std.specs.Prelude.{◌≡◌, refl, ◌↔◌, List, ℕ, suc, ◌+◌, ◌-◌, ◌*◌, ◌/◌, ◌%◌, ◌≤◌, ◌<◌, length, get_or, ℤ}
use Rattle.std.proofs.Common.{sym, ap, ap₂, subst, ◌∙◌}
use Rattle.lists.specs.Tabulate.{length-tabulate, get_d_tabulate}
use Rattle.rules.specs.Table.{Node, rule_at}
use Rattle.rules.specs.Truth.{Holds, endless, TruthBit, slot_bit, TruthWords}
use Rattle.rules.specs.Rows.{Row}
use Rattle.rules.specs.Judge.{BrokenWith, shortfall_with, Lowest, None, VerdictWith, row_at, BrokenAt, JudgedBy}
use Rattle.rules.specs.Judge.VerdictWith.{broken}
use Rattle.rules.specs.Judge.JudgedBy.{is-outside, is-not-binary, is-broken, is-passed}
use Rattle.rules.specs.ErrorFigure.{ErrorFigures}
use Rattle.rules.specs.Judge as Now
use Rattle.rules.specs.Before.{TruthBytes, Verdict, Judged, verdict_before}
use Rattle.rules.proofs.Exactness.Evaluate.{bit-one}
use Rattle.rules.proofs.Solution.Truths.{place-div, place-mod, place_lt}
use Rattle.rules.specs.RowSum as Summed
use Rattle.rules.proofs.RowSumLaws.{whole_is}

-- ---- the same sums, and the same things carried, give the same verdicts

module _ {P Q : ℕ → Type 0} where
  lowest_same : ((k : ℕ) → P k ↔ Q k) → {n : ℕ} → Lowest P n → Lowest Q n
  lowest_same iff {n} h = record { holds = (iff n).0 h.holds; below = λ k l q. h.below k l ((iff k).1 q) }

  none-same : ((k : ℕ) → P k ↔ Q k) → None P → None Q
  none-same iff h = λ k q. h k ((iff k).1 q)

broken-same : (e : ℕ) {sum sum' : Row → ℤ} → ((r : Row) → sum r ≡ sum' r) → (rows : List Row) (i : ℕ) →
    BrokenAt (λ r. BrokenWith e r (sum r)) rows i ↔ BrokenAt (λ r. BrokenWith e r (sum' r)) rows i
broken-same e same rows i =
    let by : ℤ → Type 0 = λ z. (i < length rows) × BrokenWith e (row_at rows i) z in
    (subst by (same (row_at rows i)), subst by (sym (same (row_at rows i))))

module _ {B P : Type 0} {A e : ℕ} {xs : List ℤ} {rows : List Row} {sum sum' : Row → ℤ} {carried : ℤ → B} {Carries Carries' : P → Type 0}
    (same : (r : Row) → sum r ≡ sum' r) (carries : (x : P) → Carries x → Carries' x) where
  pub same-judged : {v : VerdictWith B P} → JudgedBy A e xs rows sum carried Carries v → JudgedBy A e xs rows sum' carried Carries' v
  same-judged (is-outside h) = is-outside h
  same-judged (is-not-binary p h) = is-not-binary p h
  same-judged (is-broken {i} p q h) =
      subst (λ (z : ℤ). JudgedBy A e xs rows sum' carried Carries' (broken i (carried (shortfall_with (row_at rows i) z)))) (sym (same (row_at rows i)))
      (is-broken p q (lowest_same (broken-same e same rows) h))
  same-judged (is-passed p q r x) = is-passed p q (none-same (broken-same e same rows) r) (carries _ x)

-- ---- request N1, "Which verdict is given does not alter": without its shortfall, the verdict is the one of before

module _ {T M L e : ℕ} {ns : List Node} {xs : List ℤ} where
  pub judged-before : {v : Now.Verdict} → Now.Judged T M L e ns xs v → Judged T M L e ns xs (verdict_before v)
  judged-before (is-outside h) = is-outside h
  judged-before (is-not-binary p h) = is-not-binary p h
  judged-before (is-broken p q h) = is-broken p q h
  judged-before (is-passed p q r x) = is-passed p q r tt

  pub judged_now : {error : ℕ → ℕ} → ErrorFigures T M L e ns error → {u : Verdict} → Judged T M L e ns xs u →
      (v : Now.Verdict) × Now.Judged T M L e ns xs v × (verdict_before v ≡ u)
  judged_now f (is-outside h) = (_, is-outside h, refl)
  judged_now f (is-not-binary p h) = (_, is-not-binary p h, refl)
  judged_now f (is-broken p q h) = (_, is-broken p q h, refl)
  judged_now f (is-passed p q r x) = (_, is-passed p q r (_, f, refl), refl)

-- ---- request N3: with the second number of the row sum for a row's sum, the verdict is the same, its shortfall too

pub same-shortfall : (xs : List ℤ) (r : Row) → Summed.shortfall xs r ≡ Now.shortfall xs r
same-shortfall xs r = ap (shortfall_with r) (whole_is xs r.terms)

pub same-broken : (e : ℕ) (xs : List ℤ) (r : Row) → Summed.Broken e xs r ↔ Now.Broken e xs r
same-broken e xs r = let same = whole_is xs r.terms in (subst (BrokenWith e r) same, subst (BrokenWith e r) (sym same))

pub judged_summed : (T M L e : ℕ) (ns : List Node) (xs : List ℤ) (v : Now.Verdict) → Summed.Judged T M L e ns xs v ↔ Now.Judged T M L e ns xs v
judged_summed T M L e ns xs v =
    (same-judged (λ r. whole_is xs r.terms) (λ k x. x), same-judged (λ r. sym (whole_is xs r.terms)) (λ k x. x))

pub words_give_bytes : (T L : ℕ) (run : List ℕ) (ns : List Node) (words : List ℕ) → TruthWords T L run ns words → TruthBytes T L run ns (bytes_of T words)
words_give_bytes T L run ns words w = record {
  count = length-tabulate (length words * T) (λ i. slot_bit (get_or words (i / T) 0) (suc (i % T))) ∙ ap (λ (n : ℕ). n * T) w.count;
  at = λ n t h l u.
      let k : n < length words = subst (λ (m : ℕ). n < m) (sym w.count) h in
      let bit : get_or (bytes_of T words) (n * T + (t - 1)) 0 ≡ slot_bit (get_or words n 0) t =
      get_d_tabulate (length words * T) (λ i. slot_bit (get_or words (i / T) 0) (suc (i % T))) (n * T + (t - 1)) 0 (place_lt T (length words) n t k l u)
      ∙ ap₂ (λ (a b : ℕ). slot_bit (get_or words a 0) b) (place-div T n t l u) (place-mod T n t l u) in
      subst (TruthBit (Holds (endless T L run) (rule_at ns n) t)) (sym bit) (w.at n t h l u);
}

pub words_say_same : (T L : ℕ) (run : List ℕ) (ns : List Node) (bytes words : List ℕ) → TruthBytes T L run ns bytes → TruthWords T L run ns words →
    (n t : ℕ) → n < length ns → 1 ≤ t → t ≤ T → slot_bit (get_or words n 0) t ≡ get_or bytes (n * T + (t - 1)) 0
words_say_same T L run ns bytes words b w n t h l u = bit-one (Holds (endless T L run) (rule_at ns n) t) _ _ (w.at n t h l u) (b.at n t h l u)
