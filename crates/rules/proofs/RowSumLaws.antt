-- The row sum of request N3: its first number is the sum of the positive terms alone, its second the sum of all terms, in whatever order they stand.
use Rattle.std.specs.Prelude.{◌≡◌, refl, Bool, true, false, cond, not, ℤ, pos, ◌+ℤ◌, ◌*ℤ◌}
use Rattle.std.proofs.Common.{sym, ap, ap₂, ◌∙◌}
use mathlib.Core.List.{List, [], ◌∷◌, Permᴰ}
use Rattle.std.proofs.Math.IntN.{+ℤ_idl, +ℤ_idr, +ℤ_assoc}
use Rattle.ints.specs.Sums.{swap-first}
use Rattle.rules.specs.Rows.{Term, value_at, sum_of}
use Rattle.rules.specs.RowSum.{is_positive, terms_where, positive_terms, pass, RowSum, row_sum}

pub sums_equal : {s t : RowSum} → s.positive ≡ t.positive → s.whole ≡ t.whole → s ≡ t
sums_equal p w = ap₂ (λ (a b : ℤ). let r : RowSum = record { positive = a; whole = b } in r) p w

abbrev is_other : Term → Bool
is_other t = not (is_positive t)

module _ (xs : List ℤ) where
  abbrev product : Term → ℤ
  product t = t.coefficient *ℤ value_at xs t.variable

  -- a pass adds the sum of the terms that it takes
  pass-sum : (f : Term → Bool) (s : ℤ) (ts : List Term) → pass f xs s ts ≡ s +ℤ sum_of xs (terms_where f ts)
  pass-sum f s [] = sym (+ℤ_idr s)
  pass-sum f s (t ∷ ts) = go (f t) (λ z. pass-sum f z ts)
    where
      go : (b : Bool) → ((z : ℤ) → pass f xs z ts ≡ z +ℤ sum_of xs (terms_where f ts)) →
          pass f xs (cond b (s +ℤ product t) s) ts ≡ s +ℤ sum_of xs (cond b (t ∷ terms_where f ts) (terms_where f ts))
      go true rest = rest (s +ℤ product t) ∙ +ℤ_assoc s (product t) (sum_of xs (terms_where f ts))
      go false rest = rest s

  -- the terms that are taken and those that are left are all terms
  parts-sum : (f : Term → Bool) (ts : List Term) → sum_of xs (terms_where f ts) +ℤ sum_of xs (terms_where (λ t. not (f t)) ts) ≡ sum_of xs ts
  parts-sum f [] = refl
  parts-sum f (t ∷ ts) = go (f t) (terms_where f ts) (terms_where (λ t. not (f t)) ts) (parts-sum f ts)
    where
      go : (b : Bool) (taken left : List Term) → sum_of xs taken +ℤ sum_of xs left ≡ sum_of xs ts →
          sum_of xs (cond b (t ∷ taken) taken) +ℤ sum_of xs (cond (not b) (t ∷ left) left) ≡ product t +ℤ sum_of xs ts
      go true taken left e = +ℤ_assoc (product t) (sum_of xs taken) (sum_of xs left) ∙ ap (λ (z : ℤ). product t +ℤ z) e
      go false taken left e = swap-first (sum_of xs taken) (product t) (sum_of xs left) ∙ ap (λ (z : ℤ). product t +ℤ z) e

  pub positive-is : (ts : List Term) → (row_sum xs ts).positive ≡ sum_of xs (positive_terms ts)
  positive-is ts = pass-sum is_positive (pos 0) ts ∙ +ℤ_idl (sum_of xs (positive_terms ts))

  pub whole_is : (ts : List Term) → (row_sum xs ts).whole ≡ sum_of xs ts
  whole_is ts =
      pass-sum is_other (row_sum xs ts).positive ts
      ∙ ap (λ (z : ℤ). z +ℤ sum_of xs (terms_where is_other ts)) (positive-is ts)
      ∙ parts-sum is_positive ts

  -- ---- the same terms in another order

  reordered : (f : Term → Bool) {ts us : List Term} → Permᴰ ts us → sum_of xs (terms_where f ts) ≡ sum_of xs (terms_where f us)
  reordered f Permᴰ.nil = refl
  reordered f (Permᴰ.trans p q) = reordered f p ∙ reordered f q
  reordered f (Permᴰ.cons {b = b} {l₁ = ts} {l₂ = us} e p) =
      ap (λ (t : Term). sum_of xs (terms_where f (t ∷ ts))) e ∙ go (f b) (terms_where f ts) (terms_where f us) (reordered f p)
    where
      go : (d : Bool) (l m : List Term) → sum_of xs l ≡ sum_of xs m → sum_of xs (cond d (b ∷ l) l) ≡ sum_of xs (cond d (b ∷ m) m)
      go true l m h = ap (λ (z : ℤ). product b +ℤ z) h
      go false l m h = h
  reordered f (Permᴰ.swap {a = a} {b = b} {l = ts} d e) =
      go (f a) (f b) (terms_where f ts) ∙ ap₂ (λ (t u : Term). sum_of xs (terms_where f (t ∷ u ∷ ts))) e d
    where
      go : (i j : Bool) (us : List Term) →
          sum_of xs (cond i (a ∷ cond j (b ∷ us) us) (cond j (b ∷ us) us)) ≡ sum_of xs (cond j (b ∷ cond i (a ∷ us) us) (cond i (a ∷ us) us))
      go true true us = swap-first (product a) (product b) (sum_of xs us)
      go true false us = refl
      go false true us = refl
      go false false us = refl

  pub any_order : {ts us : List Term} → Permᴰ ts us → row_sum xs ts ≡ row_sum xs us
  any_order {ts} {us} p =
      sums_equal (positive-is ts ∙ reordered is_positive p ∙ sym (positive-is us))
      (whole_is ts ∙ sym (parts-sum is_positive ts) ∙ ap₂ ◌+ℤ◌ (reordered is_positive p) (reordered is_other p) ∙ parts-sum is_positive us ∙ sym (whole_is us))
