-- The row sums of a window's last row: over the part's figures at the slots of the window, and the node's.
use Rattle.std.specs.Prelude.{◌≡◌, refl, List, [], ◌∷◌, ◌++◌, map, ℕ, suc, ◌*◌, ◌≤◌, ℤ, pos, negsuc, neg_ℤ, nat_abs, ◌+ℤ◌, ◌-ℤ◌, ◌*ℤ◌}
use Rattle.std.proofs.Common.{sym, ap, ap₂, ◌∙◌, arith}
use Rattle.std.proofs.Math.IntN.{+ℤ_idl, +ℤ_idr, +ℤ_assoc, neg_ℤ-+ℤ, pos-*ℤ-pos, pos-*ℤ-negsuc, negsuc-*ℤ-pos, negsuc-*ℤ-negsuc}
use Rattle.rules.specs.Rows.{Term, plus, minus, value_at, sum_of}
use Rattle.rules.specs.RowSum.{positive_terms}
use Rattle.rules.proofs.RowSumLaws.{sums_equal, positive-is, whole_is}
use Rattle.millionths.specs.Bounds as Bounds
use Rattle.judge_sums.specs.declared.RowSum.{RowSum}
use Rattle.judge_sums.specs.declared.WindowKind.{WindowKind}
use Rattle.judge_sums.specs.declared.WindowKind.TheVariants.{Within, Throughout}
use Rattle.judge_sums.specs.Sums.{RowSumOf}

-- the terms of the last row for F[a,b] and for G[a,b], over the part's variables at the slots of the window, and the node's
abbrev pub within_terms : List ℕ → ℕ → List Term
within_terms vs v = map plus vs ++ (minus v ∷ [])

abbrev pub throughout_terms : List ℕ → ℕ → List Term
throughout_terms vs v = plus v ∷ map minus vs

abbrev pub last_terms : WindowKind → List ℕ → ℕ → List Term
last_terms Within = within_terms
last_terms Throughout = throughout_terms

-- their row sum, where `sum` is that of the part's figures, and x the node's figure
abbrev pub WindowSum : (terms : List ℕ → ℕ → List Term) (sum x : ℤ) (r : RowSum) → Type 0
WindowSum terms sum x r =
    (xs : List ℤ) (vs : List ℕ) (v : ℕ) → sum ≡ sum_of xs (map plus vs) → x ≡ value_at xs v → RowSumOf xs (terms vs v) r

once : (n : ℕ) → 1 * n ≡ n
once n = omega arith

pub plus_times : (x : ℤ) → pos 1 *ℤ x ≡ x
plus_times (pos n) = pos-*ℤ-pos 1 n ∙ ap pos (once n)
plus_times (negsuc n) = pos-*ℤ-negsuc 1 n ∙ ap (λ (k : ℕ). neg_ℤ (pos k)) (once (suc n))

pub minus-times : (x : ℤ) → negsuc 0 *ℤ x ≡ neg_ℤ x
minus-times (pos n) = negsuc-*ℤ-pos 0 n ∙ ap (λ (k : ℕ). neg_ℤ (pos k)) (once n)
minus-times (negsuc n) = negsuc-*ℤ-negsuc 0 n ∙ ap pos (once (suc n))

module _ (xs : List ℤ) where
  pub sum-append : (a b : List Term) → sum_of xs (a ++ b) ≡ sum_of xs a +ℤ sum_of xs b
  sum-append [] b = sym (+ℤ_idl (sum_of xs b))
  sum-append (t ∷ a) b =
      ap (λ (z : ℤ). t.coefficient *ℤ value_at xs t.variable +ℤ z) (sum-append a b)
      ∙ sym (+ℤ_assoc (t.coefficient *ℤ value_at xs t.variable) (sum_of xs a) (sum_of xs b))

  pub sum-plus : (v : ℕ) → sum_of xs (plus v ∷ []) ≡ value_at xs v
  sum-plus v = +ℤ_idr (pos 1 *ℤ value_at xs v) ∙ plus_times (value_at xs v)

  sum-minus : (v : ℕ) → sum_of xs (minus v ∷ []) ≡ neg_ℤ (value_at xs v)
  sum-minus v = +ℤ_idr (negsuc 0 *ℤ value_at xs v) ∙ minus-times (value_at xs v)

  sum-minuses : (vs : List ℕ) → sum_of xs (map minus vs) ≡ neg_ℤ (sum_of xs (map plus vs))
  sum-minuses [] = refl
  sum-minuses (v ∷ vs) =
      ap₂ ◌+ℤ◌ (minus-times (value_at xs v) ∙ ap neg_ℤ (sym (plus_times (value_at xs v)))) (sum-minuses vs)
      ∙ sym (neg_ℤ-+ℤ (pos 1 *ℤ value_at xs v) (sum_of xs (map plus vs)))

  positive-pluses : (vs : List ℕ) (v : ℕ) → positive_terms (map plus vs ++ (minus v ∷ [])) ≡ map plus vs
  positive-pluses [] v = refl
  positive-pluses (w ∷ vs) v = ap (λ (l : List Term). plus w ∷ l) (positive-pluses vs v)

  positive-minuses : (vs : List ℕ) → positive_terms (map minus vs) ≡ []
  positive-minuses [] = refl
  positive-minuses (w ∷ vs) = positive-minuses vs

  -- the sum of all p(s), less P: s is the sum of the p(s), and x the figure of P
  pub within_sums : (vs : List ℕ) (v : ℕ) {s x : ℤ} {r : RowSum} → s ≡ sum_of xs (map plus vs) → x ≡ value_at xs v → r.positive ≡ s → r.whole ≡ s -ℤ x →
      nat_abs r.positive ≤ Bounds.row_sum → nat_abs r.whole ≤ Bounds.row_sum → RowSumOf xs (within_terms vs v) r
  within_sums vs v e f p w b c =
      record {
        is = sums_equal (p ∙ e ∙ sym (positive-is xs (map plus vs ++ (minus v ∷ [])) ∙ ap (sum_of xs) (positive-pluses vs v)))
            (w ∙ ap₂ ◌-ℤ◌ e f ∙ sym (whole_is xs (within_terms vs v) ∙ sum-append (map plus vs) (minus v ∷ [])
            ∙ ap (λ (z : ℤ). sum_of xs (map plus vs) +ℤ z) (sum-minus v)));
        positive-small = b;
        whole-small = c;
      }

  -- P less all p(s)
  pub throughout_sums : (vs : List ℕ) (v : ℕ) {s x : ℤ} {r : RowSum} → s ≡ sum_of xs (map plus vs) → x ≡ value_at xs v → r.positive ≡ x → r.whole ≡ x -ℤ s →
      nat_abs r.positive ≤ Bounds.row_sum → nat_abs r.whole ≤ Bounds.row_sum → RowSumOf xs (throughout_terms vs v) r
  throughout_sums vs v e f p w b c =
      record {
        is = sums_equal (p ∙ f ∙ sym (positive-is xs (throughout_terms vs v) ∙ ap (λ (l : List Term). sum_of xs (plus v ∷ l)) (positive-minuses vs)
            ∙ sum-plus v))
            (w ∙ ap₂ ◌-ℤ◌ f e ∙ sym (whole_is xs (plus v ∷ map minus vs) ∙ ap₂ ◌+ℤ◌ (plus_times (value_at xs v)) (sum-minuses vs)));
        positive-small = b;
        whole-small = c;
      }
