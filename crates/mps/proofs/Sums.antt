-- Adding equal variables together and dropping zeros keeps a row's sum.
use Rattle.std.specs.Prelude.{◌≡◌, refl, Bool, cond, List, [], ◌∷◌, ◌++◌, ℕ, zero, suc, ◌<◌, eqb, ℤ, pos, negsuc, neg_ℤ, ◌+ℤ◌, ◌-ℤ◌, ◌*ℤ◌}
use Rattle.std.proofs.Common.{sym, ap, ap₂, ◌∙◌, arith, eq-eqb, ne_eqb}
use Rattle.std.proofs.Math.Decide.{dec_lt}
use Rattle.std.proofs.Math.IntN.{suc_ℤ, pred_ℤ, +ℤ_idl, +ℤ_idr, +ℤ_assoc, suc_ℤ-+ℤ, pred_ℤ-+ℤ, zero-*ℤ, suc_ℤ-*ℤ, pred_ℤ-*ℤ}
use Rattle.lists.specs.Every.{Every}
use Rattle.lists.specs.Flat.{flat}
use Rattle.ints.specs.Sums.{swap-last, swap_middle}
use Rattle.rules.specs.Rows.{Term, Row, value_at, sum_of}
use Rattle.mps.specs.Merged.{coefficient, term_of, merged}

-- ---- integers: a sum as a factor

times_suc : (a b x : ℤ) → (a +ℤ b) *ℤ x ≡ a *ℤ x +ℤ b *ℤ x → (suc_ℤ a +ℤ b) *ℤ x ≡ suc_ℤ a *ℤ x +ℤ b *ℤ x
times_suc a b x e =
    ap (λ (z : ℤ). z *ℤ x) (suc_ℤ-+ℤ a b) ∙ suc_ℤ-*ℤ (a +ℤ b) x ∙ ap (λ (z : ℤ). z +ℤ x) e ∙ swap-last (a *ℤ x) (b *ℤ x) x
    ∙ ap (λ (z : ℤ). z +ℤ b *ℤ x) (sym (suc_ℤ-*ℤ a x))

times_pred : (a b x : ℤ) → (a +ℤ b) *ℤ x ≡ a *ℤ x +ℤ b *ℤ x → (pred_ℤ a +ℤ b) *ℤ x ≡ pred_ℤ a *ℤ x +ℤ b *ℤ x
times_pred a b x e =
    ap (λ (z : ℤ). z *ℤ x) (pred_ℤ-+ℤ a b) ∙ pred_ℤ-*ℤ (a +ℤ b) x ∙ ap (λ (z : ℤ). z -ℤ x) e ∙ swap-last (a *ℤ x) (b *ℤ x) (neg_ℤ x)
    ∙ ap (λ (z : ℤ). z +ℤ b *ℤ x) (sym (pred_ℤ-*ℤ a x))

times_zero : (b x : ℤ) → (pos 0 +ℤ b) *ℤ x ≡ pos 0 *ℤ x +ℤ b *ℤ x
times_zero b x = ap (λ (z : ℤ). z *ℤ x) (+ℤ_idl b) ∙ sym (+ℤ_idl (b *ℤ x)) ∙ ap (λ (z : ℤ). z +ℤ b *ℤ x) (sym (zero-*ℤ x))

times-add : (a b x : ℤ) → (a +ℤ b) *ℤ x ≡ a *ℤ x +ℤ b *ℤ x
times-add (pos zero) b x = times_zero b x
times-add (pos (suc n)) b x = times_suc (pos n) b x (times-add (pos n) b x)
times-add (negsuc zero) b x = times_pred (pos 0) b x (times_zero b x)
times-add (negsuc (suc n)) b x = times_pred (negsuc n) b x (times-add (negsuc n) b x)

-- ---- the total f 0 + f 1 + .. + f (n - 1)

unfoldable total : (ℕ → ℤ) → ℕ → ℤ
total f zero = pos 0
total f (suc n) = total f n +ℤ f n

total-same : (f g : ℕ → ℤ) (n : ℕ) → ((v : ℕ) → v < n → f v ≡ g v) → total f n ≡ total g n
unfolding total
total-same f g zero e = refl
total-same f g (suc n) e = ap₂ ◌+ℤ◌ (total-same f g n (λ v h. e v (omega arith))) (e n (omega arith))

total-add : (f g : ℕ → ℤ) (n : ℕ) → total (λ v. f v +ℤ g v) n ≡ total f n +ℤ total g n
unfolding total
total-add f g zero = refl
total-add f g (suc n) = ap (λ (z : ℤ). z +ℤ (f n +ℤ g n)) (total-add f g n) ∙ swap_middle (total f n) (total g n) (f n) (g n)

total-none : (f : ℕ → ℤ) (n : ℕ) → ((v : ℕ) → v < n → f v ≡ pos 0) → total f n ≡ pos 0
unfolding total
total-none f zero e = refl
total-none f (suc n) e = ap₂ ◌+ℤ◌ (total-none f n (λ v h. e v (omega arith))) (e n (omega arith))

-- of a function that is 0 but at k
total-one : (f : ℕ → ℤ) (k n : ℕ) → k < n → ((v : ℕ) → v < n → (k ≡ v → ⊥) → f v ≡ pos 0) → total f n ≡ f k
unfolding total
total-one f k zero h e = absurd (omega arith)
total-one f k (suc n) h e = go (dec_lt k n) (λ l. total-one f k n l (λ v g ne. e v (omega arith) ne))
  where
    go : Dec (k < n) → (k < n → total f n ≡ f k) → total f (suc n) ≡ f k
    go (yes l) before = ap₂ ◌+ℤ◌ (before l) (e n (omega arith) (λ q. omega arith)) ∙ +ℤ_idr (f k)
    go (no l) before =
        let q : n ≡ k = omega arith in
        ap₂ ◌+ℤ◌ (total-none f n (λ v g. e v (omega arith) (λ p. omega arith))) (ap f q) ∙ +ℤ_idl (f k)

-- ---- sums of terms as totals

sum-append : (xs : List ℤ) (a b : List Term) → sum_of xs (a ++ b) ≡ sum_of xs a +ℤ sum_of xs b
sum-append xs [] b = sym (+ℤ_idl (sum_of xs b))
sum-append xs (t ∷ a) b =
    let c = t.coefficient *ℤ value_at xs t.variable in
    ap (λ (z : ℤ). c +ℤ z) (sum-append xs a b) ∙ sym (+ℤ_assoc c (sum_of xs a) (sum_of xs b))

-- "a zero coefficient is dropped"
sum-term : (xs : List ℤ) (v : ℕ) (c : ℤ) → sum_of xs (term_of v c) ≡ c *ℤ value_at xs v
sum-term xs v (pos zero) = sym (zero-*ℤ (value_at xs v))
sum-term xs v (pos (suc n)) = +ℤ_idr (pos (suc n) *ℤ value_at xs v)
sum-term xs v (negsuc n) = +ℤ_idr (negsuc n *ℤ value_at xs v)

sum-flat : (xs : List ℤ) (c : ℕ → ℤ) (n : ℕ) → sum_of xs (flat (λ v. term_of v (c v)) n) ≡ total (λ v. c v *ℤ value_at xs v) n
unfolding flat total
sum-flat xs c zero = refl
sum-flat xs c (suc n) =
    sum-append xs (flat (λ v. term_of v (c v)) n) (term_of n (c n)) ∙ ap₂ ◌+ℤ◌ (sum-flat xs c n) (sum-term xs n (c n))

-- "Equal variables in one row are added together"
total-term : (xs : List ℤ) (t : Term) (n : ℕ) → t.variable < n →
    total (λ v. cond (eqb t.variable v) t.coefficient (pos 0) *ℤ value_at xs v) n ≡ t.coefficient *ℤ value_at xs t.variable
total-term xs t n h =
    let k = t.variable in
    let at : Bool → ℕ → ℤ = λ b v. cond b t.coefficient (pos 0) *ℤ value_at xs v in
    total-one (λ v. at (eqb k v) v) k n h (λ v l ne. ap (λ (b : Bool). at b v) (ne_eqb k v ne) ∙ zero-*ℤ (value_at xs v))
    ∙ ap (λ (b : Bool). at b k) (eq-eqb k k refl)

total-terms : (xs : List ℤ) (ts : List Term) (n : ℕ) → Every (λ (t : Term). t.variable < n) ts →
    total (λ v. coefficient v ts *ℤ value_at xs v) n ≡ sum_of xs ts
unfolding coefficient
total-terms xs [] n h = total-none (λ v. pos 0 *ℤ value_at xs v) n (λ v l. zero-*ℤ (value_at xs v))
total-terms xs (t ∷ ts) n h =
    let c : ℕ → ℤ = λ v. cond (eqb t.variable v) t.coefficient (pos 0) in
    total-same (λ v. (c v +ℤ coefficient v ts) *ℤ value_at xs v) (λ v. c v *ℤ value_at xs v +ℤ coefficient v ts *ℤ value_at xs v) n
    (λ v l. times-add (c v) (coefficient v ts) (value_at xs v))
    ∙ total-add (λ v. c v *ℤ value_at xs v) (λ v. coefficient v ts *ℤ value_at xs v) n
    ∙ ap₂ ◌+ℤ◌ (total-term xs t n h.0) (total-terms xs ts n h.1)

-- a row whose variables are below n keeps its sum
pub merged-sum : (xs : List ℤ) (r : Row) (n : ℕ) → Every (λ (t : Term). t.variable < n) r.terms →
    sum_of xs (merged n r).terms ≡ sum_of xs r.terms
unfolding merged
merged-sum xs r n h = sum-flat xs (λ v. coefficient v r.terms) n ∙ total-terms xs r.terms n h
