-- The sum, the least and the largest of some figures, as a part's at the slots of a window; where the row of the extreme one holds, all do.
use Rattle.std.specs.Prelude.{◌≡◌, refl, Bool, true, false, List, map, ℕ, ◌+◌, ◌-◌, ◌*◌, ◌≤◌, ◌<◌, ℤ, pos, negsuc, neg_ℤ, nat_abs, ◌+ℤ◌, ◌-ℤ◌, ◌*ℤ◌, ◌≤ℤ◌}
use Rattle.std.proofs.Common.{sym, ap, ap₂, ◌∙◌, subst, arith, lt-ltb, le-ltb, SFits, to_z, of_z}
use Rattle.std.proofs.Math.Path.{subst⁻¹}
use Rattle.std.proofs.Math.Decide.{dec_lt}
use Rattle.std.proofs.Math.IntN.{+ℤ_idl, +ℤ_idr, +ℤ_comm, +ℤ_assoc, neg_ℤ-+ℤ, neg_ℤ-neg_ℤ}
use Rattle.std.specs.Int.Signed.{lt_z, lt_z_no, clash_ℤ, <ℤ-≤ℤ_trans}
use Rattle.std.specs.Int.{w32, w64}
use Rattle.ints.specs.Magnitudes.{sum_magnitude}
use Rattle.ints.specs.Sums.{swap-last}
use Rattle.ints.specs.Stored.{sfits_abs, cast_fits, cast_back}
use Rattle.rules.specs.Rows.{plus, value_at, sum_of}
use Rattle.rules.proofs.Shortfalls.{below_difference}
use Rattle.rules.specs.Judge.{shortfall}
use Rattle.rules.specs.Verdicts.{is_short}
use Rattle.millionths.specs.Bounds as Bounds
use Rattle.millionths.specs.declared.Millionths.{Millionths}
use Rattle.judge_sums.specs.declared.WindowKind.{WindowKind}
use Rattle.judge_sums.specs.declared.WindowKind.TheVariants.{Within, Throughout}
use Rattle.judge_sums.specs.Sums.{pair_of}
use Rattle.judge_sums.specs.Laws.{short_of}
use Rattle.judge_sums.specs.Windows.{plus_times, minus-times}
use Rattle.window.specs.declared.Looks.{Looks}
use Rattle.window.specs.Slots.{variable_at, variables}
use Rattle.judge_slot.specs.declared.Spread.{Spread}
use Rattle.judge_slot.specs.Windows.{slot_row, slot_sum, slot_short-is, sum_to, sum-none, sum_more, sum_same, sum-joined, sum-all}

-- figures that are not far outside the limits: few of them have a sum of 32 bits
abbrev pub Limited : List ℤ → Type 0
Limited xs = (v : ℕ) → nat_abs (value_at xs v) ≤ Bounds.near

-- of the figures of k variables, the i-th of which is `at i`
pub record Spreads (xs : List ℤ) (at : ℕ → ℕ) (k : ℕ) (sum least most : ℤ) : Type 0 where
  pub is : sum ≡ sum_to xs at k
  pub small : nat_abs sum ≤ Bounds.near * k
  pub below : (i : ℕ) → i < k → least ≤ℤ value_at xs (at i)
  pub above : (i : ℕ) → i < k → value_at xs (at i) ≤ℤ most

abbrev pub SpreadOf : List ℤ → (at : ℕ → ℕ) → (k : ℕ) → Spread → Type 0
SpreadOf xs at k x = Spreads xs at k x.sum x.least.value x.most.value

-- the figure whose row falls short by most
abbrev pub extreme_of : WindowKind → Spread → Millionths
extreme_of Within x = x.most
extreme_of Throughout x = x.least

-- two spreads as one
pub record Joined (a b x : Spread) : Type 0 where
  pub sum_is : x.sum ≡ a.sum +ℤ b.sum
  pub least-is : (x.least.value ≤ℤ a.least.value) × (x.least.value ≤ℤ b.least.value)
  pub most-is : (a.most.value ≤ℤ x.most.value) × (b.most.value ≤ℤ x.most.value)

≤ℤ-trans : {a b c : ℤ} → a ≤ℤ b → b ≤ℤ c → a ≤ℤ c
≤ℤ-trans {a} {b} {c} h k = go (lt_z c a) refl
  where
    go : (t : Bool) → lt_z c a ≡ t → a ≤ℤ c
    go true e = clash_ℤ (<ℤ-≤ℤ_trans (record { lt = rw e tt }) h) k
    go false e = lt_z_no (rw e tt)

module _ (xs : List ℤ) (at : ℕ → ℕ) where
  pub spread_none : {a b : ℤ} → Spreads xs at 0 (pos 0) a b
  spread_none = record {
    is = sym (sum-none xs at);
    small = omega arith;
    below = λ i g. absurd (omega arith);
    above = λ i g. absurd (omega arith);
  }

  pub spread_more : (k : ℕ) {s s' y a a' b b' : ℤ} → Spreads xs at k s a b → y ≡ value_at xs (at k) → s' ≡ s +ℤ y → nat_abs y ≤ Bounds.near →
      (a' ≤ℤ a) × (a' ≤ℤ y) → (b ≤ℤ b') × (y ≤ℤ b') → Spreads xs at (k + 1) s' a' b'
  spread_more k {s} {y = y} {a' = a'} {b' = b'} h f n z l m = record {
    is = n ∙ sum_more xs at k h.is f;
    small = let w = sum_magnitude s y h.small z in rw n (omega arith);
    below = λ i g. low i g (dec_lt i k);
    above = λ i g. high i g (dec_lt i k);
  }
    where
      low : (i : ℕ) → i < k + 1 → Dec (i < k) → a' ≤ℤ value_at xs (at i)
      low i g (yes t) = ≤ℤ-trans l.0 (h.below i t)
      low i g (no t) = let z : k ≡ i = omega arith in subst (λ (j : ℕ). a' ≤ℤ value_at xs (at j)) z (subst (λ (v : ℤ). a' ≤ℤ v) f l.1)

      high : (i : ℕ) → i < k + 1 → Dec (i < k) → value_at xs (at i) ≤ℤ b'
      high i g (yes t) = ≤ℤ-trans (h.above i t) m.0
      high i g (no t) = let z : k ≡ i = omega arith in subst (λ (j : ℕ). value_at xs (at j) ≤ℤ b') z (subst (λ (v : ℤ). v ≤ℤ b') f m.1)

-- by another name of the variables
spread_as : {xs : List ℤ} {f at : ℕ → ℕ} {k : ℕ} {x : Spread} → ((i : ℕ) → i < k → f i ≡ at i) → SpreadOf xs f k x → SpreadOf xs at k x
spread_as {xs} {f} {at} {k} {x} e h = record {
  is = h.is ∙ sum_same xs f at k e;
  small = h.small;
  below = λ i g. subst (λ (v : ℕ). x.least.value ≤ℤ value_at xs v) (e i g) (h.below i g);
  above = λ i g. subst (λ (v : ℕ). value_at xs v ≤ℤ x.most.value) (e i g) (h.above i g);
}

-- of the first j variables, and of the k after them
spread_joined : {xs : List ℤ} {at : ℕ → ℕ} {j k : ℕ} {a b x : Spread} → SpreadOf xs at j a → SpreadOf xs (λ i. at (j + i)) k b → Joined a b x →
    SpreadOf xs at (j + k) x
spread_joined {xs} {at} {j} {k} {a} {b} {x} h l u = record {
  is = u.sum_is ∙ ap₂ ◌+ℤ◌ h.is l.is ∙ sum-joined xs at j k;
  small = let z = sum_magnitude a.sum b.sum h.small l.small in rw u.sum_is (omega arith);
  below = λ i z. low i z (dec_lt i j);
  above = λ i z. high i z (dec_lt i j);
}
  where
    place : (i : ℕ) → i < j + k → (i < j → ⊥) → at (j + (i - j)) ≡ at i
    place i z t = ap at (omega arith)

    low : (i : ℕ) → i < j + k → Dec (i < j) → x.least.value ≤ℤ value_at xs (at i)
    low i z (yes t) = ≤ℤ-trans u.least-is.0 (h.below i t)
    low i z (no t) = ≤ℤ-trans u.least-is.1 (subst (λ (v : ℕ). b.least.value ≤ℤ value_at xs v) (place i z t) (l.below (i - j) (omega arith)))

    high : (i : ℕ) → i < j + k → Dec (i < j) → value_at xs (at i) ≤ℤ x.most.value
    high i z (yes t) = ≤ℤ-trans (h.above i t) u.most-is.0
    high i z (no t) = ≤ℤ-trans (subst (λ (v : ℕ). value_at xs v ≤ℤ b.most.value) (place i z t) (l.above (i - j) (omega arith))) u.most-is.1

-- at the slots of a window, in one range or in two
module _ (xs : List ℤ) (w : Looks) (p : ℕ) {from head : ℕ} {a : Spread} (f : from ≡ p + w.first) (g : head ≡ w.head)
    (h : SpreadOf xs (λ i. from + i) head a) where
  in_head : SpreadOf xs (variable_at w p) head a
  in_head = spread_as (λ i z. rw (lt-ltb i w.head (omega arith)) (omega arith)) h

  pub spread_one : head ≡ w.count → SpreadOf xs (variable_at w p) w.count a
  spread_one z = subst (λ (k : ℕ). SpreadOf xs (variable_at w p) k a) z in_head

  pub spread_two : {rest k : ℕ} {b x : Spread} → rest ≡ from + head + w.skip → head + k ≡ w.count → SpreadOf xs (λ i. rest + i) k b → Joined a b x →
      SpreadOf xs (variable_at w p) w.count x
  spread_two {x = x} e c l u =
      subst (λ (k : ℕ). SpreadOf xs (variable_at w p) k x) c
      (spread_joined in_head (spread_as (λ i z. rw (le-ltb (head + i) w.head (omega arith)) (omega arith)) l) u)

module _ (xs : List ℤ) (w : Looks) (p : ℕ) {s a b : ℤ} (h : Spreads xs (variable_at w p) w.count s a b) where
  -- as it is passed on
  fits : w.count ≤ 64 → SFits w32 s
  fits g = sfits_abs s (omega (arith, h.small))

  kept-sum : w.count ≤ 64 → to_z w64 (of_z w64 (to_z w32 (of_z w32 s))) ≡ s
  kept-sum g = cast_back w64 tt (fits g)

  pub wide_fits : w.count ≤ 64 → SFits w64 (to_z w32 (of_z w32 s))
  wide_fits g = cast_fits tt (fits g)

  pub window-small : w.count ≤ 64 → nat_abs (to_z w64 (of_z w64 (to_z w32 (of_z w32 s)))) ≤ Bounds.window_sum
  window-small g = subst⁻¹ (λ (z : ℤ). nat_abs z ≤ Bounds.window_sum) (kept-sum g) (omega (arith, h.small))

  pub passed-sum : w.count ≤ 64 → to_z w64 (of_z w64 (to_z w32 (of_z w32 s))) ≡ sum_of xs (map plus (variables w p))
  passed-sum g = kept-sum g ∙ h.is ∙ sum-all xs w p

-- ---- the row of the extreme figure

-- x + (−y) ≥ 0 is short by y − x
short-pair : (x y : ℤ) → short_of (pos 0) (pair_of (pos 1) x (negsuc 0) y) ≡ y -ℤ x
short-pair x y =
    ap (λ (s : ℤ). pos 0 -ℤ s) (ap₂ ◌+ℤ◌ (plus_times x) (+ℤ_idr (negsuc 0 *ℤ y) ∙ minus-times y))
    ∙ +ℤ_idl (neg_ℤ (x +ℤ neg_ℤ y)) ∙ neg_ℤ-+ℤ x (neg_ℤ y) ∙ ap (λ (z : ℤ). neg_ℤ x +ℤ z) (neg_ℤ-neg_ℤ y) ∙ +ℤ_comm (neg_ℤ x) y

above-sum : (a x y : ℤ) → lt_z a (y -ℤ x) ≡ lt_z (a +ℤ x) y
above-sum a x y =
    below_difference a (y -ℤ x)
    ∙ ap (lt_z (pos 0)) (swap-last y (neg_ℤ x) (neg_ℤ a) ∙ +ℤ_assoc y (neg_ℤ a) (neg_ℤ x) ∙ ap (λ (z : ℤ). y +ℤ z) (sym (neg_ℤ-+ℤ a x)))
    ∙ sym (below_difference (a +ℤ x) y)

below_less : (a x y : ℤ) → lt_z a (x -ℤ y) ≡ lt_z y (x -ℤ a)
below_less a x y = below_difference a (x -ℤ y) ∙ ap (lt_z (pos 0)) (swap-last x (neg_ℤ y) (neg_ℤ a)) ∙ sym (below_difference y (x -ℤ a))

-- what is not below a number is not below one under it
not-above : (c : ℤ) {y m : ℤ} → y ≤ℤ m → lt_z c m ≡ false → lt_z c y ≡ false
not-above c {y} {m} h t = go (lt_z c y) refl
  where
    go : (b : Bool) → lt_z c y ≡ b → b ≡ false
    go false u = refl
    go true u = clash_ℤ {a = c} {b = m} (<ℤ-≤ℤ_trans (record { lt = rw u tt }) h) (lt_z_no (rw t tt))

not-below : (c : ℤ) {y m : ℤ} → m ≤ℤ y → lt_z m c ≡ false → lt_z y c ≡ false
not-below c {y} {m} h t = go (lt_z y c) refl
  where
    go : (b : Bool) → lt_z y c ≡ b → b ≡ false
    go false u = refl
    go true u = clash_ℤ {a = y} {b = c} (record { lt = rw u tt }) (≤ℤ-trans (lt_z_no (rw t tt)) h)

pub under-most : (e : ℕ) (x : ℤ) {y m : ℤ} → y ≤ℤ m → is_short e (short_of (pos 0) (pair_of (pos 1) x (negsuc 0) m)) ≡ false →
    is_short e (short_of (pos 0) (pair_of (pos 1) x (negsuc 0) y)) ≡ false
under-most e x {y} {m} h t =
    ap (lt_z (pos e)) (short-pair x y) ∙ above-sum (pos e) x y
    ∙ not-above (pos e +ℤ x) h (sym (ap (lt_z (pos e)) (short-pair x m) ∙ above-sum (pos e) x m) ∙ t)

pub over-least : (e : ℕ) (x : ℤ) {y m : ℤ} → m ≤ℤ y → is_short e (short_of (pos 0) (pair_of (pos 1) m (negsuc 0) x)) ≡ false →
    is_short e (short_of (pos 0) (pair_of (pos 1) y (negsuc 0) x)) ≡ false
over-least e x {y} {m} h t =
    ap (lt_z (pos e)) (short-pair y x) ∙ below_less (pos e) x y
    ∙ not-below (x -ℤ pos e) h (sym (ap (lt_z (pos e)) (short-pair m x) ∙ below_less (pos e) x m) ∙ t)

-- where the extreme one's row holds, all do
pub extreme-tells : (e : ℕ) (xs : List ℤ) (kind : WindowKind) (P : ℕ) (w : Looks) (p : ℕ) {x : ℤ} {s : Spread} → x ≡ value_at xs P →
    SpreadOf xs (variable_at w p) w.count s → is_short e (short_of (pos 0) (slot_sum kind x (extreme_of kind s).value)) ≡ false →
    (i : ℕ) → i < w.count → is_short e (shortfall xs (slot_row kind P w p i)) ≡ false
extreme-tells e xs Within P w p {x} f h t i g = ap (is_short e) (sym (slot_short-is xs Within P w p i f refl)) ∙ under-most e x (h.above i g) t
extreme-tells e xs Throughout P w p {x} f h t i g = ap (is_short e) (sym (slot_short-is xs Throughout P w p i f refl)) ∙ over-least e x (h.below i g) t
