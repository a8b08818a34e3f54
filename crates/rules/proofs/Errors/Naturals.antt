-- From figures to naturals: a figure as what it is above and below 0, and a row that holds within a tolerance as an order between two sums of naturals.
use Rattle.std.specs.Prelude.{◌↔◌, Bool, List, [], ◌∷◌, ℕ, zero, suc, ◌+◌, ◌*◌, ◌≤◌, ℤ, pos, negsuc, neg_ℤ, nat_abs, ◌-ℤ◌, ◌*ℤ◌, ◌≤ℤ◌, ◌<ℤ◌}
use Rattle.std.proofs.Common.{inl, inr, arith}
use Rattle.std.proofs.Math.Dec.{not_T}
use Rattle.std.specs.Int.Signed.{lt_z, lt_z_no}
use Rattle.rules.specs.Quantities.{one}
use Rattle.rules.specs.Rows.{Relation, Term, Row, sum_of, value_at}
use Rattle.rules.specs.Rows.Relation.{at_least, equal}
use Rattle.rules.specs.Judge.{BrokenBy, Broken, Outside}
use Rattle.rules.proofs.Exactness.Tests.{at_least as bounded}
use Rattle.rules.proofs.Solution.Integers.{Diff, diff_add, diff_move, diff_neg, up, down, diff_mul, diff_le}
use Rattle.rules.proofs.Solution.Families.{scale}

-- ---- differences

diff_negated : (z : ℤ) (a b : ℕ) → Diff z a b → Diff (neg_ℤ z) b a
diff_negated (pos zero) a b h = omega arith
diff_negated (pos (suc m)) a b h = omega arith
diff_negated (negsuc m) a b h = omega arith

diff_less : (z w : ℤ) (a b c d : ℕ) → Diff z a b → Diff w c d → Diff (z -ℤ w) (a + d) (b + c)
diff_less z w a b c d h k = diff_add z (neg_ℤ w) a b d c h (diff_negated w c d k)

diff_parts : (z : ℤ) → Diff z (up z) (down z)
diff_parts (pos m) = omega arith
diff_parts (negsuc m) = omega arith

diff_product : (c z : ℤ) → Diff (c *ℤ z) (up c * up z + down c * down z) (up c * down z + down c * up z)
diff_product (pos k) (pos m) = omega arith
diff_product (pos k) (negsuc m) = diff_move (neg_ℤ (pos (k * suc m))) 0 (k * suc m) _ _ (omega arith) (diff_neg (k * suc m))
diff_product (negsuc k) (pos m) = diff_move (neg_ℤ (pos (suc k * m))) 0 (suc k * m) _ _ (omega arith) (diff_neg (suc k * m))
diff_product (negsuc k) (negsuc m) = omega arith

diff_size : (z : ℤ) (a b e : ℕ) → Diff z a b → (nat_abs z ≤ e) ↔ ((a ≤ b + e) × (b ≤ a + e))
diff_size (pos m) a b e h = (λ x. (omega arith, omega arith), λ x. omega arith)
diff_size (negsuc m) a b e h = (λ x. (omega arith, omega arith), λ x. omega arith)

-- two numbers are at most e apart
diff_near : (z w : ℤ) (a b c d e : ℕ) → Diff z a b → Diff w c d → (nat_abs (z -ℤ w) ≤ e) ↔ ((a + d ≤ b + c + e) × (b + c ≤ a + d + e))
diff_near z w a b c d e h k = diff_size (z -ℤ w) (a + d) (b + c) e (diff_less z w a b c d h k)

-- ---- a row over naturals: u has what each figure is above 0, and d what it is below

module _ (u d : ℕ → ℕ) where
  abbrev pub above : List Term → ℕ
  above [] = 0
  above (t ∷ ts) = up t.coefficient * u t.variable + down t.coefficient * d t.variable + above ts

  abbrev pub beneath : List Term → ℕ
  beneath [] = 0
  beneath (t ∷ ts) = up t.coefficient * d t.variable + down t.coefficient * u t.variable + beneath ts

abbrev pub HeldBy : Relation → (e a b : ℕ) → Type 0
HeldBy at_least e a b = a ≤ b + e
HeldBy equal e a b = (a ≤ b + e) × (b ≤ a + e)

-- the row holds within e, its right side times D
abbrev pub Held : (D e : ℕ) (u d : ℕ → ℕ) → Row → Type 0
Held D e u d r = HeldBy r.relation e (up r.right * D + beneath u d r.terms) (above u d r.terms + down r.right * D)

-- a variable's figure is within k of D times a truth
abbrev pub Near : (D : ℕ) (u d : ℕ → ℕ) (k v : ℕ) → Bool → Type 0
Near D u d k v b = (u v ≤ scale D b + d v + k) × (scale D b + d v ≤ u v + k)

-- ---- of a list of figures

pub not-below : (a b : ℤ) → (a <ℤ b → ⊥) → b ≤ℤ a
not-below a b f = lt_z_no (not_T (lt_z a b) (λ t. f (record { lt = t })))

module _ (xs : List ℤ) where
  abbrev pub up_at : ℕ → ℕ
  up_at v = up (value_at xs v)

  abbrev pub down_at : ℕ → ℕ
  down_at v = down (value_at xs v)

  diff_sum : (ts : List Term) → Diff (sum_of xs ts) (above up_at down_at ts) (beneath up_at down_at ts)
  diff_sum [] = omega arith
  diff_sum (t ∷ ts) =
      diff_add (t.coefficient *ℤ value_at xs t.variable) (sum_of xs ts) _ _ _ _ (diff_product t.coefficient (value_at xs t.variable)) (diff_sum ts)

  -- a row that is not broken
  pub unbroken-held : (e : ℕ) (r : Row) → (Broken e xs r → ⊥) → Held one e up_at down_at r
  unbroken-held e r = go r.relation
    where
      s : Diff (sum_of xs r.terms) (above up_at down_at r.terms) (beneath up_at down_at r.terms)
      s = diff_sum r.terms

      b : Diff (r.right *ℤ pos one) (up r.right * one) (down r.right * one)
      b = diff_mul r.right one

      go : (o : Relation) → (BrokenBy o e (r.right *ℤ pos one) (sum_of xs r.terms) → ⊥) →
          HeldBy o e (up r.right * one + beneath up_at down_at r.terms) (above up_at down_at r.terms + down r.right * one)
      go at_least f =
          let low = (diff_le _ _ _ _ _ _ (diff_less (r.right *ℤ pos one) (pos e) _ _ e 0 b (omega arith)) s).0 (not-below _ _ f) in
          omega arith
      go equal f =
          let size = (diff_near (sum_of xs r.terms) (r.right *ℤ pos one) (above up_at down_at r.terms) (beneath up_at down_at r.terms)
          (up r.right * one) (down r.right * one) e s b).0 (bounded e _ f) in
          (omega arith, omega arith)

  -- a figure that is not outside
  pub inside : (e v : ℕ) → (Outside e (value_at xs v) → ⊥) → (up_at v ≤ one + down_at v + e) × (down_at v ≤ up_at v + e)
  inside e v f =
      let x = value_at xs v in
      let low = (diff_le (neg_ℤ (pos e)) x 0 e (up x) (down x) (diff_neg e) (diff_parts x)).0 (not-below x (neg_ℤ (pos e)) (λ h. f (inl h))) in
      let high = (diff_le x (pos (one + e)) (up x) (down x) (one + e) 0 (diff_parts x) (omega arith)).0 (not-below (pos (one + e)) x (λ h. f (inr h))) in
      (omega arith, omega arith)

  -- the distance from a truth
  pub near_iff : (k v : ℕ) (b : Bool) → (nat_abs (value_at xs v -ℤ pos (scale one b)) ≤ k) ↔ Near one up_at down_at k v b
  near_iff k v b =
      let m = diff_near (value_at xs v) (pos (scale one b)) (up_at v) (down_at v) (scale one b) 0 k (diff_parts (value_at xs v)) (omega arith) in
      (λ h. let r = m.0 h in (omega arith, omega arith), λ h. m.1 (omega arith, omega arith))
