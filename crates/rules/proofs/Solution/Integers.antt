-- From the integers to the naturals: an integer as a difference of two naturals, and a row as an order between two sums of naturals.
use Rattle.std.specs.Prelude.{◌≡◌, refl, ◌↔◌, Bool, true, false, cond, List, [], ◌∷◌, ℕ, zero, suc, ◌+◌, ◌-◌, ◌*◌, ◌≤◌, ltb, ℤ, pos, negsuc, neg_ℤ, nat_abs, ◌+ℤ◌, ◌*ℤ◌, ◌≤ℤ◌}
use Rattle.std.proofs.Common.{sym, ap, arith, ltb→lt, nltb→le, leb→le, le→leb}
use Rattle.std.proofs.Math.IntN.{sub_ℕ, pos-ne-negsuc}
use Rattle.lists.specs.Every.{Every}
use Rattle.rules.specs.Rows.{Relation, Term, Row, sum_of, value_at, MeetsBy, Meets}
use Rattle.rules.specs.Rows.Relation.{at_least, equal}

-- z is a − b
abbrev pub Diff : ℤ → ℕ → ℕ → Type 0
Diff (pos m) a b = m + b ≡ a
Diff (negsuc m) a b = a + suc m ≡ b

diff_sub : (m n : ℕ) → Diff (sub_ℕ m n) m n
diff_sub m n = go (ltb m n) refl
  where
    go : (c : Bool) → ltb m n ≡ c → Diff (cond c (negsuc (n - suc m)) (pos (m - n))) m n
    go true e = omega (arith, ltb→lt m n (rw e tt))
    go false e = omega (arith, nltb→le m n (rw e tt))

pub diff_neg : (m : ℕ) → Diff (neg_ℤ (pos m)) 0 m
diff_neg zero = omega arith
diff_neg (suc m) = omega arith

pub diff_move : (z : ℤ) (a b c d : ℕ) → a + d ≡ c + b → Diff z a b → Diff z c d
diff_move (pos m) a b c d e h = omega arith
diff_move (negsuc m) a b c d e h = omega arith

pub diff_add : (z w : ℤ) (a b c d : ℕ) → Diff z a b → Diff w c d → Diff (z +ℤ w) (a + c) (b + d)
diff_add (pos m) (pos n) a b c d h k = omega arith
diff_add (pos m) (negsuc n) a b c d h k = diff_move (sub_ℕ m (suc n)) m (suc n) (a + c) (b + d) (omega arith) (diff_sub m (suc n))
diff_add (negsuc m) (pos n) a b c d h k = diff_move (sub_ℕ n (suc m)) n (suc m) (a + c) (b + d) (omega arith) (diff_sub n (suc m))
diff_add (negsuc m) (negsuc n) a b c d h k = omega arith

-- the parts of a coefficient or a right side above and below 0
abbrev pub up : ℤ → ℕ
up (pos k) = k
up (negsuc k) = 0

abbrev pub down : ℤ → ℕ
down (pos k) = 0
down (negsuc k) = suc k

pub diff_mul : (c : ℤ) (n : ℕ) → Diff (c *ℤ pos n) (up c * n) (down c * n)
diff_mul (pos k) n = omega arith
diff_mul (negsuc k) n = diff_move (neg_ℤ (pos (suc k * n))) 0 (suc k * n) (0 * n) (suc k * n) (omega arith) (diff_neg (suc k * n))

pub diff_le : (z w : ℤ) (a b c d : ℕ) → Diff z a b → Diff w c d → (z ≤ℤ w) ↔ (a + d ≤ c + b)
diff_le (pos m) (pos n) a b c d h k = (λ x. omega (arith, leb→le m n x.le), λ x. record { le = le→leb m n (omega arith) })
diff_le (pos m) (negsuc n) a b c d h k = (λ x. absurd x.le, λ x. absurd (omega arith))
diff_le (negsuc m) (pos n) a b c d h k = (λ x. omega arith, λ x. record { le = tt })
diff_le (negsuc m) (negsuc n) a b c d h k = (λ x. omega (arith, leb→le n m x.le), λ x. record { le = le→leb n m (omega arith) })

pub diff_eq : (z w : ℤ) (a b c d : ℕ) → Diff z a b → Diff w c d → (z ≡ w) ↔ (a + d ≡ c + b)
diff_eq (pos m) (pos n) a b c d h k = (λ x. omega (arith, ap nat_abs x), λ x. ap pos (omega arith))
diff_eq (pos m) (negsuc n) a b c d h k = (λ x. absurd (pos-ne-negsuc m n x), λ x. absurd (omega arith))
diff_eq (negsuc m) (pos n) a b c d h k = (λ x. absurd (pos-ne-negsuc n m (sym x)), λ x. absurd (omega arith))
diff_eq (negsuc m) (negsuc n) a b c d h k = (λ x. omega (arith, ap nat_abs x), λ x. ap negsuc (omega arith))

-- ---- a row over naturals: y has the numerator of each variable

abbrev pub plus_of : (ℕ → ℕ) → List Term → ℕ
plus_of y [] = 0
plus_of y (t ∷ ts) = up t.coefficient * y t.variable + plus_of y ts

abbrev pub minus_of : (ℕ → ℕ) → List Term → ℕ
minus_of y [] = 0
minus_of y (t ∷ ts) = down t.coefficient * y t.variable + minus_of y ts

abbrev pub MetBy : Relation → ℕ → ℕ → Type 0
MetBy at_least a b = a ≤ b
MetBy equal a b = b ≡ a

abbrev pub Met : ℕ → (ℕ → ℕ) → Row → Type 0
Met D y r = MetBy r.relation (up r.right * D + minus_of y r.terms) (plus_of y r.terms + down r.right * D)

module _ (D : ℕ) (xs : List ℤ) (y : ℕ → ℕ) (e : (v : ℕ) → value_at xs v ≡ pos (y v)) where
  diff_term : (c : ℤ) (v : ℕ) → Diff (c *ℤ value_at xs v) (up c * y v) (down c * y v)
  diff_term c v = rw (e v) (diff_mul c (y v))

  diff_sum : (ts : List Term) → Diff (sum_of xs ts) (plus_of y ts) (minus_of y ts)
  diff_sum [] = omega arith
  diff_sum (t ∷ ts) =
      diff_add (t.coefficient *ℤ value_at xs t.variable) (sum_of xs ts) (up t.coefficient * y t.variable) (down t.coefficient * y t.variable)
      (plus_of y ts) (minus_of y ts) (diff_term t.coefficient t.variable) (diff_sum ts)

  pub meets-met : (r : Row) → Meets D xs r ↔ Met D y r
  meets-met r = go r.relation
    where
      go : (o : Relation) →
          MeetsBy o (r.right *ℤ pos D) (sum_of xs r.terms) ↔ MetBy o (up r.right * D + minus_of y r.terms) (plus_of y r.terms + down r.right * D)
      go at_least =
          diff_le (r.right *ℤ pos D) (sum_of xs r.terms) (up r.right * D) (down r.right * D) (plus_of y r.terms) (minus_of y r.terms)
          (diff_mul r.right D) (diff_sum r.terms)
      go equal =
          diff_eq (sum_of xs r.terms) (r.right *ℤ pos D) (plus_of y r.terms) (minus_of y r.terms) (up r.right * D) (down r.right * D)
          (diff_sum r.terms) (diff_mul r.right D)

  pub every-met : (rs : List Row) → Every (Meets D xs) rs ↔ Every (Met D y) rs
  every-met [] = (λ u. u, λ u. u)
  every-met (r ∷ rs) = (λ u. ((meets-met r).0 u.0, (every-met rs).0 u.1), λ u. ((meets-met r).1 u.0, (every-met rs).1 u.1))
