-- How many bytes the lines of rows have in COLUMNS and in RHS together, by the rows' family.
use Rattle.std.specs.Prelude.{◌≡◌, refl, List, [], ◌∷◌, ◌++◌, ℕ, zero, suc, ◌+◌, ◌<◌, pos, negsuc}
use Rattle.std.proofs.Common.{ap, ◌∙◌, arith}
use Rattle.lists.specs.Flat.{flat}
use Rattle.rules.specs.Rows.{Row, plus, minus, same_rows, not_rows, and_rows, or_rows, implies_rows, until_rows}
use Rattle.lists.specs.Sums.{sum_to}
use Rattle.mps_length.specs.Terms.{size, size-zero, size-one, size-two, size-less-one, size-less-two, total, pair, first-double, last-double, triple}

-- of one row, with n variables, and of rows
abbrev pub row_weight : (n : ℕ) → Row → ℕ
row_weight n r = total n r.terms + size r.right

abbrev pub weight : (n : ℕ) → List Row → ℕ
weight n [] = 0
weight n (r ∷ rs) = row_weight n r + weight n rs

pub weight-append : (n : ℕ) (a b : List Row) → weight n (a ++ b) ≡ weight n a + weight n b
weight-append n [] b = omega arith
weight-append n (r ∷ a) b = omega (arith, weight-append n a b)

pub weight-flat : (n : ℕ) (f : ℕ → List Row) (k : ℕ) → weight n (flat f k) ≡ sum_to (λ i. weight n (f i)) k
unfolding flat
weight-flat n f zero = refl
weight-flat n f (suc k) = weight-append n (flat f k) (f k) ∙ ap (λ (x : ℕ). x + weight n (f k)) (weight-flat n f k)

-- ---- P, p and q are different variables below n, or p and q are one

module _ (n P p : ℕ) (hP : P < n) (hp : p < n) (np : p ≡ P → ⊥) where
  back : P ≡ p → ⊥
  back e = omega arith

  -- a − b
  fall : total n (plus P ∷ minus p ∷ []) ≡ 53
  fall = omega (arith, pair n P hP p hp np (pos 1) (negsuc 0), size-one, size-less-one)

  rise : total n (plus p ∷ minus P ∷ []) ≡ 53
  rise = omega (arith, pair n p hp P hP back (pos 1) (negsuc 0), size-one, size-less-one)

  -- a + b
  both : total n (plus P ∷ plus p ∷ []) ≡ 52
  both = omega (arith, pair n P hP p hp np (pos 1) (pos 1), size-one)

  pub same-weight : weight n (same_rows P p) ≡ 53
  same-weight = omega (arith, fall, size-zero)

  pub not-weight : weight n (not_rows P p) ≡ 78
  not-weight = omega (arith, both, size-one)

  -- p and q are one
  pub and-twice : weight n (and_rows P p p) ≡ 186
  and-twice = omega (arith, rise, last-double n P hP p hp np (pos 1) (negsuc 0) (negsuc 0), size-zero, size-one, size-less-one, size-less-two)

  pub or-twice : weight n (or_rows P p p) ≡ 159
  or-twice = omega (arith, fall, first-double n p hp P hP back (pos 1) (pos 1) (negsuc 0), size-zero, size-less-one, size-two)

  pub implies_twice : weight n (implies_rows P p p) ≡ 185
  implies_twice = omega (arith, both, fall, first-double n p hp P hP back (pos 1) (negsuc 0) (negsuc 0), size-zero, size-one, size-less-one)

  module _ (q : ℕ) (hq : q < n) (nq : q ≡ P → ⊥) (other : q ≡ p → ⊥) where
    back-q : P ≡ q → ⊥
    back-q e = omega arith

    fall-q : total n (plus P ∷ minus q ∷ []) ≡ 53
    fall-q = omega (arith, pair n P hP q hq nq (pos 1) (negsuc 0), size-one, size-less-one)

    rise-q : total n (plus q ∷ minus P ∷ []) ≡ 53
    rise-q = omega (arith, pair n q hq P hP back-q (pos 1) (negsuc 0), size-one, size-less-one)

    -- P − p − q, p + q − P and q − p − P
    forced : total n (plus P ∷ minus p ∷ minus q ∷ []) ≡ 80
    forced = omega (arith, triple n P hP p hp np q hq nq other (pos 1) (negsuc 0) (negsuc 0), size-one, size-less-one)

    covered : total n (plus p ∷ plus q ∷ minus P ∷ []) ≡ 79
    covered = omega (arith, triple n p hp q hq other P hP back back-q (pos 1) (pos 1) (negsuc 0), size-one, size-less-one)

    passed : total n (plus q ∷ minus p ∷ minus P ∷ []) ≡ 80
    passed = omega (arith, triple n q hq p hp (λ e. other (omega arith)) P hP back-q back (pos 1) (negsuc 0) (negsuc 0), size-one, size-less-one)

    pub and-weight : weight n (and_rows P p q) ≡ 213
    and-weight = omega (arith, rise, rise-q, forced, size-zero, size-less-one)

    pub or_weight : weight n (or_rows P p q) ≡ 185
    or_weight = omega (arith, fall, fall-q, covered, size-zero)

    pub implies_weight : weight n (implies_rows P p q) ≡ 238
    implies_weight = omega (arith, both, fall-q, passed, size-zero, size-one, size-less-one)

-- until has P' besides, the variable of what follows the slot
module _ (n P p next : ℕ) (hP : P < n) (hp : p < n) (hn : next < n) (np : p ≡ P → ⊥) (nn : next ≡ P → ⊥) (pn : next ≡ p → ⊥) where
  pub until-twice : weight n (until_rows P p p next) ≡ 292
  until-twice =
      let double = first-double n p hp P hP (λ e. np (omega arith)) (pos 1) (pos 1) (negsuc 0) in
      let on = covered n P p hP hp np next hn nn pn in
      omega (arith, fall n P p hP hp np, double, on, forced n P p hP hp np next hn nn pn, size-zero, size-two, size-less-one)

  pub until-weight : (q : ℕ) → q < n → (q ≡ P → ⊥) → (q ≡ p → ⊥) → (next ≡ q → ⊥) → weight n (until_rows P p q next) ≡ 318
  until-weight q hq nq other qn =
      let one = covered n P p hP hp np q hq nq other in
      let on = covered n P q hP hq nq next hn nn qn in
      omega (arith, fall n P q hP hq nq, one, on, forced n P p hP hp np next hn nn pn, size-zero, size-less-one)
