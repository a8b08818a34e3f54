-- The bytes of the lines of a window's rows: its variables go up, one for each slot of the window.
use Rattle.std.specs.Prelude.{◌≡◌, refl, Bool, true, false, cond, List, [], ◌∷◌, ◌++◌, map, ℕ, zero, suc, ◌+◌, ◌-◌, ◌*◌, ◌≤◌, ◌<◌, leb, pos, negsuc, neg_ℤ, length}
use Rattle.std.proofs.Common.{ap, subst, ◌∙◌, arith, le-leb}
use Rattle.std.proofs.Math.Decide.{dec_lt}
use Rattle.std.proofs.lemmas.Bool.{lt-leb}
use Rattle.lists.specs.Passing.{passing}
use Rattle.rules.specs.Rule.Window.{within, throughout}
use Rattle.rules.specs.Rows.{Row, plus, minus, ge, in_window, window_slots}
use Rattle.text.specs.Decimal.{decimal}
use Rattle.text.proofs.DecimalLaws.{length-low, length-pair}
use Rattle.row.specs.Kinds.{over_rows, window_at}
use Rattle.mps_length.specs.Terms.{size, size-zero, size-one, size-less-one, total, Others, total-none, total-more, single, pair}
use Rattle.mps_length.specs.RowSizes.{weight, weight-append}

-- numbers from low on and below high, each above the one before
abbrev pub Rising : (low high : ℕ) → List ℕ → Type 0
Rising low high [] = Unit {0}
Rising low high (v ∷ vs) = (low ≤ v) × (v < high) × Rising (v + 1) high vs

rising_low : (low low' high : ℕ) (vs : List ℕ) → low' ≤ low → Rising low high vs → Rising low' high vs
rising_low low low' high [] h r = tt
rising_low low low' high (v ∷ vs) h r = (omega (arith, r.0), r.1, r.2)

rising_passing : (f : ℕ → Bool) (k t : ℕ) → Rising t (t + k) (passing f k t)
rising_passing f zero t = tt
rising_passing f (suc k) t =
    let e : t + 1 + k ≡ t + suc k = omega arith in
    go (f t) (subst (λ (h : ℕ). Rising (t + 1) h (passing f k (t + 1))) e (rising_passing f k (t + 1)))
  where
    go : (b : Bool) → Rising (t + 1) (t + suc k) (passing f k (t + 1)) → Rising t (t + suc k) (cond b (t ∷ passing f k (t + 1)) (passing f k (t + 1)))
    go true r = (omega arith, omega arith, r)
    go false r = rising_low (t + 1) t (t + suc k) (passing f k (t + 1)) (omega arith) r

rising_map : (p low high : ℕ) (vs : List ℕ) → 1 ≤ low → Rising low high vs → Rising (p + (low - 1)) (p + (high - 1)) (map (λ i. p + (i - 1)) vs)
rising_map p low high [] h r = tt
rising_map p low high (v ∷ vs) h r =
    let e : p + (v + 1 - 1) ≡ p + (v - 1) + 1 = omega (arith, r.0) in (
      omega (arith, r.0),
      omega (arith, r.0, r.1),
      subst (λ (l : ℕ). Rising l (p + (high - 1)) (map (λ i. p + (i - 1)) vs)) e (rising_map p (v + 1) high vs (omega arith) r.2),
    )

-- the variables of a window stand between those of their part at the first and at the last slot
pub rising_window : (T L p a b s : ℕ) → Rising p (p + T) (window_at T L p a b s)
rising_window T L p a b s =
    let r = rising_map p 1 (1 + T) (window_slots T L (s + 1) a b) (omega arith) (rising_passing (in_window T L (s + 1) a b) T 1) in
    let e : p + (1 - 1) ≡ p = omega arith in
    let f : p + (1 + T - 1) ≡ p + T = omega arith in
    subst (λ (h : ℕ). Rising p h (window_at T L p a b s)) f (subst (λ (l : ℕ). Rising l (p + (1 + T - 1)) (window_at T L p a b s)) e r)

pub rising_below : (low high high' : ℕ) (vs : List ℕ) → high ≤ high' → Rising low high vs → Rising low high' vs
rising_below low high high' [] h r = tt
rising_below low high high' (v ∷ vs) h r = (r.0, omega (arith, r.1), rising_below (v + 1) high high' vs h r.2)

-- the right side of the last row of a window of k slots, for all slots
abbrev pub back_size : (k : ℕ) → ℕ
back_size k = size (neg_ℤ (pos (k - 1)))

back_none : (k : ℕ) → k ≤ 1 → back_size k ≡ 0
back_none k h = let e : k - 1 ≡ 0 = omega arith in ap (λ (j : ℕ). size (neg_ℤ (pos j))) e ∙ size-zero

back_some : (k : ℕ) → 1 < k → back_size k ≡ 26 + length (decimal (suc (k - 2)))
unfolding size
back_some k h = let e : k - 1 ≡ suc (k - 2) = omega arith in ap (λ (j : ℕ). size (neg_ℤ (pos j))) e ∙ omega arith

-- the number has one digit or two
pub back_is : (k : ℕ) → k ≤ 64 → (cond (leb k 1) 0 (cond (leb k 10) 27 28) ≡ back_size k) × (back_size k ≤ 28)
back_is k h = go (dec_lt 1 k) (dec_lt 10 k)
  where
    go : Dec (1 < k) → Dec (10 < k) → (cond (leb k 1) 0 (cond (leb k 10) 27 28) ≡ back_size k) × (back_size k ≤ 28)
    go (no a) b = let e = back_none k (omega arith) in rw (le-leb k 1 (omega arith), e) (refl, omega arith)
    go (yes a) (no b) =
        let e : back_size k ≡ 27 = back_some k a ∙ ap (λ (j : ℕ). 26 + j) (length-low (suc (k - 2)) (omega arith)) in
        rw (lt-leb k 1 a, le-leb k 10 (omega arith), e) (refl, omega arith)
    go (yes a) (yes b) =
        let e : back_size k ≡ 28 = back_some k a ∙ ap (λ (j : ℕ). 26 + j) (length-pair (suc (k - 2)) (omega arith) (omega arith)) in
        rw (lt-leb k 1 a, lt-leb k 10 b, e) (refl, omega arith)

-- ---- P is the node's variable

module _ (n P : ℕ) (hP : P < n) where
  falls : (low : ℕ) (vs : List ℕ) → Rising low P vs → weight n (map (λ v. ge (plus P ∷ minus v ∷ []) (pos 0)) vs) ≡ 53 * length vs
  falls low [] r = omega arith
  falls low (v ∷ vs) r =
      let l = r.1 in
      omega (arith, pair n P hP v (omega arith) (λ e. omega arith) (pos 1) (negsuc 0), size-zero, size-one, size-less-one, falls (v + 1) vs r.2)

  rises : (low : ℕ) (vs : List ℕ) → Rising low P vs → weight n (map (λ v. ge (plus v ∷ minus P ∷ []) (pos 0)) vs) ≡ 53 * length vs
  rises low [] r = omega arith
  rises low (v ∷ vs) r =
      let l = r.1 in
      omega (arith, pair n v (omega arith) P hP (λ e. omega arith) (pos 1) (negsuc 0), size-zero, size-one, size-less-one, rises (v + 1) vs r.2)

  pluses-others : (a low : ℕ) (vs : List ℕ) → a < low → a < P → Rising low P vs → Others a (map plus vs ++ (minus P ∷ []))
  pluses-others a low [] h g r = (λ e. omega arith, tt)
  pluses-others a low (v ∷ vs) h g r = let l = r.0 in (λ e. omega arith, pluses-others a (v + 1) vs (omega arith) g r.2)

  pluses : (low : ℕ) (vs : List ℕ) → Rising low P vs → total n (map plus vs ++ (minus P ∷ [])) ≡ 26 * length vs + 27
  pluses low [] r = omega (arith, single n P hP (negsuc 0), size-less-one)
  pluses low (v ∷ vs) r =
      let l = r.1 in
      let m = total-more n (pos 1) v (map plus vs ++ (minus P ∷ [])) (omega arith) (pluses-others v (v + 1) vs (omega arith) l r.2) in
      omega (arith, m, size-one, pluses (v + 1) vs r.2)

  minuses-others : (a low : ℕ) (vs : List ℕ) → a < low → Rising low P vs → Others a (map minus vs)
  minuses-others a low [] h r = tt
  minuses-others a low (v ∷ vs) h r = let l = r.0 in (λ e. omega arith, minuses-others a (v + 1) vs (omega arith) r.2)

  own-others : (low : ℕ) (vs : List ℕ) → Rising low P vs → Others P (map minus vs)
  own-others low [] r = tt
  own-others low (v ∷ vs) r = let l = r.1 in (λ e. omega arith, own-others (v + 1) vs r.2)

  minuses : (low : ℕ) (vs : List ℕ) → Rising low P vs → total n (map minus vs) ≡ 27 * length vs
  minuses low [] r = total-none n ∙ omega arith
  minuses low (v ∷ vs) r =
      let l = r.1 in
      let m = total-more n (negsuc 0) v (map minus vs) (omega arith) (minuses-others v (v + 1) vs (omega arith) r.2) in
      omega (arith, m, size-less-one, minuses (v + 1) vs r.2)

  pub within-weight : (low : ℕ) (vs : List ℕ) → Rising low P vs → weight n (over_rows within P vs) ≡ 79 * length vs + 27
  within-weight low vs r =
      let pairs : ℕ → Row = λ v. ge (plus P ∷ minus v ∷ []) (pos 0) in
      let long : Row = ge (map plus vs ++ (minus P ∷ [])) (pos 0) in
      omega (arith, weight-append n (map pairs vs) (long ∷ []), falls low vs r, pluses low vs r, size-zero)

  pub throughout-weight : (low : ℕ) (vs : List ℕ) → Rising low P vs → weight n (over_rows throughout P vs) ≡ 80 * length vs + 26 + back_size (length vs)
  throughout-weight low vs r =
      let pairs : ℕ → Row = λ v. ge (plus v ∷ minus P ∷ []) (pos 0) in
      let long : Row = ge (plus P ∷ map minus vs) (neg_ℤ (pos (length vs - 1))) in
      let m = total-more n (pos 1) P (map minus vs) hP (own-others low vs r) in
      omega (arith, weight-append n (map pairs vs) (long ∷ []), rises low vs r, m, size-one, minuses low vs r)
