-- Truth words of windows. Slots count from 0, L from 1; T is the horizon, and after the last slot comes slot L again.
use Rattle.std.specs.Prelude.{◌≡◌, refl, Bool, true, false, not, ◌&&◌, ◌||◌, ℕ, zero, suc, ◌+◌, ◌-◌, ◌/◌, ◌^◌, ◌≤◌, ◌<◌, min, T as Is}
use Rattle.std.proofs.Common.{sym, ap, ap₂, ◌∙◌, subst, ⊎_elim, le_refl, arith}
use Rattle.std.proofs.Math.Bool.{or-false}
use Rattle.std.proofs.Math.Decide.{dec_lt}
use Rattle.std.specs.Int.Bits.{bit_or}
use Rattle.std.specs.Int.Count.{count_trailing_zeros}
use Rattle.std.proofs.Math.Pow.{ones_lt}
use Rattle.lists.specs.Tests.{same_tests, or_cases, or_left, or_right}
use Rattle.rules.specs.Quantities.{LoopAllowed}
use Rattle.rules.specs.Truth.{slot_of}
use Rattle.rules.proofs.Slots.{slot_le, slot_pos, slot_is, slot-ahead, slot-past, slot-low, slot-high, slot_no_loop}
use Rattle.evaluator_words.specs.Bits.{on, on-above, on_below, on_or, on_ones, on_shr}
use Rattle.evaluator_words.specs.Ahead.{some, some_at, at_some, some-later}
use Rattle.evaluator_words.specs.Words.{Word, slot_from, later_at, within_at, word_same}
use Rattle.evaluator_words.specs.Trailing.{trailing_below, trailing_at}

no_clash : (b : Bool) → b ≡ false → Is b → ⊥
no_clash b e t = subst Is e t

before : (T p : ℕ) → p < 2 ^ T → (i : ℕ) → Is (on p i) → i < T
before T p small i x = go (dec_lt i T)
  where
    go : Dec (i < T) → i < T
    go (yes l) = l
    go (no l) = absurd (no_clash (on p i) (on-above T p i small (omega arith)) x)

-- rest has the slots from which k slots later is after the last
module _ (T k rest : ℕ) (rest-is : (j : ℕ) → on rest j ≡ (on (2 ^ T - 1) j && not (on ((2 ^ T - 1) / 2 ^ k) j))) where
  rest-behind : (j : ℕ) → T ≤ j → on rest j ≡ false
  rest-behind j l = rest-is j ∙ ap (λ (x : Bool). x && not (on ((2 ^ T - 1) / 2 ^ k) j)) (on-above T (2 ^ T - 1) j (ones_lt T) l)

  rest_at : (j : ℕ) → j < T → (Is (on rest j) → T ≤ j + k) × (T ≤ j + k → Is (on rest j))
  rest_at j l = go (dec_lt (k + j) T)
    where
      go : Dec (k + j < T) → (Is (on rest j) → T ≤ j + k) × (T ≤ j + k → Is (on rest j))
      go (yes u) =
          let z : on rest j ≡ false = rest-is j ∙ ap₂ (λ (x y : Bool). x && not y) (on_ones T j l) (on_shr (2 ^ T - 1) k j ∙ on_ones T (k + j) u) in
          (λ x. absurd (no_clash (on rest j) z x), λ h. absurd (omega arith))
      go (no u) =
          let none : on ((2 ^ T - 1) / 2 ^ k) j ≡ false = on_shr (2 ^ T - 1) k j ∙ on-above T (2 ^ T - 1) (k + j) (ones_lt T) (omega arith) in
          let z : on rest j ≡ true = rest-is j ∙ ap₂ (λ (x y : Bool). x && not y) (on_ones T j l) none in
          (λ x. omega arith, λ h. subst Is (sym z) tt)

-- ---- a window's slots: near has those up to the last, and far those after it

module _ (T L p a b near : ℕ) (loop : LoopAllowed T L) (small : p < 2 ^ T) (order : a ≤ b)
    (near-is : (j : ℕ) → on near j ≡ some (on p) (b - a + 1) (a + j)) where
  near-behind : (j : ℕ) → T ≤ j → on near j ≡ false
  near-behind j l = same_tests (on near j) false (
    λ x.
        let r = some_at (on p) (b - a + 1) (a + j) (subst Is (near-is j) x) in
        no_clash (on p r.0) (on-above T p r.0 small (omega (arith, r.1))) r.3,
    λ x. absurd x,
  )

  same-slot : (j i k : ℕ) → j + i ≡ k → k < T → slot_from T L (j + i) ≡ k
  same-slot j i k e l =
      let s : j + i + 1 ≡ k + 1 = omega arith in
      let z : k + 1 - 1 ≡ k = omega arith in
      ap (λ (x : ℕ). x - 1) (ap (slot_of T L) s ∙ slot_is T L loop (k + 1) (omega arith)) ∙ z

  near_within : (j : ℕ) → Is (on near j) → Is (within_at T L a b (on p) j)
  near_within j x =
      let r = some_at (on p) (b - a + 1) (a + j) (subst Is (near-is j) x) in
      let s = same-slot j (r.0 - j) r.0 (omega (arith, r.1)) (before T p small r.0 r.3) in
      at_some (λ i. on p (slot_from T L (j + i))) (b - a + 1) a (r.0 - j) (omega (arith, r.1)) (omega (arith, r.1, r.2))
      (subst (λ (s : ℕ). Is (on p s)) (sym s) r.3)

  module _ (far : ℕ → Bool) (far-behind : (j : ℕ) → T ≤ j → far j ≡ false)
      (at-far : (j i : ℕ) → j < T → i ≤ b → T ≤ j + i → Is (on p (slot_from T L (j + i))) → Is (far j))
      (far_at : (j : ℕ) → j < T → Is (far j) → (i : ℕ) × (a ≤ i) × (i ≤ b) × Is (on p (slot_from T L (j + i)))) where
    far_within : (j : ℕ) → j < T → Is (far j) → Is (within_at T L a b (on p) j)
    far_within j l x =
        let r = far_at j l x in
        at_some (λ i. on p (slot_from T L (j + i))) (b - a + 1) a r.0 r.1 (omega (arith, r.2)) r.3

    within-either : (j : ℕ) → j < T → Is (within_at T L a b (on p) j) → Is (on near j || far j)
    within-either j l x = go (some_at (λ i. on p (slot_from T L (j + i))) (b - a + 1) a x)
      where
        go : ((i : ℕ) × (a ≤ i) × (i < a + (b - a + 1)) × Is (on p (slot_from T L (j + i)))) → Is (on near j || far j)
        go (i, lo, hi, y) = pick (dec_lt (j + i) T)
          where
            pick : Dec (j + i < T) → Is (on near j || far j)
            pick (yes u) =
                let here = subst (λ (s : ℕ). Is (on p s)) (same-slot j i (j + i) refl u) y in
                or_left (on near j) (far j) (subst Is (sym (near-is j)) (at_some (on p) (b - a + 1) (a + j) (j + i) (omega arith) (omega arith) here))
            pick (no u) = or_right (on near j) (far j) (at-far j i l (omega arith) (omega arith) y)

    word-within : (r : ℕ) → ((j : ℕ) → on r j ≡ (on near j || far j)) → Word T (within_at T L a b (on p)) r
    word-within r e = record {
      at = λ j l. e j ∙ same_tests (on near j || far j) (within_at T L a b (on p) j) (
        λ x. ⊎_elim (near_within j) (far_within j l) (or_cases (on near j) (far j) x),
        within-either j l,
      );
      small = on_below T r (λ j l. e j ∙ ap₂ (λ (x y : Bool). x || y) (near-behind j l) (far-behind j l));
    }

-- ---- L is T: every time after the last slot has the last slot

module _ (T p a b near : ℕ) (some-slot : 1 ≤ T) (small : p < 2 ^ T) (order : a ≤ b)
    (near-is : (j : ℕ) → on near j ≡ some (on p) (b - a + 1) (a + j)) where
  loop : LoopAllowed T T
  loop = (some-slot, le_refl T)

  last-slot : (j i : ℕ) → T ≤ j + i → slot_from T T (j + i) ≡ T - 1
  last-slot j i h = let z : min (j + i + 1) T ≡ T = omega arith in ap (λ (s : ℕ). s - 1) (slot_no_loop T (j + i + 1) some-slot ∙ z)

  pub last_no : on p (T - 1) ≡ false → Word T (within_at T T a b (on p)) near
  last_no z =
      word-within T T p a b near loop small order near-is (λ j. false) (λ j l. refl)
      (λ j i l u h x. no_clash (on p (T - 1)) z (subst (λ (s : ℕ). Is (on p s)) (last-slot j i h) x)) (λ j l x. absurd x)
      near (λ j. sym (or-false (on near j)))

  pub last_yes : (rest : ℕ) → ((j : ℕ) → on rest j ≡ (on (2 ^ T - 1) j && not (on ((2 ^ T - 1) / 2 ^ b) j))) → on p (T - 1) ≡ true →
      Word T (within_at T T a b (on p)) (bit_or near rest)
  last_yes rest rest-is z =
      word-within T T p a b near loop small order near-is (on rest) (rest-behind T b rest rest-is)
      (λ j i l u h x. (rest_at T b rest rest-is j l).1 (omega arith))
      (λ j l x.
      let s = last-slot j b ((rest_at T b rest rest-is j l).0 x) in
      (b, order, le_refl b, subst (λ (s : ℕ). Is (on p s)) (sym s) (subst Is (sym z) tt)))
      (bit_or near rest) (on_or near rest)

-- ---- a window from the slot itself on: after the last slot it meets p first where p first holds from slot L on

module _ (T L p n near first rest : ℕ) (loop : LoopAllowed T L) (small : p < 2 ^ T) (few : n < 64)
    (ahead : (j : ℕ) → on near j ≡ some (on p) (n + 1) j)
    (first-is : first ≡ count_trailing_zeros 64 (p / 2 ^ (L - 1)))
    (rest-is : (j : ℕ) → on rest j ≡ (on (2 ^ T - 1) j && not (on ((2 ^ T - 1) / 2 ^ (n - min first n)) j))) where
  near-is : (j : ℕ) → on near j ≡ some (on p) (n - 0 + 1) (0 + j)
  near-is j = ahead j ∙ ap₂ (some (on p)) (let e : n + 1 ≡ n - 0 + 1 = omega arith in e) (let e : j ≡ 0 + j = omega arith in e)

  not-before : (s : ℕ) → L ≤ s → Is (on p (s - 1)) → first ≤ s - L
  not-before s l x = go (dec_lt (s - L) first)
    where
      go : Dec (s - L < first) → first ≤ s - L
      go (no h) = omega arith
      go (yes h) =
          let z : s - 1 ≡ L - 1 + (s - L) = omega (arith, loop) in
          let e = ap (on p) z ∙ sym (on_shr p (L - 1) (s - L)) ∙ trailing_below 64 (p / 2 ^ (L - 1)) (s - L) (rw first-is at h) in
          absurd (no_clash (on p (s - 1)) e x)

  at_first : first < 64 → Is (on p (L - 1 + first))
  at_first h =
      let e = sym (on_shr p (L - 1) first) ∙ ap (on (p / 2 ^ (L - 1))) first-is ∙ trailing_at 64 (p / 2 ^ (L - 1)) (rw first-is at h) in
      subst Is (sym e) tt

  past : (j i : ℕ) → T ≤ j + i → slot_of T L (j + i + 1) ≡ slot_of T L (L + (j + i - T))
  past j i h = let e : j + i + 1 ≡ T + 1 + (j + i - T) = omega arith in ap (slot_of T L) e ∙ slot-past T L loop (j + i - T)

  -- the window goes on to that slot, or beyond it
  goes_on_lem : (j k : ℕ) → j < T → first ≤ k → T + k ≤ j + n → T ≤ j + (n - min first n)
  goes_on_lem j k l h u = let z : min first n ≡ first = omega arith in omega arith

  gone_on : (j : ℕ) → j < T → T ≤ j + (n - min first n) → T + first ≤ j + n
  gone_on j l h = omega arith

  first-within : (j : ℕ) → j < T → T + first ≤ j + n → (i : ℕ) × (0 ≤ i) × (i ≤ n) × Is (on p (slot_from T L (j + i)))
  first-within j l h =
      let y = at_first (omega arith) in
      let u = before T p small (L - 1 + first) y in
      let i = T - j + first in
      let e : j + i - T ≡ first = omega arith in
      let g : L + first - 1 ≡ L - 1 + first = omega (arith, loop) in
      let s = past j i (omega arith) ∙ ap (λ (z : ℕ). slot_of T L (L + z)) e ∙ slot_is T L loop (L + first) (omega (arith, loop)) in
      (i, omega arith, omega arith, subst (λ (z : ℕ). Is (on p z)) (sym (ap (λ (z : ℕ). z - 1) s ∙ g)) y)

  pub next-within : Word T (within_at T L 0 n (on p)) (bit_or near rest)
  next-within =
      let rest_at = rest_at T (n - min first n) rest rest-is in
      word-within T L p 0 n near loop small (omega arith) near-is (on rest) (rest-behind T (n - min first n) rest rest-is)
      (λ j i l u h x.
      let k = j + i - T in
      let f = not-before (slot_of T L (L + k)) (slot-low T L loop k) (rw (past j i h) at x) in
      let g : first ≤ k = omega (arith, slot-high T L loop (L + k)) in
      (rest_at j l).1 (goes_on_lem j k l g (omega arith)))
      (λ j l x. first-within j l (gone_on j l ((rest_at j l).0 x)))
      (bit_or near rest) (on_or near rest)

-- ---- a slots later, and then a window from there on

module _ (T L : ℕ) (loop : LoopAllowed T L) where
  pub slot-inside : (k : ℕ) → slot_from T L k < T
  slot-inside k = let e = slot_pos T L loop (k + 1) (omega arith) in omega (arith, slot_le T L loop (k + 1))

  pub within-later : (a b p w r : ℕ) → a ≤ b → Word T (later_at T L a (on p)) w → Word T (within_at T L 0 (b - a) (on w)) r →
      Word T (within_at T L a b (on p)) r
  within-later a b p w r h d e = word_same e _ (λ j l.
      let n : b - a - 0 + 1 ≡ b - a + 1 = omega arith in
      let m : a + 0 ≡ a = omega arith in
      some-later (λ i. on p (slot_from T L (j + i))) (λ i. on w (slot_from T L (j + i))) a (b - a - 0 + 1) 0
      (λ i. d.at (slot_from T L (j + i)) (slot-inside (j + i)) ∙ ahead j i)
      ∙ ap₂ (some (λ i. on p (slot_from T L (j + i)))) n m)
    where
      ahead : (j i : ℕ) → on p (slot_from T L (slot_from T L (j + i) + a)) ≡ on p (slot_from T L (j + (a + i)))
      ahead j i =
          let s = slot_of T L (j + i + 1) in
          let e : s - 1 + a + 1 ≡ s + a = omega (arith, slot_pos T L loop (j + i + 1) (omega arith)) in
          let f : j + i + 1 + a ≡ j + (a + i) + 1 = omega arith in
          ap (λ (k : ℕ). on p (k - 1)) (ap (slot_of T L) e ∙ slot-ahead T L loop (j + i + 1) a ∙ ap (slot_of T L) f)

  -- only the slots up to the last count
  pub within_same : (a b : ℕ) (p q : ℕ → Bool) → ((i : ℕ) → i < T → p i ≡ q i) → (j : ℕ) → j < T → within_at T L a b p j ≡ within_at T L a b q j
  within_same a b p q e j l = go (b - a + 1) a
    where
      go : (n d : ℕ) → some (λ i. p (slot_from T L (j + i))) n d ≡ some (λ i. q (slot_from T L (j + i))) n d
      go zero d = refl
      go (suc n) d = ap₂ (λ (x y : Bool). x || y) (e (slot_from T L (j + d)) (slot-inside (j + d))) (go n (suc d))
