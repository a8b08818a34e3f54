-- The slots of times, where after slot T comes slot L again: their laws.
use Rattle.std.specs.Prelude.{◌≡◌, refl, ℕ, zero, suc, ◌+◌, ◌-◌, ◌≤◌, ◌<◌, min}
use Rattle.std.proofs.Common.{sym, ap, ◌∙◌, add-zero, add-suc, le_refl, arith, lt-ltb, le-ltb}
use Rattle.std.proofs.Math.Decide.{dec_lt}
use Rattle.rules.specs.Quantities.{LoopAllowed}
use Rattle.rules.specs.Truth.{slot_after, slot_of}

after-before : (T L s : ℕ) → s < T → slot_after T L s ≡ suc s
after-before T L s h = rw (lt-ltb s T h) refl

after_last : (T L s : ℕ) → T ≤ s → slot_after T L s ≡ L
after_last T L s h = rw (le-ltb s T h) refl

module _ (T L : ℕ) (loop : LoopAllowed T L) where
  after-within : (s : ℕ) → (1 ≤ slot_after T L s) × (slot_after T L s ≤ T)
  after-within s = go (dec_lt s T)
    where
      go : Dec (s < T) → (1 ≤ slot_after T L s) × (slot_after T L s ≤ T)
      go (yes h) = rw (after-before T L s h) (omega arith)
      go (no h) = rw (after_last T L s (omega arith)) loop

  pub slot_le : (k : ℕ) → slot_of T L k ≤ T
  slot_le zero = omega arith
  slot_le (suc k) = (after-within (slot_of T L k)).1

  pub slot_pos : (k : ℕ) → 1 ≤ k → 1 ≤ slot_of T L k
  slot_pos zero h = absurd (omega arith)
  slot_pos (suc k) h = (after-within (slot_of T L k)).0

  -- the first T times are the slots
  pub slot_is : (t : ℕ) → t ≤ T → slot_of T L t ≡ t
  slot_is zero h = refl
  slot_is (suc t) h = ap (slot_after T L) (slot_is t (omega arith)) ∙ after-before T L t h

  -- the slot j slots after the slot of time k is that of time k + j
  pub slot-ahead : (k j : ℕ) → slot_of T L (slot_of T L k + j) ≡ slot_of T L (k + j)
  slot-ahead k zero = rw (add-zero (slot_of T L k), add-zero k) (slot_is (slot_of T L k) (slot_le k))
  slot-ahead k (suc j) = rw (add-suc (slot_of T L k) j, add-suc k j) (ap (slot_after T L) (slot-ahead k j))

  -- after the last slot comes slot L, and what follows it
  pub slot-past : (i : ℕ) → slot_of T L (T + 1 + i) ≡ slot_of T L (L + i)
  slot-past i =
      let e : T + 1 ≡ suc T = omega arith in
      let last : slot_of T L (T + 1) ≡ L =
      ap (slot_of T L) e ∙ ap (slot_after T L) (slot_is T (le_refl T)) ∙ after_last T L T (le_refl T) in
      sym (slot-ahead (T + 1) i) ∙ ap (λ (s : ℕ). slot_of T L (s + i)) last

  -- from slot L on the slots are those from L on; no time has a later slot than its own
  pub slot-low : (i : ℕ) → L ≤ slot_of T L (L + i)
  slot-low zero = rw (add-zero L, slot_is L loop.1) (omega arith)
  slot-low (suc i) = rw (add-suc L i) (go (slot_of T L (L + i)) (slot-low i) (dec_lt (slot_of T L (L + i)) T))
    where
      go : (s : ℕ) → L ≤ s → Dec (s < T) → L ≤ slot_after T L s
      go s l (yes h) = rw (after-before T L s h) (omega arith)
      go s l (no h) = rw (after_last T L s (omega arith)) (omega arith)

  pub slot-high : (k : ℕ) → slot_of T L k ≤ k
  slot-high zero = omega arith
  slot-high (suc k) = go (slot_of T L k) (slot-high k) (dec_lt (slot_of T L k) T)
    where
      go : (s : ℕ) → s ≤ k → Dec (s < T) → slot_after T L s ≤ suc k
      go s l (yes h) = rw (after-before T L s h) (omega arith)
      go s l (no h) = rw (after_last T L s (omega arith)) (omega (arith, loop))

  -- how far the slot of time k is from the last
  abbrev pub distance : ℕ → ℕ
  distance k = T - slot_of T L k

  pub distance_next : (k d : ℕ) → distance k ≡ suc d → distance (suc k) ≡ d
  distance_next k d e = rw (after-before T L (slot_of T L k) (omega arith)) (omega arith)

  pub distance-last : (k : ℕ) → distance k ≡ 0 → distance (suc k) ≡ T - L
  distance-last k e = ap (λ (s : ℕ). T - s) (after_last T L (slot_of T L k) (omega arith))

  pub distance_back : (k : ℕ) → T - distance k ≡ slot_of T L k
  distance_back k = omega (arith, slot_le k)

-- with L equal to T: "A slot after T has the atoms of slot T."
pub slot_no_loop : (T k : ℕ) → 1 ≤ T → slot_of T T k ≡ min k T
slot_no_loop T zero h = omega arith
slot_no_loop T (suc k) h = ap (slot_after T T) (slot_no_loop T k h) ∙ go (dec_lt k T)
  where
    go : Dec (k < T) → slot_after T T (min k T) ≡ min (suc k) T
    go (yes l) = after-before T T (min k T) (omega arith) ∙ omega arith
    go (no l) = after_last T T (min k T) (omega arith) ∙ omega arith
