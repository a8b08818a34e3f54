-- Bits turned over in blocks. In blocks of w slots and atoms, word i has at bit j the bit of slot w·(j / w) + i % w and of atom
-- w·(i / w) + j % w: with w 16 each 16 bits of a word are a slot's number, with w 1 each word is an atom's.
use Rattle.std.specs.Prelude.{◌≡◌, refl, Bool, true, false, not, cond, ◌&&◌, ◌||◌, ◌⊎◌, ℕ, ◌+◌, ◌-◌, ◌*◌, ◌/◌, ◌%◌, ◌^◌, ◌≤◌, ◌<◌, T as Is, leb, ltb, eqb}
use Rattle.std.proofs.Common.{sym, ap, ap₂, subst, ◌∙◌, inl, inr, ⊎_elim, le_trans, lt_of_le_of_lt, mod-lt, arith, lt-ltb, le-ltb, ltb-true, eq-eqb, pow_pos, eqb→eq, leb→le}
use Rattle.std.proofs.Math.Bool.{and-true, and-false, or-false}
use Rattle.std.proofs.Math.Decide.{dec_lt}
use Rattle.std.specs.Int.Bits.{bit_and, bit_or}
use Rattle.std.proofs.lemmas.Nat.{and_le_l, or_lt, shr_le}
use Rattle.lists.specs.All.{all, all_iff}
use Rattle.lists.specs.Tests.{or_cases, and_left, and_right, imp_iff, is_true}
use Rattle.evaluator_words.specs.Bits.{on, on_and, on_or, on_shr, on_shl, on_shl_low, on-mod, on-not}

abbrev pub slot_at : (w i j : ℕ) → ℕ
slot_at w i j = w * (j / w) + i % w

abbrev pub atom_at : (w i j : ℕ) → ℕ
atom_at w i j = w * (i / w) + j % w

-- word i of a block, where f s a is the bit of slot s and atom a
abbrev pub Turned : (f : ℕ → ℕ → Bool) (w i x : ℕ) → Type 0
Turned f w i x = (x < 2 ^ 64) × ((j : ℕ) → j < 64 → on x j ≡ f (slot_at w i j) (atom_at w i j))

-- the halves of a block of 2·h
abbrev pub first_half : (h i : ℕ) → Bool
first_half h i = eqb (i / h % 2) 0

-- the words that are exchanged: word i of a first half with word i + h, as pair k
abbrev pub row_of : (h k : ℕ) → ℕ
row_of h k = 2 * h * (k / h) + k % h

abbrev pub pair_of : (h i : ℕ) → ℕ
pair_of h i = h * (i / (2 * h)) + i % h

-- the pairs of the blocks that begin below atom m
abbrev pub pairs_for : (h m : ℕ) → ℕ
pairs_for h m = h * ((m + 2 * h - 1) / (2 * h))

-- in blocks of w, word i is of a block that begins below atom m
abbrev pub need : (w m i : ℕ) → Bool
need w m i = ltb (w * (i / w)) m

abbrev pub low_of : (h mask x y : ℕ) → ℕ
low_of h mask x y = bit_or (bit_and x mask) (bit_and y mask * 2 ^ h % 2 ^ 64)

abbrev pub high_of : (h mask x y : ℕ) → ℕ
high_of h mask x y = bit_or (bit_and (x / 2 ^ h) mask) (bit_and y (2 ^ 64 - 1 - mask))

-- ---- what is so for the four sizes of a half, tested for all 16 words of 64 bits

abbrev same : Bool → Bool → Bool
same true b = b
same false b = not b

abbrev mask_test : (h mask : ℕ) → Bool
mask_test h mask = all (λ j. same (on mask j) (first_half h j)) 64

-- bit j' of word i' in blocks of 2·h is bit j of word i in blocks of h
abbrev moves : (h i j i' j' : ℕ) → Bool
moves h i j i' j' = eqb (slot_at (2 * h) i' j') (slot_at h i j) && eqb (atom_at (2 * h) i' j') (atom_at h i j)

-- what the bits j of the words i and i + h come from
abbrev from_low : (h i j : ℕ) → Bool
from_low h i j = moves h i j i j && ((ltb (h + j) 64 && moves h (i + h) j i (h + j)) && (ltb j h || not (first_half h (j - h))))

abbrev from_high : (h i j : ℕ) → Bool
from_high h i j = moves h (i + h) j (i + h) j && ((leb h j && moves h i j (i + h) (j - h)) && first_half h (j - h))

abbrev bit_test : (h : ℕ) → Bool
bit_test h = all (λ i. all (λ j. not (first_half h i) || cond (first_half h j) (from_low h i j) (from_high h i j)) 64) 16

-- words, and the pair that each stands in
abbrev row_test : (h : ℕ) → Bool
row_test h = all (λ i. cond (first_half h i) (ltb (i + h) 16 && eqb (pair_of h (i + h)) (pair_of h i))
    (leb h i && (first_half h (i - h) && eqb (pair_of h (i - h)) (pair_of h i)))) 16

abbrev pair_test : (h : ℕ) → Bool
pair_test h = all (λ k. (first_half h (row_of h k) && (not (first_half h (row_of h k + h)) && (ltb (row_of h k + h) 16 && eqb (pair_of h (row_of h k)) k))) &&
    all (λ i. not (eqb (pair_of h i) k) || (eqb i (row_of h k) || eqb i (row_of h k + h))) 16) 8

-- a word that is needed has been exchanged, and came from words that were needed
abbrev partner : (h i : ℕ) → ℕ
partner h i = cond (first_half h i) (i + h) (i - h)

abbrev from_needed : (h m i : ℕ) → Bool
from_needed h m i = not (need h m i) || (ltb (pair_of h i) (pairs_for h m) && (need (2 * h) m i && need (2 * h) m (partner h i)))

abbrev need_test : (h : ℕ) → Bool
need_test h = all (λ m. leb (pairs_for h m) 8 && all (from_needed h m) 16) 17

pub record Stage (h mask : ℕ) : Type 0 where
  pub some_half : 1 ≤ h
  pub small_half : h ≤ 8
  pub small_mask : mask < 2 ^ 64
  pub masks : Is (mask_test h mask)
  pub bits : Is (bit_test h)
  pub rows : Is (row_test h)
  pub pairs : Is (pair_test h)
  pub needs : Is (need_test h)

pub stage_8 : Stage 8 0x00FF00FF00FF00FF
unfolding all on
stage_8 = record { some_half = omega arith; small_half = omega arith; small_mask = omega arith; masks = tt; bits = tt; rows = tt; pairs = tt; needs = tt }

pub stage_4 : Stage 4 0x0F0F0F0F0F0F0F0F
unfolding all on
stage_4 = record { some_half = omega arith; small_half = omega arith; small_mask = omega arith; masks = tt; bits = tt; rows = tt; pairs = tt; needs = tt }

pub stage_2 : Stage 2 0x3333333333333333
unfolding all on
stage_2 = record { some_half = omega arith; small_half = omega arith; small_mask = omega arith; masks = tt; bits = tt; rows = tt; pairs = tt; needs = tt }

pub stage_1 : Stage 1 0x5555555555555555
unfolding all on
stage_1 = record { some_half = omega arith; small_half = omega arith; small_mask = omega arith; masks = tt; bits = tt; rows = tt; pairs = tt; needs = tt }

-- ---- reading the tests

at_first : (b P Q : Bool) → b ≡ true → Is (cond b P Q) → Is P
at_first true P Q e t = t
at_first false P Q e t = absurd (subst Is (sym e) tt)

at_second : (b P Q : Bool) → b ≡ false → Is (cond b P Q) → Is Q
at_second false P Q e t = t
at_second true P Q e t = absurd (subst Is e tt)

is_same : (a b : Bool) → Is (same a b) → a ≡ b
is_same true true t = refl
is_same true false t = absurd t
is_same false true t = absurd t
is_same false false t = refl

no_more : (b : Bool) → Is (not b) → b ≡ false
no_more true t = absurd t
no_more false t = refl

-- pair k is word i of a first half and word i + h
pub record PairAt (h k i : ℕ) : Type 0 where
  pub first : first_half h i ≡ true
  pub second : first_half h (i + h) ≡ false
  pub inside : i + h < 16
  pub own : pair_of h i ≡ k
  pub only : (r : ℕ) → r < 16 → pair_of h r ≡ k → (r ≡ i) ⊎ (r ≡ i + h)

pub pair-at : (h mask : ℕ) → Stage h mask → (k : ℕ) → k < 8 → PairAt h k (row_of h k)
pair-at h mask s k l =
    let i = row_of h k in
    let a = first_half h i in
    let b = not (first_half h (i + h)) in
    let c = ltb (i + h) 16 in
    let d = eqb (pair_of h i) k in
    let rest = all (λ i. not (eqb (pair_of h i) k) || (eqb i (row_of h k) || eqb i (row_of h k + h))) 16 in
    let t = (all_iff _ 8).0 s.pairs k l in
    let u = and_left (a && (b && (c && d))) rest t in
    let v = and_right a (b && (c && d)) u in
    let w = and_right b (c && d) v in
    record {
      first = is_true a (and_left a (b && (c && d)) u);
      second = no_more (first_half h (i + h)) (and_left b (c && d) v);
      inside = ltb-true (i + h) 16 (is_true c (and_left c d w));
      own = eqb→eq (pair_of h i) k (and_right c d w);
      only = λ r g e.
          ⊎_elim {C = (r ≡ i) ⊎ (r ≡ i + h)} (λ x. inl (eqb→eq r i x)) (λ x. inr (eqb→eq r (i + h) x))
          (or_cases (eqb r i) (eqb r (i + h))
          ((imp_iff (eqb (pair_of h r) k) (eqb r i || eqb r (i + h))).0
          ((all_iff (λ i. not (eqb (pair_of h i) k) || (eqb i (row_of h k) || eqb i (row_of h k + h))) 16).0 (and_right (a && (b && (c && d))) rest t) r g)
          (subst Is (sym (eq-eqb (pair_of h r) k e)) tt)));
    }

module _ (h mask : ℕ) (s : Stage h mask) where
  mask_at : (j : ℕ) → j < 64 → on mask j ≡ first_half h j
  mask_at j l = is_same (on mask j) (first_half h j) ((all_iff (λ j. same (on mask j) (first_half h j)) 64).0 s.masks j l)

  cells : (i j : ℕ) → i < 16 → first_half h i ≡ true → j < 64 → Is (cond (first_half h j) (from_low h i j) (from_high h i j))
  cells i j k e l =
      (imp_iff (first_half h i) (cond (first_half h j) (from_low h i j) (from_high h i j))).0
      ((all_iff (λ j. not (first_half h i) || cond (first_half h j) (from_low h i j) (from_high h i j)) 64).0
      ((all_iff (λ i. all (λ j. not (first_half h i) || cond (first_half h j) (from_low h i j) (from_high h i j)) 64) 16).0 s.bits i k) j l) (subst Is (sym e) tt)

  moved : (f : ℕ → ℕ → Bool) (i j i' j' : ℕ) → Is (moves h i j i' j') → f (slot_at (2 * h) i' j') (atom_at (2 * h) i' j') ≡ f (slot_at h i j) (atom_at h i j)
  moved f i j i' j' t =
      let a = eqb (slot_at (2 * h) i' j') (slot_at h i j) in
      let b = eqb (atom_at (2 * h) i' j') (atom_at h i j) in
      ap₂ f (eqb→eq (slot_at (2 * h) i' j') (slot_at h i j) (and_left a b t)) (eqb→eq (atom_at (2 * h) i' j') (atom_at h i j) (and_right a b t))

  -- what is shifted up by a half comes from the half below
  shifted : (z j : ℕ) → j < 64 → (ltb j h ≡ true → on (bit_and z mask * 2 ^ h % 2 ^ 64) j ≡ false) ×
      (h ≤ j → on (bit_and z mask * 2 ^ h % 2 ^ 64) j ≡ (on z (j - h) && first_half h (j - h)))
  shifted z j l = (
    λ e. on-mod 64 (bit_and z mask * 2 ^ h) j l ∙ on_shl_low (bit_and z mask) h j (ltb-true j h e),
    λ g.
        on-mod 64 (bit_and z mask * 2 ^ h) j l ∙ ap (on (bit_and z mask * 2 ^ h)) (let w : j ≡ h + (j - h) = omega arith in w)
        ∙ on_shl (bit_and z mask) h (j - h) ∙ on_and z mask (j - h) ∙ ap (λ (b : Bool). on z (j - h) && b) (mask_at (j - h) (omega arith)),
  )

  -- the bits that the mask has, and those that it has not
  kept : (z j : ℕ) → j < 64 → on (bit_and z mask) j ≡ (on z j && first_half h j)
  kept z j l = on_and z mask j ∙ ap (λ (b : Bool). on z j && b) (mask_at j l)

  left : (z j : ℕ) → j < 64 → on (bit_and z (2 ^ 64 - 1 - mask)) j ≡ (on z j && not (first_half h j))
  left z j l = on_and z (2 ^ 64 - 1 - mask) j ∙ ap (λ (b : Bool). on z j && b) (on-not 64 mask j s.small_mask l ∙ ap not (mask_at j l))

  module _ (f : ℕ → ℕ → Bool) (i x y : ℕ) (inside : i < 16) (first : first_half h i ≡ true)
      (low-turned : Turned f (2 * h) i x) (high-turned : Turned f (2 * h) (i + h) y) where
    module _ (j : ℕ) (l : j < 64) where
      low_part : first_half h j ≡ true → Is (moves h i j i j) × Is (ltb (h + j) 64) × Is (moves h (i + h) j i (h + j)) × Is
          (ltb j h || not (first_half h (j - h)))
      low_part e =
          let a = moves h i j i j in
          let b = ltb (h + j) 64 in
          let c = moves h (i + h) j i (h + j) in
          let d = ltb j h || not (first_half h (j - h)) in
          let t = at_first (first_half h j) (from_low h i j) (from_high h i j) e (cells i j inside first l) in
          let u = and_right a ((b && c) && d) t in
          let v = and_left (b && c) d u in
          (and_left a ((b && c) && d) t, and_left b c v, and_right b c v, and_right (b && c) d u)

      high_part : first_half h j ≡ false → Is (moves h (i + h) j (i + h) j) × Is (leb h j) × Is (moves h i j (i + h) (j - h)) × Is (first_half h (j - h))
      high_part e =
          let a = moves h (i + h) j (i + h) j in
          let b = leb h j in
          let c = moves h i j (i + h) (j - h) in
          let d = first_half h (j - h) in
          let t = at_second (first_half h j) (from_low h i j) (from_high h i j) e (cells i j inside first l) in
          let u = and_right a ((b && c) && d) t in
          let v = and_left (b && c) d u in
          (and_left a ((b && c) && d) t, and_left b c v, and_right b c v, and_right (b && c) d u)

      -- nothing comes up into a first half
      none-up : Is (ltb j h || not (first_half h (j - h))) → Dec (j < h) → on (bit_and y mask * 2 ^ h % 2 ^ 64) j ≡ false
      none-up t (yes g) = (shifted y j l).0 (lt-ltb j h g)
      none-up t (no g) =
          let u : first_half h (j - h) ≡ false = no_more (first_half h (j - h))
          (subst (λ (b : Bool). Is (b || not (first_half h (j - h)))) (le-ltb j h (omega arith)) t) in
          (shifted y j l).1 (omega arith) ∙ ap (λ (b : Bool). on y (j - h) && b) u ∙ and-false (on y (j - h))

      low_bit : (b : Bool) → first_half h j ≡ b → (on (bit_and x mask) j || on (bit_and y mask * 2 ^ h % 2 ^ 64) j) ≡ f (slot_at h i j) (atom_at h i j)
      low_bit true e =
          let t = low_part e in
          ap₂ (λ (a b : Bool). a || b) (kept x j l ∙ ap (λ (b : Bool). on x j && b) e ∙ and-true (on x j)) (none-up t.3 (dec_lt j h))
          ∙ or-false (on x j) ∙ low-turned.1 j l ∙ moved f i j i j t.0
      low_bit false e =
          let t = high_part e in
          let g : h ≤ j = leb→le h j t.1 in
          ap₂ (λ (a b : Bool). a || b) (kept x j l ∙ ap (λ (b : Bool). on x j && b) e ∙ and-false (on x j))
          ((shifted y j l).1 g ∙ ap (λ (b : Bool). on y (j - h) && b) (is_true (first_half h (j - h)) t.3) ∙ and-true (on y (j - h)))
          ∙ high-turned.1 (j - h) (omega arith) ∙ moved f i j (i + h) (j - h) t.2

      high_bit : (b : Bool) → first_half h j ≡ b → (on (bit_and (x / 2 ^ h) mask) j || on (bit_and y (2 ^ 64 - 1 - mask)) j) ≡ f (slot_at h (i + h) j)
          (atom_at h (i + h) j)
      high_bit true e =
          let t = low_part e in
          ap₂ (λ (a b : Bool). a || b) (kept (x / 2 ^ h) j l ∙ ap (λ (b : Bool). on (x / 2 ^ h) j && b) e ∙ and-true (on (x / 2 ^ h) j) ∙ on_shr x h j)
          (left y j l ∙ ap (λ (b : Bool). on y j && not b) e ∙ and-false (on y j))
          ∙ or-false (on x (h + j)) ∙ low-turned.1 (h + j) (ltb-true (h + j) 64 (is_true (ltb (h + j) 64) t.1)) ∙ moved f (i + h) j i (h + j) t.2
      high_bit false e =
          let t = high_part e in
          ap₂ (λ (a b : Bool). a || b) (kept (x / 2 ^ h) j l ∙ ap (λ (b : Bool). on (x / 2 ^ h) j && b) e ∙ and-false (on (x / 2 ^ h) j))
          (left y j l ∙ ap (λ (b : Bool). on y j && not b) e ∙ and-true (on y j))
          ∙ high-turned.1 j l ∙ moved f (i + h) j (i + h) j t.0

    pub low-is : Turned f h i (low_of h mask x y)
    low-is = (
      or_lt 64 (bit_and x mask) (bit_and y mask * 2 ^ h % 2 ^ 64) (lt_of_le_of_lt (and_le_l x mask) low-turned.0)
          (mod-lt (bit_and y mask * 2 ^ h) (pow_pos 64)),
      λ j l. on_or (bit_and x mask) (bit_and y mask * 2 ^ h % 2 ^ 64) j ∙ low_bit j l (first_half h j) refl,
    )

    pub high_is : Turned f h (i + h) (high_of h mask x y)
    high_is = (
      or_lt 64 (bit_and (x / 2 ^ h) mask) (bit_and y (2 ^ 64 - 1 - mask)) (lt_of_le_of_lt (le_trans (and_le_l (x / 2 ^ h) mask) (shr_le x h)) low-turned.0)
          (lt_of_le_of_lt (and_le_l y (2 ^ 64 - 1 - mask)) high-turned.0),
      λ j l. on_or (bit_and (x / 2 ^ h) mask) (bit_and y (2 ^ 64 - 1 - mask)) j ∙ high_bit j l (first_half h j) refl,
    )

-- ---- the words of a pair, and of what is needed

module _ (h mask : ℕ) (s : Stage h mask) where
  row_at : (i : ℕ) → i < 16 →
      Is (cond (first_half h i) (ltb (i + h) 16 && eqb (pair_of h (i + h)) (pair_of h i))
      (leb h i && (first_half h (i - h) && eqb (pair_of h (i - h)) (pair_of h i))))
  row_at i l = (all_iff _ 16).0 s.rows i l

  pub first-row : (i : ℕ) → i < 16 → first_half h i ≡ true → (i + h < 16) × (pair_of h (i + h) ≡ pair_of h i)
  first-row i l e =
      let a = ltb (i + h) 16 in
      let b = eqb (pair_of h (i + h)) (pair_of h i) in
      let t = at_first (first_half h i) (a && b) (leb h i && (first_half h (i - h) && eqb (pair_of h (i - h)) (pair_of h i))) e (row_at i l) in
      (ltb-true (i + h) 16 (is_true a (and_left a b t)), eqb→eq (pair_of h (i + h)) (pair_of h i) (and_right a b t))

  pub second-row : (i : ℕ) → i < 16 → first_half h i ≡ false → (h ≤ i) × (first_half h (i - h) ≡ true) × (pair_of h (i - h) ≡ pair_of h i)
  second-row i l e =
      let a = leb h i in
      let b = first_half h (i - h) in
      let c = eqb (pair_of h (i - h)) (pair_of h i) in
      let t = at_second (first_half h i) (ltb (i + h) 16 && eqb (pair_of h (i + h)) (pair_of h i)) (a && (b && c)) e (row_at i l) in
      let u = and_right a (b && c) t in
      (leb→le h i (and_left a (b && c) t), is_true b (and_left b c u), eqb→eq (pair_of h (i - h)) (pair_of h i) (and_right b c u))

  needs-at : (m : ℕ) → m ≤ 16 → Is (leb (pairs_for h m) 8 && all (from_needed h m) 16)
  needs-at m l = (all_iff _ 17).0 s.needs m (omega arith)

  pub few-pairs : (m : ℕ) → m ≤ 16 → pairs_for h m ≤ 8
  few-pairs m l = leb→le (pairs_for h m) 8 (and_left (leb (pairs_for h m) 8) (all (from_needed h m) 16) (needs-at m l))

  needed : (m i : ℕ) → m ≤ 16 → i < 16 → Is (need h m i) → Is (ltb (pair_of h i) (pairs_for h m) && (need (2 * h) m i && need (2 * h) m (partner h i)))
  needed m i l k t =
      (imp_iff (need h m i) (ltb (pair_of h i) (pairs_for h m) && (need (2 * h) m i && need (2 * h) m (partner h i)))).0
      ((all_iff (from_needed h m) 16).0 (and_right (leb (pairs_for h m) 8) (all (from_needed h m) 16) (needs-at m l)) i k) t

  module _ (m i : ℕ) (few : m ≤ 16) (inside : i < 16) (t : Is (need h m i)) where
    abbrev a : Bool
    a = ltb (pair_of h i) (pairs_for h m)

    abbrev b : Bool
    b = need (2 * h) m i

    abbrev c : Bool
    c = need (2 * h) m (partner h i)

    pub pair-needed : Is (ltb (pair_of h i) (pairs_for h m))
    pair-needed = and_left a (b && c) (needed m i few inside t)

    pub own-needed : Is (need (2 * h) m i)
    own-needed = and_left b c (and_right a (b && c) (needed m i few inside t))

    partner-needed : Is c
    partner-needed = and_right b c (and_right a (b && c) (needed m i few inside t))

    pub high-needed : first_half h i ≡ true → Is (need (2 * h) m (i + h))
    high-needed e = subst (λ (x : Bool). Is (need (2 * h) m (cond x (i + h) (i - h)))) e partner-needed

    pub low-needed : first_half h i ≡ false → Is (need (2 * h) m (i - h))
    low-needed e = subst (λ (x : Bool). Is (need (2 * h) m (cond x (i + h) (i - h)))) e partner-needed
