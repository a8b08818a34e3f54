-- The numbers of a run in blocks of w slots and atoms: the number of slot s stands in word s % w, from bit w·(s / w) on.
use Rattle.std.specs.Prelude.{◌≡◌, Bool, false, ◌&&◌, ◌||◌, List, ℕ, ◌+◌, ◌-◌, ◌*◌, ◌/◌, ◌%◌, ◌^◌, ◌≤◌, ◌<◌, min, ltb, length, get_or, set}
use Rattle.std.proofs.Common.{sym, ap, ap₂, subst, ◌∙◌, mod-lt, lt_of_lt_of_le, arith, lt-ltb, le-ltb, pow_pos, pow_mono, length-set, get_or-set_same, get_or-set_other}
use Rattle.std.proofs.Math.Bool.{or-false}
use Rattle.std.proofs.Math.Decide.{dec_lt, ℕ_discrete}
use Rattle.std.specs.Int.Bits.{bit_or}
use Rattle.std.proofs.lemmas.Nat.{or_lt}
use Rattle.evaluator_words.specs.Bits.{on, on-zero, on-above, on_or, on_shl, on_shl_low, on-mod}
use Rattle.evaluator_atoms.specs.Turning.{Turned, slot_at, atom_at}

-- the bit of slot s and atom a, where the first t slots are taken
abbrev pub taken : (run : List ℕ) (t : ℕ) → (s a : ℕ) → Bool
taken run t s a = ltb s t && on (get_or run s 0) a

-- ---- what is so for the three widths

pub record Width (w : ℕ) : Type 0 where
  pub some_width : 1 ≤ w
  pub small_width : w ≤ 16
  pub own-slot : (s j : ℕ) → j / w ≡ s / w → slot_at w (s % w) j ≡ s
  pub own-atom : (s j : ℕ) → atom_at w (s % w) j ≡ j % w
  pub own-bit : (s j : ℕ) → j / w ≡ s / w → j ≡ w * (s / w) + j % w
  pub above : (s j : ℕ) → (j / w ≡ s / w → ⊥) → w * (s / w) ≤ j → w ≤ j - w * (s / w)
  pub one_block : (s j : ℕ) → slot_at w (s % w) j ≡ s → j / w ≡ s / w
  pub one_word : (s i j : ℕ) → i < w → slot_at w i j ≡ s → i ≡ s % w
  pub first-slot : (p : ℕ) → p % w ≡ 0 → (i : ℕ) → i < w → ((p + i) % w ≡ i) × (w * ((p + i) / w) ≡ p)
  pub begin : 0 % w ≡ 0
  pub next-block : (p : ℕ) → p % w ≡ 0 → (p + w) % w ≡ 0
  pub first_block : (m i : ℕ) → m ≤ w → w * (i / w) < m → i < w

pub width_4 : Width 4
width_4 = record {
  some_width = omega arith;
  small_width = omega arith;
  own-slot = λ s j e. omega arith;
  own-atom = λ s j. omega arith;
  own-bit = λ s j e. omega arith;
  above = λ s j e h. omega (arith, e);
  one_block = λ s j e. omega arith;
  one_word = λ s i j l e. omega arith;
  first-slot = λ p e i l. (omega arith, omega arith);
  begin = omega arith;
  next-block = λ p e. omega arith;
  first_block = λ m i h l. omega arith;
}

pub width_8 : Width 8
width_8 = record {
  some_width = omega arith;
  small_width = omega arith;
  own-slot = λ s j e. omega arith;
  own-atom = λ s j. omega arith;
  own-bit = λ s j e. omega arith;
  above = λ s j e h. omega (arith, e);
  one_block = λ s j e. omega arith;
  one_word = λ s i j l e. omega arith;
  first-slot = λ p e i l. (omega arith, omega arith);
  begin = omega arith;
  next-block = λ p e. omega arith;
  first_block = λ m i h l. omega arith;
}

pub width_16 : Width 16
width_16 = record {
  some_width = omega arith;
  small_width = omega arith;
  own-slot = λ s j e. omega arith;
  own-atom = λ s j. omega arith;
  own-bit = λ s j e. omega arith;
  above = λ s j e h. omega (arith, e);
  one_block = λ s j e. omega arith;
  one_word = λ s i j l e. omega arith;
  first-slot = λ p e i l. (omega arith, omega arith);
  begin = omega arith;
  next-block = λ p e. omega arith;
  first_block = λ m i h l. omega arith;
}

-- the numbers of the first t slots have no bit from m on
abbrev pub Below : (m t : ℕ) (run : List ℕ) → Type 0
Below m t run = (s : ℕ) → s < t → get_or run s 0 < 2 ^ m

pub below_more : (m w t : ℕ) (run : List ℕ) → m ≤ w → Below m t run → Below w t run
below_more m w t run h b s l = lt_of_lt_of_le (b s l) (pow_mono h)

-- a block of w slots, or what is left of one, begins at slot p
abbrev pub Laid : (w : ℕ) (run : List ℕ) (p count : ℕ) → Type 0
Laid w run p count = Width w × (p % w ≡ 0) × (count ≤ w) × Below w (p + count) run

-- ---- the first s numbers are packed

pub record Packed (w : ℕ) (run : List ℕ) (s : ℕ) (c : List ℕ) : Type 0 where
  pub long : length c ≡ 16
  pub at : (i : ℕ) → i < w → Turned (taken run s) w i (get_or c i 0)

-- a block as it is made
abbrev pub Blank : List ℕ → Type 0
Blank c = (length c ≡ 16) × ((i : ℕ) → i < 16 → get_or c i 0 ≡ 0)

pub packed_none : (w : ℕ) → Width w → (run : List ℕ) (t : ℕ) (c : List ℕ) → Blank c → Packed w run (min 0 t) c
packed_none w wide run t c blank = record {
  long = blank.0;
  at = λ i l.
      let z = blank.1 i (omega (arith, wide.small_width)) in (
        omega (arith, z),
        λ j k.
            ap (λ (x : ℕ). on x j) z ∙ on-zero j
            ∙ sym (ap (λ (b : Bool). b && on (get_or run (slot_at w i j) 0) (atom_at w i j)) (le-ltb (slot_at w i j) (min 0 t) (omega arith))),
      );
}

-- another slot does not matter
other : (run : List ℕ) (s k a : ℕ) → (k ≡ s → ⊥) → taken run s k a ≡ taken run (s + 1) k a
other run s k a h = ap (λ (b : Bool). b && on (get_or run k 0) a) (go (dec_lt k s))
  where
    go : Dec (k < s) → ltb k s ≡ ltb k (s + 1)
    go (yes l) = lt-ltb k s l ∙ sym (lt-ltb k (s + 1) (omega arith))
    go (no l) = le-ltb k s (omega arith) ∙ sym (le-ltb k (s + 1) (omega arith))

-- slot s stands in word i, from bit p on
module _ (w : ℕ) (wide : Width w) (run c : List ℕ) (s i p x v : ℕ) (in-word : s % w ≡ i) (from-bit : w * (s / w) ≡ p) (inside : i < w)
    (packed : Packed w run s c) (is_number : x ≡ get_or run s 0) (small : x < 2 ^ w) (is_word_fact : v ≡ bit_or (get_or c i 0) (x * 2 ^ p % 2 ^ 64)) where
  -- the number's own bits
  number_bit : (j : ℕ) → j < 64 → j / w ≡ s / w → on (x * 2 ^ p % 2 ^ 64) j ≡ on x (j % w)
  number_bit j l e =
      on-mod 64 (x * 2 ^ p) j l ∙ ap (on (x * 2 ^ p)) (wide.own-bit s j e ∙ ap (λ (k : ℕ). k + j % w) from-bit) ∙ on_shl x p (j % w)

  no_bit : (j : ℕ) → j < 64 → (j / w ≡ s / w → ⊥) → on (x * 2 ^ p % 2 ^ 64) j ≡ false
  no_bit j l e = on-mod 64 (x * 2 ^ p) j l ∙ go (dec_lt j p)
    where
      go : Dec (j < p) → on (x * 2 ^ p) j ≡ false
      go (yes g) = on_shl_low x p j g
      go (no g) =
          let k : w ≤ j - p = omega (arith, wide.above s j e (omega (arith, from-bit)), from-bit) in
          ap (on (x * 2 ^ p)) (let z : j ≡ p + (j - p) = omega arith in z) ∙ on_shl x p (j - p) ∙ on-above w x (j - p) small k

  own-slot-is : (j : ℕ) → j / w ≡ s / w → slot_at w i j ≡ s
  own-slot-is j e = ap (λ (k : ℕ). slot_at w k j) (sym in-word) ∙ wide.own-slot s j e

  own-atom-is : (j : ℕ) → atom_at w i j ≡ j % w
  own-atom-is j = ap (λ (k : ℕ). atom_at w k j) (sym in-word) ∙ wide.own-atom s j

  own : (j : ℕ) → j < 64 → Dec (j / w ≡ s / w) → (on (get_or c i 0) j || on (x * 2 ^ p % 2 ^ 64) j) ≡ taken run (s + 1) (slot_at w i j) (atom_at w i j)
  own j l (yes e) =
      let slot = own-slot-is j e in
      let old : on (get_or c i 0) j ≡ false =
      (packed.at i inside).1 j l ∙ ap (λ (b : Bool). b && on (get_or run (slot_at w i j) 0) (atom_at w i j)) (le-ltb (slot_at w i j) s (omega (arith, slot))) in
      let new : taken run (s + 1) (slot_at w i j) (atom_at w i j) ≡ on x (j % w) =
      ap₂ (λ (k a : ℕ). taken run (s + 1) k a) slot (own-atom-is j)
      ∙ ap₂ (λ (b : Bool) (y : ℕ). b && on y (j % w)) (lt-ltb s (s + 1) (omega arith)) (sym is_number) in
      ap₂ (λ (a b : Bool). a || b) old (number_bit j l e) ∙ sym new
  own j l (no e) =
      ap₂ (λ (a b : Bool). a || b) ((packed.at i inside).1 j l) (no_bit j l e) ∙ or-false (taken run s (slot_at w i j) (atom_at w i j))
      ∙ other run s (slot_at w i j) (atom_at w i j) (λ z. e (wide.one_block s j (ap (λ (k : ℕ). slot_at w k j) in-word ∙ z)))

  packed_one : Packed w run (s + 1) (set c i v)
  packed_one = record {
    long = length-set c i v ∙ packed.long;
    at = λ r l. pick r l (ℕ_discrete r i);
  }
    where
      pick : (r : ℕ) → r < w → Dec (r ≡ i) → Turned (taken run (s + 1)) w r (get_or (set c i v) r 0)
      pick r l (yes e) =
          let z : get_or (set c i v) r 0 ≡ v = ap (λ (y : ℕ). get_or (set c i v) y 0) e ∙ get_or-set_same c i v 0 (omega (arith, packed.long, wide.small_width)) in
          rw (z ∙ is_word_fact) (
            or_lt 64 (get_or c i 0) (x * 2 ^ p % 2 ^ 64) (packed.at i inside).0 (mod-lt (x * 2 ^ p) (pow_pos 64)),
            λ j k.
                on_or (get_or c i 0) (x * 2 ^ p % 2 ^ 64) j ∙ own j k (ℕ_discrete (j / w) (s / w))
                ∙ ap (λ (y : ℕ). taken run (s + 1) (slot_at w y j) (atom_at w y j)) (sym e),
          )
      pick r l (no e) =
          rw (get_or-set_other c i r v 0 e) (
            (packed.at r l).0,
            λ j k. (packed.at r l).1 j k ∙ other run s (slot_at w r j) (atom_at w r j) (λ z. e (wide.one_word s r j l z ∙ in-word)),
          )

-- one slot of a block more
pub packed_more : (w : ℕ) (run c : List ℕ) (p count i x v : ℕ) → Laid w run p count → i < count → Packed w run (p + i) c → x ≡ get_or run (p + i) 0 →
    v ≡ bit_or (get_or c i 0) (x * 2 ^ p % 2 ^ 64) → Packed w run (p + (i + 1)) (set c i v)
packed_more w run c p count i x v (wide, start, few, small) l packed is_number is_word_fact =
    let f = wide.first-slot p start i (omega arith) in
    let below : x < 2 ^ w = rw is_number (small (p + i) (omega arith)) in
    subst (λ (k : ℕ). Packed w run k (set c i v)) (let z : p + i + 1 ≡ p + (i + 1) = omega arith in z)
    (packed_one w wide run c (p + i) i p x v f.0 f.1 (omega arith) packed is_number below is_word_fact)
