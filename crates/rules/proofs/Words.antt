-- Truth words of request N5, computed: a word from its bits, its bits from the word, and its first set bit.
use Rattle.rules.specs.Words.{first_slot, word_from, word_of}
use Rattle.std.specs.Prelude.{◌≡◌, refl, Bool, true, false, ◌↔◌, ℕ, zero, suc, ◌+◌, ◌-◌, ◌*◌, ◌/◌, ◌%◌, ◌^◌, ◌≤◌, ◌<◌, T as Is, eqb}
use Rattle.std.proofs.Common.{sym, ap, ◌∙◌, div-one, lt_of_lt_of_le, arith, eqb→eq, pow_mono}
use Rattle.std.proofs.Math.Option.{Option, none, some}
use Rattle.std.proofs.Math.Nat.{div-div-eq-div-mul, pow-succ', div-eq_of_lt}
use Rattle.std.proofs.Math.Decide.{dec_lt}
use Rattle.lists.specs.First.{Found, first_found}
use Rattle.rules.specs.Truth.{slot_bit, SlotSet}
use Rattle.rules.specs.Judge.{Lowest, None}
use Rattle.rules.specs.Demands.{FirstSlotExact}
use Rattle.rules.specs.Evaluation.{bit_of}

-- ---- bits

bit-low : (b : Bool) → bit_of b < 2
bit-low true = omega arith
bit-low false = omega arith

pub first_bit : (w : ℕ) → w / 2 ^ 0 % 2 ≡ w % 2
first_bit w = ap (λ (x : ℕ). x % 2) (div-one w)

pub later-bit : (w i : ℕ) → w / 2 ^ suc i % 2 ≡ w / 2 / 2 ^ i % 2
later-bit w i = ap (λ (x : ℕ). x % 2) (ap (λ (x : ℕ). w / x) (pow-succ' 2 i) ∙ sym (div-div-eq-div-mul w 2 (2 ^ i)))

pub word_low : (f : ℕ → Bool) (k t : ℕ) → word_from f k t < 2 ^ k
unfolding word_from
word_low f zero t = omega arith
word_low f (suc k) t = omega (arith, bit-low (f t), word_low f k (t + 1), pow-succ' 2 k)

pub word-bit : (f : ℕ → Bool) (k t i : ℕ) → i < k → word_from f k t / 2 ^ i % 2 ≡ bit_of (f (t + i))
unfolding word_from
word-bit f zero t i h = absurd (omega arith)
word-bit f (suc k) t zero h =
    let low : (bit_of (f t) + 2 * word_from f k (t + 1)) % 2 ≡ bit_of (f t) = omega (arith, bit-low (f t)) in
    let here : t ≡ t + 0 = omega arith in
    first_bit (bit_of (f t) + 2 * word_from f k (t + 1)) ∙ low ∙ ap (λ (j : ℕ). bit_of (f j)) here
word-bit f (suc k) t (suc i) h =
    let rest : (bit_of (f t) + 2 * word_from f k (t + 1)) / 2 ≡ word_from f k (t + 1) = omega (arith, bit-low (f t)) in
    let next : t + 1 + i ≡ t + suc i = omega arith in
    later-bit (bit_of (f t) + 2 * word_from f k (t + 1)) i ∙ ap (λ (x : ℕ). x / 2 ^ i % 2) rest ∙ word-bit f k (t + 1) i (omega arith) ∙ ap
    (λ (j : ℕ). bit_of (f j)) next

pub word-slot : (f : ℕ → Bool) (T t : ℕ) → 1 ≤ t → t ≤ T → slot_bit (word_of f T) t ≡ bit_of (f t)
word-slot f T t l u = word-bit f T 1 (t - 1) (omega arith) ∙ ap (λ (j : ℕ). bit_of (f j)) (omega arith)

-- "zeros above"
pub word-above : (f : ℕ → Bool) (T : ℕ) → word_of f T < 2 ^ T
word-above f T = word_low f T 1

-- words below 2 to the power k with equal bits are equal
same_bits : (k a b : ℕ) → a < 2 ^ k → b < 2 ^ k → ((i : ℕ) → i < k → a / 2 ^ i % 2 ≡ b / 2 ^ i % 2) → a ≡ b
same_bits zero a b u v h = omega arith
same_bits (suc k) a b u v h =
    let low : a % 2 ≡ b % 2 = sym (first_bit a) ∙ h 0 (omega arith) ∙ first_bit b in
    let high : a / 2 ≡ b / 2 =
    same_bits k (a / 2) (b / 2) (omega (arith, pow-succ' 2 k)) (omega (arith, pow-succ' 2 k))
    (λ i l. sym (later-bit a i) ∙ h (suc i) (omega arith) ∙ later-bit b i) in
    omega arith

pub same-slots : (T a b : ℕ) → a < 2 ^ T → b < 2 ^ T → ((t : ℕ) → 1 ≤ t → t ≤ T → slot_bit a t ≡ slot_bit b t) → a ≡ b
same-slots T a b u v h = same_bits T a b u v (λ i l. let e : suc i - 1 ≡ i = omega arith in rw e at (h (suc i) (omega arith) (omega arith)))

module _ (word : ℕ) (small : word < 2 ^ 64) where
  abbrev test : ℕ → Bool
  test t = eqb (slot_bit word t) 1

  -- a set bit is one of the 64
  set-within : (t : ℕ) → SlotSet word t → t ≤ 64
  set-within t h = go (dec_lt t 65)
    where
      go : Dec (t < 65) → t ≤ 64
      go (yes l) = omega arith
      go (no l) =
          let none_left : word / 2 ^ (t - 1) ≡ 0 = div-eq_of_lt (lt_of_lt_of_le small (pow_mono {i = 64} {j = t - 1} (omega arith))) in
          absurd (omega (arith, h.1))

  abbrev Search : Option ℕ → Type 0
  Search none = None (SlotSet word)
  Search (some t) = Lowest (SlotSet word) t

  is_set : (t : ℕ) → SlotSet word t → Is (test t)
  is_set t h = rw h.1 tt

  searched : (o : Option ℕ) → Found test 64 1 o → Search o
  searched none h = λ t x. h t x.0 (omega (arith, set-within t x)) (is_set t x)
  searched (some t) h =
      record { holds = (h.above, eqb→eq (slot_bit word t) 1 h.passes); below = λ k l x. h.earlier k x.0 l (is_set k x) }

  found-one : (o : Option ℕ) → Search o → ((t : ℕ) → (o ≡ some t) ↔ Lowest (SlotSet word) t) × ((o ≡ none) ↔ None (SlotSet word))
  found-one none s = (
    λ t. (λ e. let z : ◌≡◌ {A = ℕ} 0 1 = cc in absurd (omega arith), λ h. absurd (s t h.holds)),
    (λ e. s, λ h. refl),
  )
  found-one (some k) s = (
    λ t. (λ e. let z : k ≡ t = cc in rw (← z) s, λ h. ap (λ (i : ℕ). some i) (go t h (dec_lt k t) (dec_lt t k))),
    (λ e. let z : ◌≡◌ {A = ℕ} 0 1 = cc in absurd (omega arith), λ h. absurd (h k s.holds)),
  )
    where
      go : (t : ℕ) → Lowest (SlotSet word) t → Dec (k < t) → Dec (t < k) → k ≡ t
      go t h (yes l) d = absurd (h.below k l s.holds)
      go t h (no l) (yes u) = absurd (s.below t u h.holds)
      go t h (no l) (no u) = omega arith

pub first-slot_exact : FirstSlotExact first_slot
unfolding first_slot
first-slot_exact word small = found-one word small (first_slot word) (searched word small (first_slot word) (first_found (λ t. eqb (slot_bit word t) 1) 64 1))
