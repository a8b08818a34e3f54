-- The first slot of a word.
use Rattle.std.specs.Prelude.{◌≡◌, Bool, true, false, ℕ, ◌+◌, ◌-◌, ◌/◌, ◌%◌, ◌^◌, ◌≤◌, ◌<◌, T as Is, eqb}
use Rattle.std.proofs.Common.{sym, ap, subst, ◌∙◌, arith, eqb→eq}
use Rattle.std.proofs.Math.Option.{none, some}
use Rattle.std.proofs.Math.Decide.{dec_lt}
use Rattle.std.specs.Int.Count.{count_trailing_zeros}
use Rattle.evaluator_words.specs.Bits.{on, on-is, on-above}
use Rattle.evaluator_words.specs.Trailing.{trailing_below, trailing_at}
use Rattle.lists.specs.First.{Found, FirstAt, first_found}
use Rattle.rules.specs.Truth.{slot_bit, SlotSet}
use Rattle.rules.specs.Words.{first_slot}
use Rattle.rules.proofs.Words.{first-slot_exact}

bit-of : (w s : ℕ) → slot_bit w (s + 1) ≡ w / 2 ^ s % 2
bit-of w s = ap (λ (x : ℕ). w / 2 ^ x % 2) (let e : s + 1 - 1 ≡ s = omega arith in e)

bit-set : (w s : ℕ) → on w s ≡ true → SlotSet w (s + 1)
bit-set w s h = (omega arith, bit-of w s ∙ eqb→eq (w / 2 ^ s % 2) 1 (subst Is (sym (sym (on-is w s) ∙ h)) tt))

bit_unset : (w t : ℕ) → on w (t - 1) ≡ false → SlotSet w t → ⊥
bit_unset w t h x = let e : ◌≡◌ {A = Bool} true false = sym (ap (λ (d : ℕ). eqb d 1) x.1) ∙ sym (on-is w (t - 1)) ∙ h in clash e
  where
    clash : true ≡ false → ⊥
    clash z = let y : ◌≡◌ {A = ℕ} 0 1 = cc in omega arith

pub first-at : (w : ℕ) → w < 2 ^ 64 → count_trailing_zeros 64 w < 64 → some (count_trailing_zeros 64 w + 1) ≡ first_slot w
first-at w small h =
    let s = count_trailing_zeros 64 w in
    sym (((first-slot_exact w small).0 (s + 1)).1
    (record { holds = bit-set w s (trailing_at 64 w h); below = λ t l x. bit_unset w t (trailing_below 64 w (t - 1) (omega (arith, x.0))) x }))

pub slot-most : (w t : ℕ) → some t ≡ first_slot w → t ≤ 64
unfolding first_slot
slot-most w t e =
    let found : FirstAt (λ t. eqb (slot_bit w t) 1) 64 1 t = subst (Found (λ t. eqb (slot_bit w t) 1) 64 1) (sym e)
    (first_found (λ t. eqb (slot_bit w t) 1) 64 1) in
    omega (arith, found.within)

pub first-none : (w : ℕ) → w < 2 ^ 64 → 64 ≤ count_trailing_zeros 64 w → none ≡ first_slot w
first-none w h g = sym ((first-slot_exact w h).1.1 (λ t x. bit_unset w t (go (t - 1) (dec_lt (t - 1) 64)) x))
  where
    go : (j : ℕ) → Dec (j < 64) → on w j ≡ false
    go j (yes l) = trailing_below 64 w j (omega arith)
    go j (no l) = on-above 64 w j h (omega arith)
