-- Slots that come round: a word over and over, and the truth some slots later. Slots count from 0, L from 1.
use Rattle.std.specs.Prelude.{◌≡◌, Bool, false, ◌||◌, ℕ, ◌+◌, ◌-◌, ◌*◌, ◌/◌, ◌%◌, ◌^◌, ◌≤◌, ◌<◌}
use Rattle.std.proofs.Common.{sym, ap, ap₂, ◌∙◌, arith}
use Rattle.std.proofs.Math.Bool.{or-false}
use Rattle.std.proofs.Math.Decide.{dec_lt}
use Rattle.std.specs.Int.Bits.{bit_or}
use Rattle.rules.specs.Quantities.{LoopAllowed}
use Rattle.rules.specs.Truth.{slot_of}
use Rattle.rules.proofs.Slots.{slot_is, slot-past}
use Rattle.evaluator_words.specs.Bits.{on, on-above, on_below, on-left, on-left-low, on-mod-above, on_or, on_shr}
use Rattle.evaluator_words.specs.Words.{Word, later_at}

-- the first d truths of f are the bits of w, and come again and again
pub record Round (d : ℕ) (f : ℕ → Bool) (w : ℕ) : Type 0 where
  pub at : (i : ℕ) → i < d → on w i ≡ f i
  pub again : (i : ℕ) → f (d + i) ≡ f i

-- n of them, as far as a word of 64 bits has them
pub record Repeated (d w n x : ℕ) : Type 0 where
  pub at : (f : ℕ → Bool) → Round d f w → (i : ℕ) → i < n → i < 64 → on x i ≡ f i
  pub again : (f : ℕ → Bool) → Round d f w → (i : ℕ) → f (n + i) ≡ f i
  pub above : (i : ℕ) → n ≤ i → on x i ≡ false

pub repeated_once : (d w : ℕ) → w < 2 ^ d → Repeated d w d w
repeated_once d w h = record { at = λ f r i l u. r.at i l; again = λ f r i. r.again i; above = λ i l. on-above d w i h l }

pub repeated_twice : (d w n x : ℕ) → Repeated d w n x → Repeated d w (n + n) (bit_or x (x * 2 ^ n % 2 ^ 64))
repeated_twice d w n x r = record {
  at = λ f c i l u. on_or x y i ∙ (go f c i l u (dec_lt i n));
  again = λ f c i. ap f (let e : n + n + i ≡ n + (n + i) = omega arith in e) ∙ r.again f c (n + i) ∙ r.again f c i;
  above = λ i l. on_or x y i ∙ ap₂ (λ (a b : Bool). a || b) (r.above i (omega arith)) (over i l (dec_lt i 64));
}
  where
    y : ℕ
    y = x * 2 ^ n % 2 ^ 64

    go : (f : ℕ → Bool) → Round d f w → (i : ℕ) → i < n + n → i < 64 → Dec (i < n) → (on x i || on y i) ≡ f i
    go f c i l u (yes h) = ap₂ (λ (a b : Bool). a || b) (r.at f c i h u) (on-left-low 64 x n i u h) ∙ or-false (f i)
    go f c i l u (no h) =
        ap₂ (λ (a b : Bool). a || b) (r.above i (omega arith)) (on-left 64 x n i u (omega arith) ∙ r.at f c (i - n) (omega arith) (omega arith))
        ∙ sym (r.again f c (i - n)) ∙ ap f (let e : n + (i - n) ≡ i = omega arith in e)

    over : (i : ℕ) → n + n ≤ i → Dec (i < 64) → on y i ≡ false
    over i l (yes u) = on-left 64 x n i u (omega arith) ∙ r.above (i - n) (omega arith)
    over i l (no u) = on-mod-above 64 (x * 2 ^ n) i (omega arith)

-- ---- the slots from L on: from p's bits there, p at the times after the last slot

module _ (T L p : ℕ) (loop : LoopAllowed T L) (high : T ≤ 64) (small : p < 2 ^ T) where
  -- the time i after the last slot
  abbrev past : ℕ → Bool
  past i = on p (slot_of T L (L + i) - 1)

  pub past-round : Round (T - L + 1) past (p / 2 ^ (L - 1))
  past-round = record {
    at = λ i l.
        let e : L - 1 + i ≡ L + i - 1 = omega (arith, loop) in
        on_shr p (L - 1) i ∙ ap (on p) (e ∙ ap (λ (s : ℕ). s - 1) (sym (slot_is T L loop (L + i) (omega (arith, loop)))));
    again = λ i.
        let e : L + (T - L + 1 + i) ≡ T + 1 + i = omega (arith, loop) in
        ap (λ (s : ℕ). on p (s - 1)) (ap (slot_of T L) e ∙ slot-past T L loop i);
  }

  pub past-small : p / 2 ^ (L - 1) < 2 ^ (T - L + 1)
  past-small = on_below (T - L + 1) (p / 2 ^ (L - 1)) (λ j l. on_shr p (L - 1) j ∙ on-above T p (L - 1 + j) small (omega (arith, loop)))

  module _ (a again : ℕ) (few : a < 64) (over : (i : ℕ) → i < 64 → on again i ≡ past i) where
    -- the times after the last slot, each a slots earlier
    abbrev far : ℕ
    far = again * 2 ^ 1 % 2 ^ 64 * 2 ^ (63 - a) % 2 ^ 64 / 2 ^ (64 - T)

    far-low : (j : ℕ) → j < T → j + a < T → on far j ≡ false
    far-low j l h = on_shr _ (64 - T) j ∙ go (dec_lt (64 - T + j) (63 - a))
      where
        go : Dec (64 - T + j < 63 - a) → on (again * 2 ^ 1 % 2 ^ 64 * 2 ^ (63 - a) % 2 ^ 64) (64 - T + j) ≡ false
        go (yes u) = on-left-low 64 (again * 2 ^ 1 % 2 ^ 64) (63 - a) (64 - T + j) (omega arith) u
        go (no u) =
            on-left 64 (again * 2 ^ 1 % 2 ^ 64) (63 - a) (64 - T + j) (omega arith) (omega arith)
            ∙ on-left-low 64 again 1 (64 - T + j - (63 - a)) (omega arith) (omega arith)

    far-high : (j : ℕ) → j < T → T ≤ j + a → on far j ≡ past (j + a - T)
    far-high j l h =
        on_shr _ (64 - T) j ∙ on-left 64 (again * 2 ^ 1 % 2 ^ 64) (63 - a) (64 - T + j) (omega arith) (omega arith)
        ∙ on-left 64 again 1 (64 - T + j - (63 - a)) (omega arith) (omega arith)
        ∙ ap (on again) (let e : 64 - T + j - (63 - a) - 1 ≡ j + a - T = omega arith in e) ∙ over (j + a - T) (omega arith)

    pub word-later : Word T (later_at T L a (on p)) (bit_or (p / 2 ^ a) far)
    word-later = record {
      at = λ j l. on_or (p / 2 ^ a) far j ∙ ap (λ (b : Bool). b || on far j) (on_shr p a j) ∙ go j l (dec_lt (j + a) T);
      small = on_below T (bit_or (p / 2 ^ a) far) (λ j l.
          on_or (p / 2 ^ a) far j
          ∙ ap₂ (λ (x y : Bool). x || y) (on_shr p a j ∙ on-above T p (a + j) small (omega arith))
          (on_shr _ (64 - T) j ∙ on-mod-above 64 _ (64 - T + j) (omega arith)));
    }
      where
        go : (j : ℕ) → j < T → Dec (j + a < T) → (on p (a + j) || on far j) ≡ later_at T L a (on p) j
        go j l (yes h) =
            let e : a + j ≡ j + a + 1 - 1 = omega arith in
            ap (λ (b : Bool). on p (a + j) || b) (far-low j l h) ∙ or-false (on p (a + j))
            ∙ ap (on p) (e ∙ ap (λ (s : ℕ). s - 1) (sym (slot_is T L loop (j + a + 1) (omega arith))))
        go j l (no h) =
            let e : T + 1 + (j + a - T) ≡ j + a + 1 = omega arith in
            ap₂ (λ (x y : Bool). x || y) (on-above T p (a + j) small (omega arith)) (far-high j l (omega arith))
            ∙ ap (λ (s : ℕ). on p (s - 1)) (sym (slot-past T L loop (j + a - T)) ∙ ap (slot_of T L) e)
