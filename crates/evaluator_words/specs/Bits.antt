-- The bits of a word, as truths: bit j of w is `on w j`.
use Rattle.std.specs.Prelude.{◌≡◌, refl, Bool, true, false, not, ◌&&◌, ◌||◌}
use Rattle.std.proofs.Common.{sym, ◌∙◌, lt_of_le_of_lt, lt_of_lt_of_le, div-one, pow-suc, mul_assoc, mod-lt, arith, ne_eqb}
use Rattle.std.proofs.Math.Path.{ap}
use Prim.Native.Nat.{ℕ, zero, suc, ◌+◌, ◌-◌, ◌*◌, ◌/◌, ◌%◌, ◌^◌, ◌≤◌, ◌<◌, min, max}
use Rattle.std.proofs.Math.Nat.{div-div-eq-div-mul, pow-succ'}
use Rattle.std.proofs.Math.Dec.{eqb, eqb-suc-suc}
use Rattle.std.proofs.Math.Arith.{digits_div, digits_mod}
use Rattle.std.specs.Int.Bits.{bit_and, bit_or, and_step, or_step}
use lib.Pow.{shr-shr, shl-shr, field, mod-mod-pow, shr_le, ones_lt, pow_mono}
use Rattle.std.proofs.Math.Decide.{dec_lt}
use Rattle.rules.specs.Truth.{slot_bit}
use Rattle.rules.proofs.Words.{same-slots}

-- bit j of w
unfoldable pub on : ℕ → ℕ → Bool
on w zero = eqb (w % 2) 1
on w (suc j) = on (w / 2) j

-- the bit as the division that reads it
pub on-is : (w j : ℕ) → on w j ≡ eqb (w / 2 ^ j % 2) 1
unfolding on
on-is w zero = ap (λ (x : ℕ). eqb (x % 2) 1) (sym (div-one w))
on-is w (suc j) = on-is (w / 2) j ∙ ap (λ (x : ℕ). eqb (x % 2) 1) (div-div-eq-div-mul w 2 (2 ^ j) ∙ ap (λ (x : ℕ). w / x) (sym (pow-succ' 2 j)))

pub on-zero : (j : ℕ) → on 0 j ≡ false
unfolding on
on-zero zero = refl
on-zero (suc j) = on-zero j

-- ---- one digit and the rest

digit_and : (x y : ℕ) → x < 2 → y < 2 → eqb (min x y) 1 ≡ (eqb x 1 && eqb y 1)
digit_and zero zero h g = refl
digit_and zero (suc zero) h g = refl
digit_and (suc zero) zero h g = refl
digit_and (suc zero) (suc zero) h g = refl
digit_and (suc (suc x)) y h g = absurd (omega arith)
digit_and zero (suc (suc y)) h g = absurd (omega arith)
digit_and (suc zero) (suc (suc y)) h g = absurd (omega arith)

digit_or : (x y : ℕ) → x < 2 → y < 2 → eqb (max x y) 1 ≡ (eqb x 1 || eqb y 1)
digit_or zero zero h g = refl
digit_or zero (suc zero) h g = refl
digit_or (suc zero) zero h g = refl
digit_or (suc zero) (suc zero) h g = refl
digit_or (suc (suc x)) y h g = absurd (omega arith)
digit_or zero (suc (suc y)) h g = absurd (omega arith)
digit_or (suc zero) (suc (suc y)) h g = absurd (omega arith)

-- an operation that works digit by digit works bit by bit
module _ (op f : ℕ → ℕ → ℕ) (g : Bool → Bool → Bool)
    (step : (a b : ℕ) → op a b ≡ op (a / 2) (b / 2) * 2 + f (a % 2) (b % 2))
    (small : (x y : ℕ) → x < 2 → y < 2 → f x y < 2)
    (digit : (x y : ℕ) → x < 2 → y < 2 → eqb (f x y) 1 ≡ g (eqb x 1) (eqb y 1)) where
  on_op : (a b j : ℕ) → on (op a b) j ≡ g (on a j) (on b j)
  unfolding on
  on_op a b zero =
      let l : f (a % 2) (b % 2) < 2 = small (a % 2) (b % 2) (omega arith) (omega arith) in
      ap (λ (x : ℕ). eqb (x % 2) 1) (step a b) ∙ ap (λ (x : ℕ). eqb x 1) (digits_mod (op (a / 2) (b / 2)) l) ∙ digit (a % 2) (b % 2) (omega arith) (omega arith)
  on_op a b (suc j) =
      let l : f (a % 2) (b % 2) < 2 = small (a % 2) (b % 2) (omega arith) (omega arith) in
      ap (λ (x : ℕ). on (x / 2) j) (step a b) ∙ ap (λ (x : ℕ). on x j) (digits_div (op (a / 2) (b / 2)) l) ∙ on_op (a / 2) (b / 2) j

min-small : (x y : ℕ) → x < 2 → y < 2 → min x y < 2
min-small x y h g = omega arith

max-small : (x y : ℕ) → x < 2 → y < 2 → max x y < 2
max-small x y h g = omega arith

pub on_and : (a b j : ℕ) → on (bit_and a b) j ≡ (on a j && on b j)
on_and = on_op bit_and min (λ x y. x && y) and_step min-small digit_and

pub on_or : (a b j : ℕ) → on (bit_or a b) j ≡ (on a j || on b j)
on_or = on_op bit_or max (λ x y. x || y) or_step max-small digit_or

-- ---- shifts

pub on_shr : (w k j : ℕ) → on (w / 2 ^ k) j ≡ on w (k + j)
on_shr w k j = on-is (w / 2 ^ k) j ∙ ap (λ (x : ℕ). eqb (x % 2) 1) (shr-shr w k j) ∙ sym (on-is w (k + j))

shl_more : (w k : ℕ) → w * 2 ^ suc k ≡ w * 2 ^ k * 2
shl_more w k = ap (λ (x : ℕ). w * x) (pow-suc 2 k) ∙ sym (mul_assoc w (2 ^ k) 2)

pub on_shl_low : (w k j : ℕ) → j < k → on (w * 2 ^ k) j ≡ false
unfolding on
on_shl_low w zero j h = absurd (omega arith)
on_shl_low w (suc k) zero h = let z : w * 2 ^ suc k % 2 ≡ 0 = omega (arith, shl_more w k) in rw z
on_shl_low w (suc k) (suc j) h = let z : w * 2 ^ suc k / 2 ≡ w * 2 ^ k = omega (arith, shl_more w k) in rw z (on_shl_low w k j (omega arith))

pub on_shl : (w k j : ℕ) → on (w * 2 ^ k) (k + j) ≡ on w j
on_shl w k j = sym (on_shr (w * 2 ^ k) k j) ∙ ap (λ (x : ℕ). on x j) (shl-shr w k)

-- the lowest n bits
pub on-mod : (n w j : ℕ) → j < n → on (w % 2 ^ n) j ≡ on w j
on-mod n w j h =
    let m = n - j - 1 in
    let e : n ≡ m + 1 + j = omega arith in
    on-is (w % 2 ^ n) j
    ∙ ap (λ (x : ℕ). eqb (x % 2) 1) (ap (λ (x : ℕ). w % 2 ^ x / 2 ^ j) e ∙ field w (m + 1) j)
    ∙ ap (λ (x : ℕ). eqb x 1) (mod-mod-pow (w / 2 ^ j) m 1) ∙ sym (on-is w j)

-- shifted to the left within n bits
pub on-left : (n w k j : ℕ) → j < n → k ≤ j → on (w * 2 ^ k % 2 ^ n) j ≡ on w (j - k)
on-left n w k j h l =
    on-mod n (w * 2 ^ k) j h ∙ ap (on (w * 2 ^ k)) (let e : j ≡ k + (j - k) = omega arith in e) ∙ on_shl w k (j - k)

pub on-left-low : (n w k j : ℕ) → j < n → j < k → on (w * 2 ^ k % 2 ^ n) j ≡ false
on-left-low n w k j h l = on-mod n (w * 2 ^ k) j h ∙ on_shl_low w k j l

-- ---- bounds: a word of n bits has no bit above them, and is fixed by them

pub on-above : (n w j : ℕ) → w < 2 ^ n → n ≤ j → on w j ≡ false
unfolding on
on-above zero w j h g = ap (λ (x : ℕ). on x j) (let e : w ≡ 0 = omega arith in e) ∙ on-zero j
on-above (suc n) w zero h g = absurd (omega arith)
on-above (suc n) w (suc j) h g = let e = pow-suc 2 n in on-above n (w / 2) j (omega arith) (omega arith)

pub on-mod-above : (n w j : ℕ) → n ≤ j → on (w % 2 ^ n) j ≡ false
on-mod-above n w j h = on-above n (w % 2 ^ n) j (mod-lt w (lib.Pow.pow_pos n)) h

digit-same : (x y : ℕ) → x < 2 → y < 2 → eqb x 1 ≡ eqb y 1 → x ≡ y
digit-same zero zero h g e = refl
digit-same zero (suc zero) h g e = let z : ◌≡◌ {A = ℕ} 0 1 = cc in absurd (omega arith)
digit-same (suc zero) zero h g e = let z : ◌≡◌ {A = ℕ} 0 1 = cc in absurd (omega arith)
digit-same (suc zero) (suc zero) h g e = refl
digit-same (suc (suc x)) y h g e = absurd (omega arith)
digit-same zero (suc (suc y)) h g e = absurd (omega arith)
digit-same (suc zero) (suc (suc y)) h g e = absurd (omega arith)

pub on_ext : (n a b : ℕ) → a < 2 ^ n → b < 2 ^ n → ((j : ℕ) → j < n → on a j ≡ on b j) → a ≡ b
on_ext n a b h g e = same-slots n a b h g λ t u v. digit-same (slot_bit a t) (slot_bit b t) (mod-lt _ (omega arith)) (mod-lt _ (omega arith))
    (sym (on-is a (t - 1)) ∙ e (t - 1) (omega arith) ∙ on-is b (t - 1))

-- a word of k bits with no bit from n on is below 2 ^ n
on-within : (k n w : ℕ) → w < 2 ^ k → ((j : ℕ) → n ≤ j → on w j ≡ false) → w < 2 ^ n
unfolding on
on-within zero n w h e = let p = lib.Pow.pow_pos n in omega arith
on-within (suc k) zero w h e =
    let s = pow-suc 2 k in
    let low : w % 2 ≡ 0 = digit-same (w % 2) 0 (omega arith) (omega arith) (e 0 (omega arith)) in
    let high : w / 2 < 2 ^ 0 = on-within k 0 (w / 2) (omega arith) (λ j l. e (suc j) (omega arith)) in
    omega arith
on-within (suc k) (suc n) w h e =
    let s = pow-suc 2 k in
    let r = pow-suc 2 n in
    let high : w / 2 < 2 ^ n = on-within k n (w / 2) (omega arith) (λ j l. e (suc j) (omega arith)) in
    omega arith

below-pow : (w : ℕ) → w < 2 ^ w
below-pow zero = omega arith
below-pow (suc w) = let s = pow-suc 2 w in omega (arith, below-pow w)

-- and so is every number
pub on_below : (n w : ℕ) → ((j : ℕ) → n ≤ j → on w j ≡ false) → w < 2 ^ n
on_below n w e = on-within w n w (below-pow w) e

-- ---- the complement within n bits

flip : (x : ℕ) → x < 2 → eqb (1 - x) 1 ≡ not (eqb x 1)
flip zero h = refl
flip (suc zero) h = refl
flip (suc (suc x)) h = absurd (omega arith)

pub on-not : (n w j : ℕ) → w < 2 ^ n → j < n → on (2 ^ n - 1 - w) j ≡ not (on w j)
unfolding on
on-not zero w j h l = absurd (omega arith)
on-not (suc n) w zero h l =
    let s = pow-suc 2 n in
    let m : (2 ^ suc n - 1 - w) % 2 ≡ 1 - w % 2 = omega arith in
    ap (λ (x : ℕ). eqb x 1) m ∙ flip (w % 2) (omega arith)
on-not (suc n) w (suc j) h l =
    let s = pow-suc 2 n in
    let m : (2 ^ suc n - 1 - w) / 2 ≡ 2 ^ n - 1 - w / 2 = omega arith in
    ap (λ (x : ℕ). on x j) m ∙ on-not n (w / 2) j (omega arith) (omega arith)

-- bits 0 to n - 1 set
pub on_ones : (n j : ℕ) → j < n → on (2 ^ n - 1) j ≡ true
on_ones n j h = ap (λ (x : ℕ). on x j) (let e : 2 ^ n - 1 ≡ 2 ^ n - 1 - 0 = omega arith in e) ∙ on-not n 0 j (lib.Pow.pow_pos n) h ∙ ap not (on-zero j)

-- the bits of a that b has not
pub on_without : (n a b j : ℕ) → a < 2 ^ n → b < 2 ^ n → on (bit_and a (2 ^ n - 1 - b)) j ≡ (on a j && not (on b j))
on_without n a b j h g = on_and a (2 ^ n - 1 - b) j ∙ go (dec_lt j n)
  where
    go : Dec (j < n) → (on a j && on (2 ^ n - 1 - b) j) ≡ (on a j && not (on b j))
    go (yes l) = ap (λ (x : Bool). on a j && x) (on-not n b j g l)
    go (no l) = rw (on-above n a j h (omega arith))

-- the lowest t bits of n
pub ones_shr : (n t : ℕ) → t ≤ n → (2 ^ n - 1) / 2 ^ (n - t) ≡ 2 ^ t - 1
ones_shr n t h =
    on_ext n ((2 ^ n - 1) / 2 ^ (n - t)) (2 ^ t - 1)
    (lt_of_le_of_lt (shr_le (2 ^ n - 1) (n - t)) (ones_lt n)) (lt_of_lt_of_le (ones_lt t) (pow_mono h))
    (λ j l. on_shr (2 ^ n - 1) (n - t) j ∙ go j (dec_lt j t))
  where
    go : (j : ℕ) → Dec (j < t) → on (2 ^ n - 1) (n - t + j) ≡ on (2 ^ t - 1) j
    go j (yes l) = on_ones n (n - t + j) (omega arith) ∙ sym (on_ones t j l)
    go j (no l) = on-above n (2 ^ n - 1) (n - t + j) (ones_lt n) (omega arith) ∙ sym (on-above t (2 ^ t - 1) j (ones_lt t) (omega arith))

-- the highest bit
pub on-top : (n w : ℕ) → 2 ^ n ≤ w → w < 2 ^ suc n → on w n ≡ true
on-top n w h g =
    let e = pow-suc 2 n in
    let r : w - 2 ^ n < 2 ^ n = omega arith in
    let z : w / 2 ^ n ≡ 1 = ap (λ (x : ℕ). x / 2 ^ n) (let y : w ≡ 1 * 2 ^ n + (w - 2 ^ n) = omega arith in y) ∙ digits_div 1 r in
    on-is w n ∙ ap (λ (x : ℕ). eqb (x % 2) 1) z

-- one bit
pub on-pow : (s j : ℕ) → on (2 ^ s) j ≡ eqb j s
unfolding on
on-pow zero zero = refl
on-pow zero (suc j) = on-zero j ∙ sym (ne_eqb (suc j) 0 (λ e. omega arith))
on-pow (suc s) zero = let e = pow-suc 2 s in let z : 2 ^ suc s % 2 ≡ 0 = omega arith in rw z (sym (ne_eqb 0 (suc s) (λ e. omega arith)))
on-pow (suc s) (suc j) = let e = pow-suc 2 s in let z : 2 ^ suc s / 2 ≡ 2 ^ s = omega arith in rw z (on-pow s j ∙ sym (eqb-suc-suc j s))
