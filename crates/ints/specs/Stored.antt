-- Signed numbers as code stores them: what fits a width, and what is read back.
use Rattle.std.specs.Prelude.{◌≡◌, ℕ, ◌+◌, ◌^◌, ◌≤◌, ◌<◌, T, leb, ℤ, pos, negsuc, nat_abs, ◌+ℤ◌}
use Rattle.std.proofs.Common.{ap₂, ◌∙◌, le_refl, arith, to_z-of_z}
use Rattle.std.proofs.Math.Path.{subst⁻¹}
use Rattle.std.specs.Int.Signed.{mag, non_neg, nat_abs-le}
use Rattle.std.specs.Int.{Width, w64}
use mir.Val.{Fits, SFits, hbits, to_z, of_z}
use Rattle.std.proofs.Math.Facts.{sfits_widen}

mag_abs : (z : ℤ) → mag z ≤ nat_abs z
mag_abs (pos n) = le_refl n
mag_abs (negsuc n) = omega arith

pub sfits_abs : {w : Width} (z : ℤ) → nat_abs z < 2 ^ hbits w → SFits w z
sfits_abs z h = let m = mag_abs z in record { sfits = omega arith }

pub abs_sfits : {w : Width} {z : ℤ} → SFits w z → nat_abs z ≤ 2 ^ hbits w
abs_sfits {z = z} f = nat_abs-le z f.sfits

-- the result of an operation whose operands are known by an equation
pub sfits_by : {w : Width} {z t : ℤ} → z ≡ t → nat_abs t < 2 ^ hbits w → SFits w z
sfits_by {w} {t = t} e h = subst⁻¹ (SFits w) e (sfits_abs t h)

-- an element of a slice, read and passed on: h is what the slice's rule gives
pub told_back : (w : Width) (z : ℤ) → mag z < 2 ^ hbits w → to_z w (of_z w z) ≡ z
told_back w z h = to_z-of_z (record { sfits = h })

-- a cast to a wider type, `cast_fits tt f`, and what is read back after it
pub cast_fits : {w w' : Width} {z : ℤ} → T (leb (hbits w) (hbits w')) → SFits w z → SFits w' (to_z w (of_z w z))
cast_fits {w' = w'} t f = subst⁻¹ (SFits w') (to_z-of_z f) (sfits_widen t f)

pub cast_back : {w : Width} (w' : Width) {z : ℤ} → T (leb (hbits w) (hbits w')) → SFits w z → to_z w' (of_z w' (to_z w (of_z w z))) ≡ z
cast_back w' t f = to_z-of_z (cast_fits t f) ∙ to_z-of_z f

-- a bound that is well inside 64 bits
abbrev pub inside : ℕ
inside = 2 ^ 40

-- numbers within it: read back, and so their sum
pub back : (z : ℤ) → nat_abs z ≤ inside → to_z w64 (of_z w64 z) ≡ z
back z h =
    let f : SFits w64 z = sfits_abs z (omega arith) in
    to_z-of_z f

pub small-back : (z : ℤ) → nat_abs z ≤ inside → nat_abs (to_z w64 (of_z w64 z)) ≤ inside
small-back z h = subst⁻¹ (λ (x : ℤ). nat_abs x ≤ inside) (back z h) h

-- a result that is known by an equation and a bound
pub kept : {z t : ℤ} → (z ≡ t) × (nat_abs z ≤ inside) → to_z w64 (of_z w64 z) ≡ t
kept {z} p = back z p.1 ∙ p.0

pub sum_back : (a b : ℤ) → nat_abs a ≤ inside → nat_abs b ≤ inside → to_z w64 (of_z w64 a) +ℤ to_z w64 (of_z w64 b) ≡ a +ℤ b
sum_back a b h g = ap₂ ◌+ℤ◌ (back a h) (back b g)

-- a cast of a number that is not below 0 to an unsigned type
pub cast_whole : {z : ℤ} {n : ℕ} → z ≡ pos n → n ≤ inside → T (non_neg z) × Fits w64 (nat_abs z)
cast_whole {n = n} e h = subst⁻¹ (λ (x : ℤ). T (non_neg x) × Fits w64 (nat_abs x)) e (tt, record { fits = omega arith })
