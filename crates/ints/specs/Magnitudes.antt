-- Bounds on integers by their magnitude, `nat_abs`, so that what a sum or a product needs is linear arithmetic on natural numbers.
use Rattle.std.specs.Prelude.{◌≡◌, refl, Bool, true, false, cond, ℕ, zero, suc, ◌+◌, ◌-◌, ◌*◌, ◌≤◌, ◌<◌, ltb, ℤ, pos, negsuc, neg_ℤ, nat_abs, ◌+ℤ◌, ◌-ℤ◌, ◌*ℤ◌}
use Rattle.std.proofs.Common.{le_refl, le_of_eq, le_trans, mul-le-mul, arith, ltb-true}
use Rattle.std.proofs.Math.IntN.{sub_ℕ, +ℤ_idl}
use Rattle.std.specs.Int.Signed.{lt_z}

abs_cond : (a b : ℕ) (t : Bool) → ltb a b ≡ t → nat_abs (cond t (negsuc (b - suc a)) (pos (a - b))) ≤ a + b
abs_cond a b true e = let h : a < b = ltb-true a b e in omega arith
abs_cond a b false e = omega arith

abs-sub : (a b : ℕ) → nat_abs (sub_ℕ a b) ≤ a + b
abs-sub a b = abs_cond a b (ltb a b) refl

abs-add : (a b : ℤ) → nat_abs (a +ℤ b) ≤ nat_abs a + nat_abs b
abs-add (pos a) (pos b) = le_refl (a + b)
abs-add (pos a) (negsuc b) = abs-sub a (suc b)
abs-add (negsuc a) (pos b) = let h = abs-sub b (suc a) in omega arith
abs-add (negsuc a) (negsuc b) = omega arith

abs_neg : (z : ℤ) → nat_abs (neg_ℤ z) ≡ nat_abs z
abs_neg (pos zero) = refl
abs_neg (pos (suc n)) = refl
abs_neg (negsuc n) = refl

abs-mul : (a b : ℤ) → nat_abs (a *ℤ b) ≡ nat_abs a * nat_abs b
abs-mul (pos a) (pos b) = refl
abs-mul (pos a) (negsuc b) = abs_neg (pos (a * suc b))
abs-mul (negsuc a) (pos b) = abs_neg (pos (suc a * b))
abs-mul (negsuc a) (negsuc b) = refl

pub mul_magnitude : (a b : ℤ) {m n : ℕ} → nat_abs a ≤ m → nat_abs b ≤ n → nat_abs (a *ℤ b) ≤ m * n
mul_magnitude a b p q = le_trans (le_of_eq (abs-mul a b)) (mul-le-mul p q)

pub sum_magnitude : (a b : ℤ) {m n : ℕ} → nat_abs a ≤ m → nat_abs b ≤ n → nat_abs (a +ℤ b) ≤ m + n
sum_magnitude a b p q = let h = abs-add a b in omega arith

pub difference_magnitude : (a b : ℤ) {m n : ℕ} → nat_abs a ≤ m → nat_abs b ≤ n → nat_abs (a -ℤ b) ≤ m + n
difference_magnitude a b p q = let h = abs-add a (neg_ℤ b) in let e = abs_neg b in omega arith

-- below 0, a number's magnitude is what it is less than 0
pub magnitude_below : (d : ℤ) → lt_z d (pos 0) ≡ true → pos 0 -ℤ d ≡ pos (nat_abs d)
magnitude_below (pos n) e = absurd (let h = ltb-true n 0 e in omega arith)
magnitude_below (negsuc n) e = +ℤ_idl (pos (suc n))

pub magnitude_above : (d : ℤ) → lt_z d (pos 0) ≡ false → d ≡ pos (nat_abs d)
magnitude_above (pos n) e = refl
magnitude_above (negsuc n) e = let z : ◌≡◌ {A = ℕ} 0 1 = cc in absurd (omega arith)
