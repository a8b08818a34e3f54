-- `judge_sums::triple` meets its contract. Two passes, each through the products of the three terms. Assumes nothing.
use mathlib.Core.Path.{◌≡◌, refl, ap, ◌∙◌, subst⁻¹}
use mathlib.Core.Bool.{not}
use mathlib.Core.List.{[], ◌∷◌}
use Prim.Native.Nat.{◌≤◌}
use native.Mathlib.Omega.{arith}
use borrow.Author.Rules.{rules}
use lib.IntN.{ℤ, pos, nat_abs, ◌*ℤ◌}
use lib.Signed.{lt_z}
use mir.Syntax.{w8, w32, w64}
use mir.Val.{SFits, to_z, of_z}
use mir.Facts.{to_z-of_z}
use Rattle.ints.specs.Magnitudes.{mul_magnitude}
use Rattle.ints.specs.Stored.{abs_sfits}
use Rattle.rules.specs.RowSum.{RowSum, row_sum}
use Rattle.rules.proofs.RowSumLaws.{sums_equal, whole_is}
use Rattle.millionths.specs.Bounds as Bounds
use Rattle.judge_sums.specs.Sums.{term, passed-same, triple-size}
use Rattle.judge_sums.proofs.triple.Goals as goal

-- the products, as they are passed on
first-is : (c : goal.After-pass-whole) → to_z w64 (of_z w64 c.product-a.result) ≡ c.args.j *ℤ c.args.x.value
first-is c =
    to_z-of_z {w = w64} {z = c.product-a.result} (search rules) ∙ c.product-a.ensures.0
    ∙ ap (λ (k : ℤ). k *ℤ c.args.x.value) (to_z-of_z c.ranges.j)

second_is : (c : goal.After-pass-whole) → to_z w64 (of_z w64 c.product-b.result) ≡ c.args.k *ℤ c.args.y.value
second_is c =
    to_z-of_z {w = w64} {z = c.product-b.result} (search rules) ∙ c.product-b.ensures.0
    ∙ ap (λ (k : ℤ). k *ℤ c.args.y.value) (to_z-of_z c.ranges.k)

third-is : (c : goal.After-pass-whole) → to_z w64 (of_z w64 c.product-c.result) ≡ c.args.l *ℤ c.args.z.value
third-is c =
    to_z-of_z {w = w64} {z = c.product-c.result} (search rules) ∙ c.product-c.ensures.0
    ∙ ap (λ (k : ℤ). k *ℤ c.args.z.value) (to_z-of_z c.ranges.l)

abbrev sums : goal.After-pass-whole → RowSum
sums s = row_sum (s.args.x.value ∷ s.args.y.value ∷ s.args.z.value ∷ []) (term s.args.j 0 ∷ term s.args.k 1 ∷ term s.args.l 2 ∷ [])

-- whether a coefficient is positive
sign-is : {z : ℤ} → SFits w8 z → lt_z (pos 0) (to_z w8 (of_z w8 z)) ≡ lt_z (pos 0) z
sign-is f = ap (lt_z (pos 0)) (to_z-of_z f)

positive-is : (c : goal.After-pass-whole) → to_z w64 (of_z w64 c.pass-positive.result) ≡ (sums c).positive
positive-is c =
    let f = c.ranges in
    to_z-of_z {w = w64} {z = c.pass-positive.result} (search rules) ∙ c.pass-positive.ensures.0
    ∙ passed-same (refl {a = pos 0}) (sign-is f.j) (first-is c) (sign-is f.k) (second_is c)
    (sign-is f.l) (third-is c)

whole_sum : (c : goal.After-pass-whole) → to_z w64 (of_z w64 c.pass-whole.result) ≡ (sums c).whole
whole_sum c =
    let f = c.ranges in
    to_z-of_z {w = w64} {z = c.pass-whole.result} (search rules) ∙ c.pass-whole.ensures.0
    ∙ passed-same (positive-is c) (ap not (sign-is f.j)) (first-is c) (ap not (sign-is f.k)) (second_is c)
    (ap not (sign-is f.l)) (third-is c)

small : (s : goal.After-pass-whole) → nat_abs (sums s).whole ≤ Bounds.row_sum
small s =
    let a = s.args in
    let f = s.ranges in
    let x = s.args.x.value in
    let y = s.args.y.value in
    let z = s.args.z.value in
    subst⁻¹ (λ (z : ℤ). nat_abs z ≤ Bounds.row_sum) (whole_is (x ∷ y ∷ z ∷ []) (term a.j 0 ∷ term a.k 1 ∷ term a.l 2 ∷ []))
    (triple-size a.j x a.k y a.l z (mul_magnitude a.j x (abs_sfits f.j) (abs_sfits {w = w32} {z = x} (search rules)))
    (mul_magnitude a.k y (abs_sfits f.k) (abs_sfits {w = w32} {z = y} (search rules)))
    (mul_magnitude a.l z (abs_sfits f.l) (abs_sfits {w = w32} {z = z} (search rules))))

pub returns : goal.returns
returns c =
    let e = whole_sum c in
    record {
      is = sums_equal (positive-is c) e;
      positive-small = let f = ap nat_abs (to_z-of_z {w = w64} {z = c.pass-positive.result} (search rules)) in omega (arith, c.pass-positive.ensures.1);
      whole-small = subst⁻¹ (λ (z : ℤ). nat_abs z ≤ Bounds.row_sum) e (small c);
    }
