-- A product that fits.
use Rattle.std.proofs.Common.{◌≤◌, ◌*ℤ◌, ℤ, nat_abs, ap₂, ◌∙◌, subst, sym, arith, rules}
use Rattle.std.proofs.lemmas.Int.{to_z-of_z}
use Rattle.std.specs.Int.{w32, w64}
use mir.Val.{SFits}
use Rattle.ints.specs.Magnitudes.{mul_magnitude}
use Rattle.ints.specs.Stored.{sfits_by, abs_sfits}
use Rattle.millionths.specs.Wide.{widened}
use Rattle.millionths.specs.Bounds as Bounds
use Rattle.judge_sums.proofs.product.Goals as goal

pub returns : goal.returns
returns c =
    let a = c.args in
    let f : SFits w32 a.figure.value = search rules in
    let factors = ap₂ ◌*ℤ◌ (widened c.from.ensures tt c.ranges.coefficient) (widened c.from-2.ensures tt f) in
    let small = mul_magnitude a.coefficient a.figure.value (abs_sfits c.ranges.coefficient) (abs_sfits f) in
    let e = to_z-of_z w64 _ (sfits_by factors (omega (arith, small))) ∙ factors in
    (e, subst (λ (z : ℤ). nat_abs z ≤ Bounds.product) (sym e) small)
