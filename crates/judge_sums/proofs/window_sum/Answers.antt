-- The part's figures and the node's, in the order of their signs.
use Rattle.std.proofs.Common.{◌≤◌, ◌-ℤ◌, ℤ, nat_abs, ap₂, ◌∙◌, subst, sym, arith, rules}
use Rattle.std.specs.Int.{w32, w64}
use mir.Val.{SFits}
use mir.Facts.{to_z-of_z}
use Rattle.ints.specs.Magnitudes.{difference_magnitude}
use Rattle.ints.specs.Stored.{sfits_by, abs_sfits}
use Rattle.millionths.specs.Wide.{widened}
use Rattle.millionths.specs.Bounds as Bounds
use Rattle.judge_sums.specs.Windows.{within_sums, throughout_sums}
use Rattle.judge_sums.proofs.window_sum.Goals as goal

pub returns-in-Within : goal.returns-in-Within
returns-in-Within c =
    let f : SFits w32 c.args.x.value = search rules in
    let p = to_z-of_z c.ranges.sum in
    let x = widened c.from-figure.ensures tt f in
    let h = difference_magnitude c.args.sum c.args.x.value c.requires (abs_sfits f) in
    let w = to_z-of_z {w = w64} (sfits_by (ap₂ ◌-ℤ◌ p x) (omega (arith, h))) ∙ ap₂ ◌-ℤ◌ p x in
    let few = subst (λ (z : ℤ). nat_abs z ≤ Bounds.row_sum) (sym p) (omega (arith, c.requires)) in
    let small = subst (λ (z : ℤ). nat_abs z ≤ Bounds.row_sum) (sym w) (omega (arith, h)) in
    record { terms = λ xs vs v e g. rw c.in-Within.is (within_sums xs vs v e g p w few small); small = (few, small) }

pub returns-in-Throughout : goal.returns-in-Throughout
returns-in-Throughout c =
    let f : SFits w32 c.args.x.value = search rules in
    let p = to_z-of_z c.ranges.sum in
    let x = widened c.from-figure.ensures tt f in
    let h = difference_magnitude c.args.x.value c.args.sum (abs_sfits f) c.requires in
    let w = to_z-of_z {w = w64} (sfits_by (ap₂ ◌-ℤ◌ x p) (omega (arith, h))) ∙ ap₂ ◌-ℤ◌ x p in
    let few = subst (λ (z : ℤ). nat_abs z ≤ Bounds.row_sum) (sym x) (let k = abs_sfits f in omega (arith, k)) in
    let small = subst (λ (z : ℤ). nat_abs z ≤ Bounds.row_sum) (sym w) (omega (arith, h)) in
    record { terms = λ xs vs v e g. rw c.in-Throughout.is (throughout_sums xs vs v e g x w few small); small = (few, small) }
