-- One figure more.
use Rattle.std.proofs.Common.{◌≡◌, refl, ◌+◌, ◌+ℤ◌, ◌≤ℤ◌, pos, get_or, ap, ℤ, ◌∙◌, arith, rules, to_z, of_z}
use Rattle.std.proofs.lemmas.Int.{ints, to_z-of_z}
use Rattle.std.specs.Int.{w32}
use Rattle.ints.specs.Magnitudes.{sum_magnitude}
use Rattle.ints.specs.Stored.{sfits_by, told_back}
use Rattle.judge_slot.specs.Spreads.{spread_none, spread_more}
use Rattle.judge_slot.proofs.LimitedTest.spread_of.Goals as goal

pub loop-i-init : goal.loop-i-init
loop-i-init c = spread_none _ _

pub overflow_add-sum : goal.overflow_add-sum
overflow_add-sum c =
    let v = c.args.from + c.loop-i.i in
    let y = told_back w32 (get_or c.args.self.test.figures.now v (pos 0)) (search rules) in
    let h = sum_magnitude (to_z w32 c.loop-i.sum-bits) (get_or c.args.self.test.figures.now v (pos 0)) c.loop-i.invariant.small (c.args.self.limited v) in
    sfits_by (ap (λ (z : ℤ). to_z w32 c.loop-i.sum-bits +ℤ z) y) (omega (arith, h, c.requires.1))

pub loop-i-preserved : goal.loop-i-preserved
loop-i-preserved c =
    let l = c.loop-i in
    let v = c.args.from + l.i in
    let figures = c.args.self.test.figures.now in
    let figure = get_or figures v (pos 0) in
    let y : to_z w32 (of_z w32 figure) ≡ figure = told_back w32 figure (search rules) in
    let h = sum_magnitude (to_z w32 l.sum-bits) figure l.invariant.small (c.args.self.limited v) in
    let sum = to_z-of_z w32 _ (sfits_by (ap (λ (z : ℤ). to_z w32 l.sum-bits +ℤ z) y) (omega (arith, h, c.requires.1))) ∙ ap (λ (z : ℤ). to_z w32 l.sum-bits +ℤ z) y in
    let low = c.min-least in
    let high = c.max-most in
    let least : to_z w32 (of_z w32 low.result) ≤ℤ to_z w32 l.least-bits = omega (arith, ints, low.ensures.self_bound) in
    let below : to_z w32 (of_z w32 low.result) ≤ℤ figure = omega (arith, ints, low.ensures.other_bound) in
    let most : to_z w32 l.most-bits ≤ℤ to_z w32 (of_z w32 high.result) = omega (arith, ints, high.ensures.self_bound) in
    let above : figure ≤ℤ to_z w32 (of_z w32 high.result) = omega (arith, ints, high.ensures.other_bound) in
    spread_more figures (λ j. c.args.from + j) l.i l.invariant refl sum (c.args.self.limited v) (least, below) (most, above)
