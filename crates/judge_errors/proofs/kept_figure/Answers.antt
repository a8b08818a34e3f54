-- `judge_errors::kept_figure` meets its contract. The loop's invariant: the sum is that of slot s. Assumes nothing.
use mathlib.Core.Path.{◌≡◌, ap, ◌∙◌, subst⁻¹}
use Prim.Native.Nat.{ℕ, ◌+◌, ◌-◌, ◌*◌, ◌≤◌, ◌<◌, min}
use native.Mathlib.Omega.{arith}
use Rattle.rules.specs.Quantities.{one}
use Rattle.judge_errors.specs.Worked.{per_slot, down, down-none, Summed, summed_none}
use Rattle.judge_errors.specs.Count.{later_at, kept_later, kept_more}
use Rattle.std.proofs.Common.{ap₂, ltb}
use Rattle.judge_errors.proofs.kept_figure.Goals as goal

pub loop-s-init : goal.loop-s-init
loop-s-init c =
    let a = c.args in
    let f = kept_later a.t a.e a.figures.now a.parts in
    let z = down-none a.t f a.t (omega arith) in
    (omega (arith, c.requires.1.1), subst⁻¹ (λ (x : ℕ). Summed a.t a.t x 0) z (summed_none a.t 0 (omega arith)))

pub later_sum-requires : goal.later_sum-requires
later_sum-requires c =
    let a = c in
    (a.requires.0, omega (arith, c.loop-s-test, c.loop-s.auto.s, a.requires.1.0), a.requires.2)

pub overflow_add-sum : goal.overflow_add-sum
overflow_add-sum c = omega (arith, c.later_sum.ensures.1)

pub overflow_add-sum-in-loop-s : goal.overflow_add-sum-in-loop-s
overflow_add-sum-in-loop-s c = omega (arith, c.later_sum.ensures.1, c.loop-s.invariant.1.few, c.requires.0.slots)

pub loop-s-preserved : goal.loop-s-preserved
loop-s-preserved c =
    let a = c in
    let l = c.loop-s in
    let r = c.later_sum in
    let low : 0 < l.s = omega (arith, c.loop-s-test, a.requires.1.0) in
    let back : l.s - 1 + 1 ≡ l.s = omega arith in
    let at = ap (λ (k : ℕ). later_at a.args.t a.args.figures.now a.args.parts (ltb k a.args.t) (l.s - 1)) back in
    let next = ap₂ (λ (y x : ℕ). min one (l.sum + (y + x))) c.from.ensures (r.ensures.0 ∙ at) in
    let more = kept_more a.args.t a.args.l a.args.e a.args.figures.now a.args.parts l.s low l.auto.s l.invariant.1 in
    let few : l.sum + (c.from.result + r.result) ≤ one + (a.args.t - (l.s - 1)) * per_slot = omega (arith, c.from.ensures, r.ensures.1, l.invariant.1.few, l.auto.s, low) in
    (omega (arith, c.loop-s-test), record { stopped = next ∙ more; few = few })

pub returns : goal.returns
returns c =
    let a = c in
    let l = c.loop-s in
    let f = kept_later a.args.t a.args.e a.args.figures.now a.args.parts in
    let all : a.args.t - l.s ≡ a.args.t + 1 - a.args.l = omega (arith, c.loop-s-test, l.invariant.0, a.requires.1.0) in
    (c.stopped.ensures ∙ l.invariant.1.stopped ∙ ap (down a.args.t f) all, omega (arith, c.stopped.ensures))
