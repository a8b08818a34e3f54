-- `judge_errors::sum_up` meets its contract. The loop's invariant: the sums of the first i figures stand. Assumes nothing.
use mathlib.Core.Path.{◌≡◌, refl, sym, ◌∙◌}
use Prim.Native.Nat.{◌+◌, ◌<◌}
use native.Mathlib.Omega.{arith}
use lib.ListN.{length, length-set}
use Rattle.judge_errors.specs.Window.{sum-none, sum_more, running_none, running_more}
use Rattle.judge_errors.proofs.sum_up.Goals as goal

pub loop-i-init : goal.loop-i-init
loop-i-init c = (refl, sym (sum-none _ _), omega arith, running_none _ _ c.args.sums.now c.requires.3)

pub overflow_add-sum-in-loop-i : goal.overflow_add-sum-in-loop-i
overflow_add-sum-in-loop-i c =
    let a = c in
    let l = c.loop-i in
    omega (arith, a.requires.4 (a.args.p + l.i), l.invariant.2, c.loop-i-test, a.requires.1)

pub loop-i-preserved : goal.loop-i-preserved
loop-i-preserved c =
    let a = c in
    let l = c.loop-i in
    let more = sum_more a.args.figures.now (λ j. a.args.p + j) l.i in
    let small = a.requires.4 (a.args.p + l.i) in
    let sum = c.loop-i.invariant.1 in
    let inside : l.i + 1 < length l.sums = omega (arith, c.loop-i-test, l.invariant.0, a.requires.2) in (
      length-set l.sums _ _ ∙ l.invariant.0,
      omega (arith, sum, more),
      omega (arith, small, l.invariant.2),
      running_more a.args.figures.now a.args.p l.i l.sums l.invariant.3 _ inside (omega (arith, sum, more)),
    )

pub returns : goal.returns
returns c =
    let a = c.args in
    let l = c.loop-i in
    let all : l.i ≡ a.t = omega (arith, c.loop-i-test) in
    rw all at l.invariant.3
