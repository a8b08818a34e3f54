-- `judge_errors::work_here` meets its contract. The loop's invariant: the node has been worked from slot s on. Assumes nothing.
use mathlib.Core.Path.{◌≡◌, ◌∙◌}
use Prim.Native.Nat.{ℕ, ◌+◌, ◌-◌, ◌*◌, min}
use native.Mathlib.Omega.{arith}
use Rattle.rules.specs.Quantities.{one}
use Rattle.judge_errors.specs.Worked.{worked_none, step}
use Rattle.judge_errors.specs.Count.{parts_in, parts-read}
use Rattle.std.proofs.Common.{ap₂}
use Rattle.judge_errors.proofs.work_here.Goals as goal

pub loop-s-init : goal.loop-s-init
loop-s-init c = (worked_none _ _ _ _, c.requires.1)

pub parts_sum-requires : goal.parts_sum-requires
parts_sum-requires c =
    let l = c.loop-s in
    let a = c in
    (parts_in l.figures a.requires.0 a.requires.2 l.invariant.0.same, omega (arith, c.loop-s-test, l.auto.s), l.invariant.1)

pub loop-s-preserved : goal.loop-s-preserved
loop-s-preserved c =
    let k = c in
    let l = c in
    let h = c in
    let a = c in
    let s = c.loop-s.s in
    let i : h.place-here.result + (s - 1) ≡ a.args.n * a.args.t + (s - 1) = omega (arith, h.place-here.ensures.0) in
    let read = parts-read l.loop-s.invariant.0 a.requires.2 (s - 1) (omega (arith, l.loop-s.auto.s)) in
    let counts = ap₂ (λ (y x : ℕ). min one (y + x)) c.from.ensures (k.parts_sum.ensures.0 ∙ read) in
    let w = step l.loop-s.invariant.0 l.loop-s.invariant.1 a.requires.0 (omega arith) l.loop-s.auto.s _ _ _ i c.stopped.ensures counts in
    (w.0, w.1)

pub returns : goal.returns
returns c =
    let z : c.loop-s.s ≡ 0 = omega arith in
    (rw z at c.loop-s.invariant.0, c.loop-s.invariant.1)
