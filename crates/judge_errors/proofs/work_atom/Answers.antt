-- `judge_errors::work_atom` meets its contract. The loop's invariant: the node has been worked from slot s on. Assumes nothing.
use mathlib.Core.Path.{◌≡◌}
use Prim.Native.Nat.{◌+◌, ◌-◌, ◌*◌}
use native.Mathlib.Omega.{arith}
use Rattle.judge_errors.specs.Worked.{worked_none, step}
use Rattle.std.proofs.Common.{ap₂, ℕ, ◌+◌, min}
use Rattle.rules.specs.Quantities.{one}
use Rattle.judge_errors.proofs.work_atom.Goals as goal

pub loop-s-init : goal.loop-s-init
loop-s-init c = (worked_none _ _ _ _, c.requires.1)

pub loop-s-preserved : goal.loop-s-preserved
loop-s-preserved c =
    let l = c.loop-s in
    let k = c in
    let h = c in
    let a = c in
    let i : h.place-here.result + (l.s - 1) ≡ a.args.n * a.args.t + (l.s - 1) = omega (arith, h.place-here.ensures.0) in
    let w = step l.invariant.0 l.invariant.1 a.requires.0 (omega arith) l.auto.s _ _ _ i k.stopped-figure.ensures (ap₂ (λ (x y : ℕ). min one (x + y)) c.from.ensures c.from-2.ensures) in
    (w.0, w.1)

pub returns : goal.returns
returns c =
    let z : c.loop-s.s ≡ 0 = omega arith in
    (rw z at c.loop-s.invariant.0, c.loop-s.invariant.1)
