-- `evaluator_atoms::pack` meets its contract: the blocks up to `place` are packed. Assumes nothing.
use mathlib.Core.Path.{◌≡◌, subst}
use Prim.Native.Nat.{ℕ, ◌+◌, min}
use native.Mathlib.Omega.{arith}
use Rattle.evaluator_atoms.specs.Packing.{Laid, Packed, packed_none}
use Rattle.evaluator_atoms.proofs.pack.Goals as goal

pub loop-place-init : goal.loop-place-init
loop-place-init c =
    let wide = c.requires.t_bound.2 in
    (wide.begin, omega arith, packed_none c.args.w wide c.args.run.now c.args.t c.args.block.now c.requires.blank)

pub loop-place-preserved : goal.loop-place-preserved
loop-place-preserved c =
    let l = c.loop-place in
    let n = c.min in
    let b = c.requires.t_bound in
    let from : min l.place c.args.t ≡ l.place = omega arith in
    let to : l.place + n.result ≡ min (l.place + c.args.w) c.args.t = omega (arith, n.ensures) in
    let laid : Laid c.args.w c.args.run.now l.place n.result = (b.2, l.invariant.0, omega (arith, n.ensures), λ s h. b.3 s (omega (arith, n.ensures))) in (
      b.2.next-block l.place l.invariant.0,
      omega arith,
      subst (λ (k : ℕ). Packed c.args.w c.args.run.now k c.lay.new.block) to
          (c.lay.ensures c.args.w laid (subst (λ (k : ℕ). Packed c.args.w c.args.run.now k l.block) from l.invariant.2)),
    )
