-- `evaluator_atoms::lay` meets its contract. Assumes nothing.
use mathlib.Core.Path.{◌≡◌, refl, subst}
use Prim.Native.Nat.{ℕ, ◌+◌}
use native.Mathlib.Omega.{arith}
use Rattle.evaluator_atoms.specs.Packing.{Packed, packed_more}
use Rattle.evaluator_atoms.proofs.lay.Goals as goal

pub loop-i-preserved : goal.loop-i-preserved
loop-i-preserved c =
    let l = c.loop-i in
    λ w laid packed.
    packed_more w c.args.run.now l.block c.args.place c.args.count l.i c.from.result _ laid (omega arith) (l.invariant w laid packed) c.from.ensures refl

pub returns : goal.returns
returns c =
    let l = c.loop-i in
    let z : l.i ≡ c.args.count = omega arith in
    λ w laid packed. subst (λ (k : ℕ). Packed w c.args.run.now (c.args.place + k) l.block) z (l.invariant w laid packed)
