-- `evaluator_atoms::Halving::turn` meets its contract. Assumes nothing.
use mathlib.Core.Path.{◌≡◌, subst}
use Prim.Native.Nat.{ℕ}
use native.Mathlib.Omega.{arith}
use Rattle.evaluator_atoms.specs.Turning.{pairs_for, pair-at, few-pairs}
use Rattle.evaluator_atoms.specs.Exchanged.{Exchanged, exchanged-more, all-turned}
use Rattle.evaluator_atoms.specs.Packing.{taken}
use Rattle.evaluator_atoms.proofs.Halving.turn.Goals as goal

pub pairs_for-k-end-requires : goal.pairs_for-k-end-requires
pairs_for-k-end-requires c =
    let s = c.requires.0 in
    (s.some_half, s.small_half, c.requires.1, few-pairs c.args.self.half c.args.self.mask s c.args.m c.requires.1)

pub row_of-i-requires : goal.row_of-i-requires
row_of-i-requires c =
    let h = c.args.self.half in
    let s = c.requires.0 in
    let n = few-pairs h c.args.self.mask s c.args.m c.requires.1 in
    (s.some_half, s.small_half, pair-at h c.args.self.mask s c.loop-k.k (omega (arith, n, c.pairs_for-k-end.ensures)))

pub loop-k-preserved : goal.loop-k-preserved
loop-k-preserved c =
    let l = c.loop-k in
    let x = c.exchange-low in
    exchanged-more c.args.self.half c.args.self.mask c.requires.0 c.args.block.now l.k c.row_of-i.result l.block c.row_of-i.ensures l.invariant
    x.result.0 x.result.1 x.ensures.0 x.ensures.1

pub returns : goal.returns
returns c =
    let h = c.args.self.half in
    let mask = c.args.self.mask in
    let l = c.loop-k in
    let z : l.k ≡ pairs_for h c.args.m = omega (arith, c.pairs_for-k-end.ensures) in
    let x = subst (λ (k : ℕ). Exchanged h mask c.args.block.now k l.block) z l.invariant in
    λ run t b. record {
      long = x.long;
      at = all-turned h mask c.requires.0 c.args.block.now c.args.m c.requires.1 l.block x (taken run t) b.at;
    }
