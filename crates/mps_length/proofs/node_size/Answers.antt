-- `mps_length::node_size` meets its contract, kind by kind. Assumes nothing.
use mathlib.Core.Path.{◌≡◌, refl, ap}
use mathlib.Core.Bool.{cond}
use Prim.Native.Nat.{ℕ, ◌*◌, ◌≤◌}
use native.Mathlib.Omega.{arith}
use lib.Dec.{ltb}
use Rattle.row.specs.Kinds.{block_count}
use Rattle.mps_length.specs.Nodes.{window_count, within_weight, throughout_weight, block_weight, looped_sum, sized_as, sized-plain, sized-looped}
use Rattle.mps_length.proofs.node_size.Goals as goal
use Rattle.mps_length.proofs.node_size.Goals.{then-twice, else-twice, then-twice-2, else-twice-2, then-twice-3, else-twice-3, then-twice-4, else-twice-4}

pub within-requires : goal.within-requires
within-requires c =
    let w = rw c.in-Within.is at c.requires.3 in
    (c.requires.0, c.requires.1, c.requires.2, w.0, w.1)

pub throughout-requires : goal.throughout-requires
throughout-requires c =
    let w = rw c.in-Throughout.is at c.requires.3 in
    (c.requires.0, c.requires.1, c.requires.2, w.0, w.1)

pub returns-in-Atom : goal.returns-in-Atom
unfolding block_count block_weight
returns-in-Atom c =
    let e : 1 * c.args.t ≡ c.args.t = omega arith in
    rw c.in-Atom.is (sized-plain (ltb c.args.l c.args.t) c.args.t (53 * c.args.t) (sized_as e refl c.even.ensures.0))

pub returns-in-Not : goal.returns-in-Not
unfolding block_count block_weight
returns-in-Not c =
    let e : 1 * c.args.t ≡ c.args.t = omega arith in
    rw c.in-Not.is (sized-plain (ltb c.args.l c.args.t) c.args.t (78 * c.args.t) (sized_as e refl c.even-in-Not.ensures.0))

pub returns-after-twice : goal.returns-after-twice
unfolding block_count block_weight
returns-after-twice c =
    let bytes : c.if-twice.even ≡ cond c.args.twice 186 213 =
    elim c.if-twice.branch [ then-twice w ↦ rw w.if-twice.true w.even-is | else-twice w ↦ rw w.if-twice.false w.even-is ] in
    let w = ap (λ (k : ℕ). k * c.args.t) bytes in
    rw c.in-And.is
    (sized-plain (ltb c.args.l c.args.t) (3 * c.args.t) (cond c.args.twice 186 213 * c.args.t) (sized_as refl w c.even-in-And.ensures.0))

pub returns-after-twice-2 : goal.returns-after-twice-2
unfolding block_count block_weight
returns-after-twice-2 c =
    let bytes : c.if-twice-2.even ≡ cond c.args.twice 159 185 =
    elim c.if-twice-2.branch [ then-twice-2 w ↦ rw w.if-twice-2.true w.even-is | else-twice-2 w ↦ rw w.if-twice-2.false w.even-is ] in
    let w = ap (λ (k : ℕ). k * c.args.t) bytes in
    rw c.in-Or.is
    (sized-plain (ltb c.args.l c.args.t) (3 * c.args.t) (cond c.args.twice 159 185 * c.args.t) (sized_as refl w c.even-in-Or.ensures.0))

pub returns-after-twice-3 : goal.returns-after-twice-3
unfolding block_count block_weight
returns-after-twice-3 c =
    let bytes : c.if-twice-3.even ≡ cond c.args.twice 185 238 =
    elim c.if-twice-3.branch [ then-twice-3 w ↦ rw w.if-twice-3.true w.even-is | else-twice-3 w ↦ rw w.if-twice-3.false w.even-is ] in
    let w = ap (λ (k : ℕ). k * c.args.t) bytes in
    rw c.in-Implies.is
    (sized-plain (ltb c.args.l c.args.t) (3 * c.args.t) (cond c.args.twice 185 238 * c.args.t) (sized_as refl w c.even-in-Implies.ensures.0))

pub returns-in-Eventually : goal.returns-in-Eventually
unfolding block_count block_weight
returns-in-Eventually c =
    let h : 1 ≤ c.args.t = omega arith in
    rw c.in-Eventually.is (sized-looped (ltb c.args.l c.args.t) 3 185 c.args.t h c.looped.ensures)

pub returns-in-Always : goal.returns-in-Always
unfolding block_count block_weight
returns-in-Always c =
    let h : 1 ≤ c.args.t = omega arith in
    rw c.in-Always.is (sized-looped (ltb c.args.l c.args.t) 3 213 c.args.t h c.looped-in-Always.ensures)

pub returns-after-twice-4 : goal.returns-after-twice-4
unfolding block_count block_weight
returns-after-twice-4 c =
    let h : 1 ≤ c.args.t = omega arith in
    let bytes : c.if-twice-4.looped ≡ cond c.args.twice 292 318 =
    elim c.if-twice-4.branch [ then-twice-4 w ↦ rw w.if-twice-4.true w.looped-is | else-twice-4 w ↦ rw w.if-twice-4.false w.looped-is ] in
    let w = ap (λ (k : ℕ). looped_sum k 53 c.args.t c.args.l) bytes in
    rw c.in-Until.is
    (sized-looped (ltb c.args.l c.args.t) 4 (cond c.args.twice 292 318) c.args.t h (sized_as refl w c.looped-in-Until.ensures))

pub returns-in-Within : goal.returns-in-Within
unfolding block_count block_weight
returns-in-Within c =
    let k = window_count c.args.t c.args.l c.args.a c.args.b c.args.t in
    let w = within_weight c.args.t c.args.l c.args.a c.args.b c.args.t in
    rw c.in-Within.is (sized-plain (ltb c.args.l c.args.t) k w c.within.ensures)

pub returns-in-Throughout : goal.returns-in-Throughout
unfolding block_count block_weight
returns-in-Throughout c =
    let k = window_count c.args.t c.args.l c.args.a c.args.b c.args.t in
    let w = throughout_weight c.args.t c.args.l c.args.a c.args.b c.args.t in
    rw c.in-Throughout.is (sized-plain (ltb c.args.l c.args.t) k w c.throughout.ensures)
