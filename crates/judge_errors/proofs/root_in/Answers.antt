-- The last node is the root.
use Rattle.std.proofs.Common.{◌≡◌, ℕ, ◌-◌, ◌<◌, length, get_or, ap, ◌∙◌, arith}
use Rattle.lists.specs.Place.{place_end}
use Rattle.rules.specs.TableTest.{nodes_in}
use Rattle.rules.proofs.TableTest.{length-nodes_in}
use Rattle.judge_errors.specs.Known.{root_known}
use Rattle.judge_errors.proofs.root_in.Goals as goal

pub bounds-figures-place : goal.bounds-figures-place
bounds-figures-place c =
    let x = c.args.plan in
    let last : x.nodes - 1 < x.nodes = omega (arith, x.ready.some-nodes) in
    omega (arith, c.place.ensures.0, c.work.ensures.long, c.requires.0, place_end x.t last, x.ready.slots-low)

pub returns : goal.returns
returns c =
    let x = c.args.plan in
    let ns = nodes_in x.table.now in
    let m = c.work.new.figures in
    let count = length-nodes_in 16 x.table.now in
    let all : x.nodes ≡ length ns = omega (arith, count) in
    ap (λ (i : ℕ). get_or m i 0) c.place.ensures.0
    ∙ root_known x.t x.l c.args.e ns _ m x.ready.slots-low (omega (arith, x.ready.some-nodes, count)) (rw all at c.work.ensures) (x.nodes - 1) (omega (arith, all))
