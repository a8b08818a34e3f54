-- One node more.
use Rattle.std.proofs.Common.{◌≡◌, ◌<◌, length, arith}
use Rattle.lists.specs.Place.{place_end}
use Rattle.rules.specs.TableTest.{nodes_in}
use Rattle.rules.proofs.TableTest.{length-nodes_in}
use Rattle.judge_errors.specs.Known.{countable, known_none, known_more}
use Rattle.judge_errors.proofs.work.Goals as goal

pub loop-n-init : goal.loop-n-init
loop-n-init c = known_none _ _ _ _ _ c.requires.1

pub work_one-requires : goal.work_one-requires
work_one-requires c =
    let k = c.loop-n.invariant in
    let inside : c.loop-n.n < c.args.plan.nodes = omega arith in
    (omega arith, omega (arith, k.long, place_end c.args.plan.t inside, c.requires.0), k.small)

pub loop-n-preserved : goal.loop-n-preserved
loop-n-preserved c =
    let x = c.args.plan in
    let ns = nodes_in x.table.now in
    let y = countable x.t x.m x.l x.table.now x.ready in
    let inside : c.loop-n.n < length ns = omega (arith, length-nodes_in 16 x.table.now) in
    known_more x.t 16 x.l c.args.e ns y.loop y.good _ c.loop-n.n inside _ _ c.loop-n.invariant c.work_one.ensures.0 c.work_one.ensures.1

pub returns : goal.returns
returns c =
    let z : c.loop-n.n ≡ c.args.plan.nodes = omega arith in
    rw z at c.loop-n.invariant
