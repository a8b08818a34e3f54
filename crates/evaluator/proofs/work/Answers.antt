-- `evaluator::work` meets its contract. The loop's invariant: the first n nodes have their words. Assumes nothing.
use mathlib.Core.Path.{◌≡◌}
use Prim.Native.Nat.{◌<◌}
use native.Mathlib.Omega.{arith}
use lib.ListN.{length}
use Rattle.rules.specs.TableTest.{nodes_in}
use Rattle.rules.proofs.TableTest.{length-nodes_in}
use Rattle.evaluator.specs.Checks.{nodes-good}
use Rattle.evaluator.specs.Filled.{filled_more}
use Rattle.evaluator.proofs.work.Goals as goal

pub loop-n-preserved : goal.loop-n-preserved
loop-n-preserved c =
    let i = c.loop-n in
    let p = c.args.plan in
    let ns = nodes_in p.table.now in
    let good = nodes-good p.ready in
    let h : i.n < length ns = omega (arith, length-nodes_in p.m p.table.now) in
    let w = c.word_at.ensures c.args.run.now p.m i.n (good i.n h) c.columns.ensures in
    filled_more p.t p.l p.m c.args.run.now ns c.args.out.now i.n i.out good h (omega arith) i.invariant c.word_at.result w

pub returns : goal.returns
returns c =
    let p = c.args.plan in
    let z : c.loop-n.n ≡ length (nodes_in p.table.now) = omega (arith, length-nodes_in p.m p.table.now) in
    rw z at c.loop-n.invariant
