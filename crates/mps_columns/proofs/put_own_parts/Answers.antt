-- `mps_columns::put_own_parts` meets its contract. The loop's invariant: the lines of the parts passed are put. Assumes nothing.
use Rattle.std.proofs.Common.{◌≡◌, ◌+◌, arith}
use Rattle.mps_line.specs.Turns.{turns_none, turns_more, turns_all}
use Rattle.mps_columns.specs.Plans.{planned_part}
use Rattle.mps_columns.proofs.put_own_parts.Goals as goal

pub loop-x-init : goal.loop-x-init
loop-x-init c = record { put = turns_none _ _; end = omega arith }

pub loop-x-preserved : goal.loop-x-preserved
loop-x-preserved c =
    let q = c.put_found.ensures in
    record { put = turns_more (planned_part c.args.columns.now.plan) _ c.loop-x.invariant.put q.0; end = omega (arith, q.1) }

pub returns : goal.returns
returns c =
    let p = c.args.columns.now.plan in
    let e : c.loop-x.x ≡ p.m + p.nodes = omega arith in
    (turns_all _ _ e c.loop-x.invariant.put, omega (arith, p.ready.few-nodes, p.ready.atoms-high))
