-- `mps_columns::put_part` meets its contract. The loop's invariant: the lines of the slots passed are put. Assumes nothing.
use Rattle.std.proofs.Common.{◌≡◌, ◌+◌, ◌*◌, arith}
use Rattle.mps.specs.Page.{column_lines}
use Rattle.mps_line.specs.Turns.{turns_none, turns_more, turns_all}
use Rattle.mps_columns.specs.Plans.{plan_rows}
use Rattle.mps_columns.proofs.put_part.Goals as goal

pub loop-s-init : goal.loop-s-init
loop-s-init c = record { put = turns_none _ _; end = omega arith }

pub loop-s-preserved : goal.loop-s-preserved
loop-s-preserved c =
    let part = c.args.part in
    let p = part.columns.now.plan in
    let q = c.put_variable.ensures in
    record {
      put = turns_more (λ i. column_lines (plan_rows p) (part.x * p.t + i)) _ c.loop-s.invariant.put q.0;
      end = omega (arith, q.1);
    }

pub returns : goal.returns
returns c =
    let p = c.args.part.columns.now.plan in
    let e : c.loop-s.s ≡ p.t = omega arith in
    (turns_all _ _ e c.loop-s.invariant.put, omega (arith, p.ready.slots-high))
