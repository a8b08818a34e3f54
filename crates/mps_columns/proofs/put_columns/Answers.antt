-- `mps_columns::put_columns` meets its contract. Assumes nothing.
use Rattle.std.proofs.Common.{sym, ◌∙◌, arith}
use Rattle.rules.specs.TableTest.{nodes_in}
use Rattle.rules.proofs.TableTest.{length-nodes_in}
use Rattle.mps.specs.Page.{column_lines}
use Rattle.mps_columns.specs.Parts.{all-parts, all-parts-kept}
use Rattle.mps_columns.specs.Plans.{plan_rows}
use Rattle.mps_columns.proofs.put_columns.Goals as goal

pub returns-then-plan : goal.returns-then-plan
returns-then-plan c =
    let p = c.args.plan in
    let a = c.put_own_parts.ensures in
    let b = c.put_kept_parts.ensures in
    let ns = nodes_in p.table.now in
    let long = p.counted ∙ sym (length-nodes_in p.m p.table.now) in
    (all-parts-kept p.t (column_lines (plan_rows p)) p.m p.l p.nodes ns long c.if-plan.true a.0 b.0, omega (arith, a.1, b.1))

pub returns-else-plan : goal.returns-else-plan
returns-else-plan c =
    let p = c.args.plan in
    let a = c.put_own_parts.ensures in
    let ns = nodes_in p.table.now in
    let long = p.counted ∙ sym (length-nodes_in p.m p.table.now) in
    (all-parts p.t (column_lines (plan_rows p)) p.m p.l p.nodes ns long c.if-plan.false a.0, omega (arith, a.1))
