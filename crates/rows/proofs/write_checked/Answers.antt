-- `rows::write_checked` meets its contract: there is room, or not.
use Rattle.std.proofs.Common.{length, refl, sym, ap, ◌∙◌, arith}
use Rattle.lists.specs.Splice.{over, splice-zero}
use Rattle.rules.specs.Demands.Answer.{answered}
use Rattle.rules.specs.TableTest.{nodes_in}
use Rattle.rules.proofs.TableTest.{length-nodes_in}
use Rattle.rows.specs.Parts.{count-is, length-is}
use Rattle.rows.specs.Answers.{too_short, long-enough}
use Rattle.rows.proofs.write_checked.Goals as goal

pub returns-then-out-size : goal.returns-then-out-size
returns-then-out-size c =
    let p = c.args.plan in
    let all = length-nodes_in p.m p.table.now ∙ sym p.counted in
    let e = length-is p.t p.m p.l (nodes_in p.table.now) p.nodes all c.measure-size.ensures.fact_2.0 in
    let h = too_short p.t p.m p.l p.table.now (length c.args.out.now) (omega arith) in
    record { r_value = rw h refl; out_after = rw h refl }

pub write_all-requires : goal.write_all-requires
write_all-requires c =
    let p = c.args.plan in
    let all = length-nodes_in p.m p.table.now ∙ sym p.counted in
    let e = length-is p.t p.m p.l (nodes_in p.table.now) p.nodes all c.measure-size.ensures.fact_2.0 in
    omega arith

pub returns : goal.returns
unfolding over
returns c =
    let p = c.args.plan in
    let ns = nodes_in p.table.now in
    let all = length-nodes_in p.m p.table.now ∙ sym p.counted in
    let e = length-is p.t p.m p.l ns p.nodes all c.measure-size.ensures.fact_2.0 in
    let k = count-is p.t p.m p.l ns p.nodes all c.measure-size.ensures.fact.0 in
    let h = long-enough p.t p.m p.l p.table.now (length c.args.out.now) (omega arith) in
    record { r_value = rw h (ap answered k); out_after = rw h (c.write_all.ensures ∙ splice-zero _ _) }
