-- `mps_page::write_checked` meets its contract. There is room, or not. Assumes nothing.
use Rattle.std.proofs.Common.{refl, ap, ◌∙◌, ◌+◌, ◌≤◌, length, arith}
use Rattle.lists.specs.Splice.{over, sets_splice, splice-zero}
use Rattle.rules.specs.Demands.Answer.{answered}
use Rattle.rules.specs.TableTest.{nodes_in}
use Rattle.rules.proofs.TableTest.{length-nodes_in}
use Rattle.mps.specs.Page.{page}
use Rattle.mps.proofs.PageLength.{page-short}
use Rattle.mps_page.specs.Answers.{too_short, long-enough}
use Rattle.mps_page.proofs.write_checked.Goals as goal

pub returns-then-out-length : goal.returns-then-out-length
returns-then-out-length c =
    let p = c.args.plan in
    let h = too_short p.t p.m p.l p.table.now (length c.args.out.now) (omega (arith, c.page_length-length.ensures)) in
    record { r_value = rw h refl; out_after = rw h refl; fact = tt }

pub returns : goal.returns
unfolding over
returns c =
    let p = c.args.plan in
    let e = c.page_length-length.ensures in
    let test = c.if-out-length in
    let short = page-short p.t p.m p.l (nodes_in p.table.now) p.ready.slots-high p.ready.atoms-high
    (omega (arith, length-nodes_in p.m p.table.now)) in
    let text = page p.t p.m p.l (nodes_in p.table.now) in
    let room : length text ≤ length c.args.out.now = omega arith in
    let from : 0 + length text ≤ length c.args.out.now = omega arith in
    let h = long-enough p.t p.m p.l p.table.now (length c.args.out.now) room in
    record {
      r_value = rw h (ap answered e);
      out_after = rw h (c.write_page.ensures ∙ sets_splice 0 text c.args.out.now from ∙ splice-zero _ _);
      fact = omega (arith, short);
    }
