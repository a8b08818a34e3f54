-- The work of program mpspage meets its contract. By the page writer's answer. Assumes nothing.
use Rattle.mpspage_page.specs.Outcomes.{page-told}
use Rattle.mpspage_page.proofs.PageWork.put.Goals as goal

pub returns : goal.returns
returns c =
    let a = c.args in
    let w = c.mps_page in
    page-told a.t a.m a.table.now a.out.now w.new.out w.result w.ensures.r_value w.ensures.out_after
