-- `mps_page::mps_page` meets its contract. By what the checks found. Assumes nothing.
use Rattle.std.proofs.Common.{refl, sym, length}
use Rattle.std.proofs.lemmas.Result.{err_from_is_err_and}
use Rattle.mps_page.specs.Answers.{page-checked}
use Rattle.mps_page.proofs.mps_page.Goals as goal

pub returns : goal.returns
returns c =
    let a = c.args in
    let h = c.in_ok-plan.ensures in
    let e = page-checked a.t a.m a.l a.table.now (length a.out.now) in
    record {
      r_value = rw (e, h.passed, sym h.same_t, sym h.same_m, sym h.same_l, sym h.same_table) c.write_checked.ensures.r_value;
      out_after = rw (e, h.passed, sym h.same_t, sym h.same_m, sym h.same_l, sym h.same_table) c.write_checked.ensures.out_after;
      fact = c.write_checked.ensures.fact;
    }

pub returns-in_err-plan : goal.returns-in_err-plan
returns-in_err-plan c =
    let a = c.args in
    let r = err_from_is_err_and c.from_residual.result c.from_residual.ensures.1 in
    let e = page-checked a.t a.m a.l a.table.now (length a.out.now) in
    record { r_value = rw (e, c.in_err-plan.ensures, r.1, r.2) refl; out_after = rw (e, c.in_err-plan.ensures) refl; fact = rw r.1 tt }
