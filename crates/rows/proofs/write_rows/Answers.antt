-- `rows::write_rows` meets its contract: by what the checks found.
use Rattle.std.proofs.Common.{length, refl, sym}
use Rattle.std.proofs.lemmas.Result.{err_from_is_err_and}
use Rattle.rows.specs.Answers.{rows-checked}
use Rattle.rows.proofs.write_rows.Goals as goal

pub returns-in_err-plan-clause-r_value : goal.returns-in_err-plan-clause-r_value
returns-in_err-plan-clause-r_value c =
    let a = c.args in
    let e = err_from_is_err_and c.from_residual.result c.from_residual.ensures.1 in
    rw (rows-checked a.t a.m a.l a.table.now (length a.out.now), c.in_err-plan.ensures, e.1, e.2) refl

pub returns-in_err-plan-clause-out_after : goal.returns-in_err-plan-clause-out_after
returns-in_err-plan-clause-out_after c =
    let a = c.args in
    rw (rows-checked a.t a.m a.l a.table.now (length a.out.now), c.in_err-plan.ensures) refl

pub returns-clause-r_value : goal.returns-clause-r_value
returns-clause-r_value c =
    let a = c.args in
    let h = c.in_ok-plan.ensures in
    rw (rows-checked a.t a.m a.l a.table.now (length a.out.now), h.passed, sym h.same_t, sym h.same_m, sym h.same_l, sym h.same_table)
    c.write_checked.ensures.r_value

pub returns-clause-out_after : goal.returns-clause-out_after
returns-clause-out_after c =
    let a = c.args in
    let h = c.in_ok-plan.ensures in
    rw (rows-checked a.t a.m a.l a.table.now (length a.out.now), h.passed, sym h.same_t, sym h.same_m, sym h.same_l, sym h.same_table)
    c.write_checked.ensures.out_after
