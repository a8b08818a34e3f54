-- By what the checks found.
use Rattle.std.proofs.Common.{refl, sym, ap, ◌∙◌}
use Rattle.std.proofs.lemmas.Result.{err_from_is_err_and}
use mir.Facts.{to_z-of_z}
use Rattle.judge.specs.Checks.{counted, judge-checked}
use Rattle.judge.proofs.judge.Goals as goal

pub returns-in_err-plan : goal.returns-in_err-plan
returns-in_err-plan c =
    let a = c.args in
    let p = err_from_is_err_and c.from_residual.result c.from_residual.ensures.1 in
    rw (judge-checked a.t a.m a.l a.table.now a.figures.now a.e, c.in_err-plan.ensures, p.1, p.2) refl

pub returns : goal.returns
returns c =
    let a = c.args in
    let h = c.in_ok-plan.ensures in
    rw (judge-checked a.t a.m a.l a.table.now a.figures.now a.e, h.passed, sym h.same_t, sym h.same_m, sym h.same_l, sym h.same_table)
    (c.judge_checked.ensures ∙ ap (counted c.in_ok-plan.plan.t c.in_ok-plan.plan.m c.in_ok-plan.plan.l c.in_ok-plan.plan.table.now a.figures.now) (to_z-of_z c.ranges.e))
