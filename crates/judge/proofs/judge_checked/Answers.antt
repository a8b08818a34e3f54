-- The figures are as many as the variables, or not.
use Rattle.std.proofs.Common.{sym, ap, ◌∙◌}
use mir.Facts.{to_z-of_z}
use Rattle.judge.specs.Checks.{tolerated, miscounted, well_counted}
use Rattle.judge.proofs.judge_checked.Goals as goal

pub returns-then-figures-variable_count : goal.returns-then-figures-variable_count
returns-then-figures-variable_count c = miscounted _ _ _ _ _ _ (λ h. c.if-figures-variable_count.true (h ∙ sym c.variable_count.ensures))

pub returns : goal.returns
returns c =
    let x = c.args.plan in
    c.judge_counted.ensures ∙ ap (tolerated x.t x.m x.l x.table.now c.args.figures.now) (to_z-of_z c.ranges.e)
    ∙ well_counted _ _ _ _ _ _ (c.if-figures-variable_count.false ∙ c.variable_count.ensures)
