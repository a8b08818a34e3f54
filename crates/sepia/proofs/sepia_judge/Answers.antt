-- `sepia::sepia_judge` meets its contract, from that of the call.
use mathlib.Core.Path.{sym, ap, subst, ◌∙◌}
use mir.Facts.{to_z-of_z}
use Rattle.rules.specs.Outcome.{judge_outcome}
use Rattle.sepia_answers.specs.Boundary.{verdict_in_c, VerdictFits}
use Rattle.sepia.proofs.Bounds.{judge_fits}
use Rattle.sepia.proofs.sepia_judge.Goals as goal

pub plain_verdict-requires : goal.plain_verdict-requires
plain_verdict-requires c =
    let a = c.args in
    subst VerdictFits (sym c.judge.ensures) (judge_fits a.t a.m a.l a.table.now a.figures.now _)

pub returns : goal.returns
returns c =
    let a = c.args in
    let told = c.judge.ensures ∙ ap (judge_outcome a.t a.m a.l a.table.now a.figures.now) (to_z-of_z c.ranges.e) in
    c.plain_verdict.ensures ∙ ap verdict_in_c told
