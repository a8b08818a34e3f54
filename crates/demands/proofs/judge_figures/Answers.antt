-- `demands::judge_figures` meets its contract: demands 1 and 2 and what its verdicts mean, from the contract of `judge::judge`.
use mathlib.Core.Path.{ap, ◌∙◌}
use mir.Facts.{to_z-of_z}
use Rattle.rules.specs.Outcome.{judge_outcome}
use Rattle.headlines.proofs.Refusing.{judge-refuses}
use Rattle.headlines.proofs.Answering.{judge-answers}
use Rattle.headlines.proofs.Passing.{passed-means, passed-at-zero, passed-near}
use Rattle.headlines.proofs.Carrying.{same-verdict, carries-shortfall}
use Rattle.headlines.proofs.Summing.{summed-verdict}
use Rattle.demands.proofs.judge_figures.Goals as goal

pub returns : goal.returns
returns c =
    let a = c.args in
    let k = c.judge in
    let told = k.ensures ∙ ap (judge_outcome a.t a.m a.l a.table.now a.figures.now) (to_z-of_z c.ranges.e) in
    record {
      judge_refuses = judge-refuses _ _ _ _ _ _ _ told;
      judge_answers = judge-answers _ _ _ _ _ _ _ told;
      passed_means = passed-means _ _ _ _ _ _ _ told;
      passed_at_zero = passed-at-zero _ _ _ _ _ _ _ told;
      passed_near = passed-near _ _ _ _ _ _ _ told;
      same_verdict = same-verdict _ _ _ _ _ _ _ told;
      carries_shortfall = carries-shortfall _ _ _ _ _ _ _ told;
      summed_verdict = summed-verdict _ _ _ _ _ _ _ told;
    }
