-- The tolerance is below 0, above 1,000, or within.
use Rattle.std.proofs.Common.{ℤ, pos, sym, ap, ◌∙◌}
use mir.Facts.{to_z-of_z}
use Rattle.std.specs.Int.Signed.{lt_z}
use Rattle.rules.specs.Quantities.{tolerance_limit}
use Rattle.rules.specs.Demands.Answer.{answered}
use Rattle.judge.specs.Checks.{tolerated, tolerance-below, tolerance-above, tolerance-within}
use Rattle.judge.proofs.judge_counted.Goals as goal
use Rattle.judge.proofs.judge_counted.Goals.{then-e-lt0-via-then-e-lt0, then-e-lt0-via-else-e-lt0+then-e-gt-TOLERANCE}

pub returns-then-e-lt0 : goal.returns-then-e-lt0
returns-then-e-lt0 c =
    let x = c.args.plan in
    let told = to_z-of_z c.ranges.e in
    elim c.then-e-lt0.branch [
      | then-e-lt0-via-then-e-lt0 w ↦ tolerance-below x.t x.m x.l x.table.now c.args.figures.now c.args.e (ap (λ (z : ℤ). lt_z z (pos 0)) (sym told) ∙ w.if-e-lt0.true)
      | then-e-lt0-via-else-e-lt0+then-e-gt-TOLERANCE w ↦ tolerance-above x.t x.m x.l x.table.now c.args.figures.now c.args.e
          (ap (lt_z (pos tolerance_limit)) (sym told) ∙ w.if-e-gt-TOLERANCE.true)
    ]

pub returns : goal.returns
returns c =
    let x = c.args.plan in
    ap answered c.verdict_of.ensures ∙ tolerance-within x.t x.m x.l x.table.now c.args.figures.now _ c.if-e-lt0.false c.if-e-gt-TOLERANCE.false
    ∙ ap (tolerated x.t x.m x.l x.table.now c.args.figures.now) (to_z-of_z c.ranges.e)
