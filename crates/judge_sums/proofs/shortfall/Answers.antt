-- By the relation.
use mathlib.Core.Path.{◌∙◌}
use borrow.Author.Rules.{rules}
use mir.Syntax.{w8}
use mir.Facts.{to_z-of_z}
use Rattle.ints.specs.Stored.{small-back, kept}
use Rattle.judge_sums.specs.Sums.{whole_of}
use Rattle.judge_sums.specs.Laws.{short_row, off-row}
use Rattle.judge_sums.proofs.shortfall.Goals as goal

pub returns-in-AtLeast : goal.returns-in-AtLeast
returns-in-AtLeast c =
    let a = c.args in (
      kept c.short.ensures ∙ short_row a.figures.now a.row (whole_of c.row_sum-sum.ensures) (to_z-of_z {w = w8} {z = a.row.right} (search rules)) c.in-AtLeast.is,
      small-back c.short.result c.short.ensures.1,
    )

pub returns-in-Equal : goal.returns-in-Equal
returns-in-Equal c =
    let a = c.args in (
      kept c.off.ensures ∙ off-row a.figures.now a.row (whole_of c.row_sum-sum.ensures) (to_z-of_z {w = w8} {z = a.row.right} (search rules)) c.in-Equal.is,
      small-back c.off.result c.off.ensures.1,
    )
