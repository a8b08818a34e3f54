-- The right side, and the sum of the last row's terms.
use Rattle.std.proofs.Common.{ap₂, ap, sym, ◌∙◌, rules}
use Rattle.std.specs.Int.{w8}
use Rattle.std.proofs.lemmas.Int.{to_z-of_z}
use mir.Facts as Facts
use Rattle.ints.specs.Stored.{kept}
use Rattle.judge_sums.specs.Sums.{whole_of}
use Rattle.judge_sums.specs.Laws.{short_of}
use Rattle.judge_slot.specs.Windows.{last_right}
use Rattle.judge_slot.proofs.last_short.Goals as goal

pub returns : goal.returns
returns c =
    let right = to_z-of_z w8 c.last_right.result (search rules) ∙ c.last_right.ensures in
    λ xs vs v e x n. kept c.short.ensures ∙ ap₂ short_of (right ∙ ap (last_right c.args.kind) (sym n)) (whole_of (c.window_sum.ensures.terms xs vs v (Facts.to_z-of_z c.ranges.sum ∙ e) x))
