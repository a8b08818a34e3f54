-- The tests are of the rows' sums over the figures.
use Rattle.std.proofs.Common.{refl, ◌∙◌, pos, negsuc}
use Rattle.rules.specs.Judge.{shortfall}
use Rattle.judge_sums.specs.Laws.{short_told}
use Rattle.judge_slot.specs.Searches.{three-tested}
use Rattle.judge_slot.proofs.Test.test_implies.Goals as goal

pub returns : goal.returns
returns c =
    let x = c.figure-x.ensures in
    let y = c.figure-y.ensures in
    let z = c.figure-z.ensures in
    three-tested c.args.self.e (shortfall c.args.self.figures.now)
    (short_told c.pair.ensures (pos 1) c.short-first.ensures ∙ rw (x, y) refl)
    (short_told c.pair-2.ensures (pos 0) c.short-second.ensures ∙ rw (x, z) refl)
    (short_told c.triple.ensures (negsuc 0) c.short-third.ensures ∙ rw (z, y, x) refl)
    c.steps.ensures
