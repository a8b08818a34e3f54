-- The tests are of the rows' sums over the figures.
use Rattle.std.proofs.Common.{refl, ◌∙◌, pos}
use Rattle.rules.specs.Judge.{shortfall}
use Rattle.judge_sums.specs.Laws.{off_told}
use Rattle.judge_slot.specs.Searches.{one-tested}
use Rattle.judge_slot.proofs.Test.test_not.Goals as goal

pub returns : goal.returns
returns c =
    let x = c.figure-x.ensures in
    let y = c.figure-y.ensures in
    one-tested c.args.self.e (shortfall c.args.self.figures.now)
    (off_told c.pair.ensures (pos 1) c.off.ensures ∙ rw (x, y) refl)
    c.steps.ensures
