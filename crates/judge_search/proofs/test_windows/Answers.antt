-- What the closure tests are the rows over the window at the slot.
use Rattle.std.proofs.Common.{refl, rules}
use Rattle.rules.specs.Judge.{shortfall}
use Rattle.row.specs.NodeRows.{block_on}
use Rattle.judge_search.specs.Slots.{block-all}
use Rattle.judge_search.proofs.test_windows.Goals as goal

pub returns : goal.returns
returns c =
    let a = c.args in
    let test = a.test.test in
    block-all a.block a.t a.l c.requires.1.slots-high (block_on a.block a.t a.l) (λ s h. refl)
    (c.all_slots.ensures.passing test.e (shortfall test.figures.now) (block_on a.block a.t a.l) (λ rows s x h p. search rules))
