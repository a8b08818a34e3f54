-- `evaluator::own_check` meets its contract, a rung for each test. Assumes nothing.
use mathlib.Core.Path.{sym, ◌∙◌}
use borrow.Author.Tests.{lt-leb, le-leb}
use Rattle.rules.proofs.TableTest.{length-nodes_in}
use Rattle.evaluator.proofs.own_check.Goals as goal

pub returns-then-room-plan : goal.returns-then-room-plan
returns-then-room-plan c =
    let p = c.args.plan in
    let r = rw p.counted at c.if-room-plan.true in
    rw ((sym c.run_good.ensures ∙ c.if-not-run_good.false), length-nodes_in p.m p.table.now, lt-leb _ _ r)

pub returns : goal.returns
returns c =
    let p = c.args.plan in
    let r = rw p.counted at c.if-room-plan.false in
    rw ((sym c.run_good.ensures ∙ c.if-not-run_good.false), length-nodes_in p.m p.table.now, le-leb _ _ r)
