-- The nodes' rows, and then the goal row.
use Rattle.std.proofs.Common.{Ok, sym, ap, ◌∙◌, arith}
use Rattle.std.proofs.lemmas.Result.{err_from_is_err_and}
use lib.IntN.{ℤ}
use Rattle.ints.specs.Stored.{kept}
use Rattle.rules.specs.TableTest.{nodes_in}
use Rattle.rules.proofs.TableTest.{length-nodes_in}
use Rattle.rules.specs.Judge.{shortfall}
use Rattle.judge_slot.specs.Searches.{stepped}
use Rattle.judge_search.specs.Parts.{all_tested, all-over}
use Rattle.judge_search.proofs.test_all.Goals as goal

pub step-requires : goal.step-requires
step-requires c = omega (arith, c.in_ok-rows.ensures.few)

pub returns-in_err-rows : goal.returns-in_err-rows
returns-in_err-rows c =
    let a = c.args.plan in
    let p = err_from_is_err_and c.from_residual.result c.from_residual.ensures.1 in
    rw (p.1, p.2) (all-over a.t a.m a.l (nodes_in a.table.now) c.args.test.test.e (shortfall c.args.test.test.figures.now) a.nodes
    (length-nodes_in a.m a.table.now ∙ sym a.counted) c.in_err-rows.ensures.is)

pub returns : goal.returns
returns c =
    let a = c.args.plan in
    let test = c.args.test.test in
    let f = shortfall test.figures.now in
    c.step.ensures.is ∙ ap (λ (d : ℤ). stepped test.e d (Ok c.in_ok-rows.rows)) (kept c.shortfall.ensures ∙ ap f c.goal-goal.ensures)
    ∙ all_tested a.t a.m a.l (nodes_in a.table.now) test.e f a.nodes c.slack.result
    (length-nodes_in a.m a.table.now ∙ sym a.counted) c.in_ok-rows.ensures.is c.slack.ensures
