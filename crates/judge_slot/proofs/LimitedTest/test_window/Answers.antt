-- All rows hold, or they are searched; a search that is over passes them.
use Rattle.std.proofs.Common.{◌≡◌, refl, ◌+◌, arith}
use Rattle.std.proofs.lemmas.Result.{err_from_is_err_and}
use Rattle.rules.specs.Judge.{shortfall}
use Rattle.judge_slot.specs.Searches.{over-tested}
use Rattle.judge_slot.specs.Windows.{window_of, window-count}
use Rattle.judge_slot.specs.Holding.{held-tested}
use Rattle.judge_slot.proofs.LimitedTest.test_window.Goals as goal

pub returns-in_err-rows : goal.returns-in_err-rows
returns-in_err-rows c =
    let a = c.args in
    let p = err_from_is_err_and c.from_residual.result c.from_residual.ensures.1 in
    rw (p.1, p.2, c.in_err-rows.was) (over-tested a.self.test.e (shortfall a.self.test.figures.now) c.in_err-rows.field-0.0 _)

pub returns-then-window_holds : goal.returns-then-window_holds
returns-then-window_holds c =
    let a = c.args in
    let n : c.in_ok-rows.rows + c.from.result + 1 ≡ c.in_ok-rows.rows + (a.looks.count + 1) = omega (arith, c.from.ensures) in
    held-tested a.self.test.e (shortfall a.self.test.figures.now) (a.looks.count + 1) a.state (c.window_holds.ensures c.if-window_holds.true)
    (window-count (window_of a.kind) a.node a.looks a.p) (omega arith) (rw (c.in_ok-rows.was, n) refl)

pub returns-else-window_holds : goal.returns-else-window_holds
returns-else-window_holds c = rw c.in_ok-rows.was c.search_window.ensures
