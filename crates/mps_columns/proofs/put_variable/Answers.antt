-- `mps_columns::put_variable` meets its contract. Its lines in the rows, or its COST line where there are none. Assumes nothing.
use Rattle.std.proofs.Common.{◌≡◌, ap, ◌∙◌, ℕ, ◌+◌, length, arith}
use Rattle.rules.specs.Quantities.{LoopAllowed}
use Rattle.rules.specs.TableTest.{nodes_in}
use Rattle.rules.proofs.TableTest.{length-nodes_in}
use Rattle.row.specs.NodeRows.{goal-is}
use Rattle.mps.specs.Page.{cost_line}
use Rattle.mps_columns.specs.Column.{users-emitted, column-some, column-none}
use Rattle.mps_columns.proofs.put_variable.Goals as goal

pub put_users-requires : goal.put_users-requires
put_users-requires c =
    let named = c.from-v.ensures ∙ ap (λ (k : ℕ). k + c.args.s) c.first_variable.ensures.0 in
    (omega arith, (omega (arith, c.first_variable.ensures.1), c.requires.1, (c.args.part.x, named)))

pub returns-then-page-before : goal.returns-then-page-before
unfolding cost_line
returns-then-page-before c =
    let s = c.args.s in
    let part = c.args.part in
    let o = part.columns.now in
    let p = o.plan in
    let ns = nodes_in p.table.now in
    let loop : LoopAllowed p.t p.l = (p.ready.loop-low, p.ready.loop-high) in
    let e : length ns ≡ p.nodes = omega (arith, length-nodes_in p.m p.table.now) in
    let named = c.from-v.ensures ∙ ap (λ (k : ℕ). k + s) c.first_variable.ensures.0 in
    let goals = c.goal-goal.ensures ∙ goal-is p.t p.m p.l ns p.nodes e c.slack.ensures in
    let lines = users-emitted p.t p.m p.l loop ns part.x s _ named c.requires.1 part.found c.put_users.ensures.0 o.goal goals c.put_row.ensures.0 in
    let q = c.put_number_line.ensures in
    (column-none p.t p.m p.l loop ns part.x s _ named c.requires.1 lines c.if-page-before.true q.0, omega (arith, q.1))

pub returns-else-page-before : goal.returns-else-page-before
returns-else-page-before c =
    let s = c.args.s in
    let part = c.args.part in
    let o = part.columns.now in
    let p = o.plan in
    let ns = nodes_in p.table.now in
    let loop : LoopAllowed p.t p.l = (p.ready.loop-low, p.ready.loop-high) in
    let e : length ns ≡ p.nodes = omega (arith, length-nodes_in p.m p.table.now) in
    let named = c.from-v.ensures ∙ ap (λ (k : ℕ). k + s) c.first_variable.ensures.0 in
    let goals = c.goal-goal.ensures ∙ goal-is p.t p.m p.l ns p.nodes e c.slack.ensures in
    let lines = users-emitted p.t p.m p.l loop ns part.x s _ named c.requires.1 part.found c.put_users.ensures.0 o.goal goals c.put_row.ensures.0 in
    (column-some p.t p.m p.l loop ns part.x s _ named c.requires.1 lines c.if-page-before.false, omega (arith, c.put_row.ensures.1, c.put_users.ensures.1))
