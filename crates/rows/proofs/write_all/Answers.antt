-- `rows::write_all` meets its contract: the nodes' rows, and the goal row straight after them.
use Rattle.std.proofs.Common.{List, ◌++◌, ◌+◌, ◌≤◌, ℕ, length, sym, ap, ◌∙◌, arith, rules}
use Rattle.lists.specs.Splice.{sets_splice}
use Rattle.cursor.specs.Puts.{then, said}
use Rattle.rules.specs.Rows.{rows_of, rows_bytes}
use Rattle.rules.specs.TableTest.{nodes_in}
use Rattle.rules.proofs.TableTest.{length-nodes_in}
use Rattle.rows_record.specs.Records.{record_is}
use Rattle.row.specs.NodeRows.{goal-is}
use Rattle.rows.specs.Parts.{nodes_bytes, before-goal, bytes-are}
use Rattle.rows.proofs.write_all.Goals as goal

pub write_nodes-requires : goal.write_nodes-requires
write_nodes-requires c =
    let p = c.args.plan in
    let are = length-nodes_in p.m p.table.now ∙ sym p.counted in
    omega (arith, c.requires, before-goal p.t p.m p.l (nodes_in p.table.now) p.nodes are)

pub put_row-requires : goal.put_row-requires
put_row-requires c =
    let p = c.args.plan in
    let are = length-nodes_in p.m p.table.now ∙ sym p.counted in
    let nodes = c.write_nodes.ensures in
    let all = before-goal p.t p.m p.l (nodes_in p.table.now) p.nodes are in
    omega (arith, c.requires, ap length (record_is c.goal-goal.result c.goal-goal.ensures), nodes.room, nodes.put.ends)

pub returns : goal.returns
returns c =
    let p = c.args.plan in
    let ns = nodes_in p.table.now in
    let are = length-nodes_in p.m p.table.now ∙ sym p.counted in
    let goal = goal-is p.t p.m p.l ns p.nodes are c.slack.ensures in
    let r = c.goal-goal in
    let nodes = nodes_bytes p.t p.m p.l ns p.nodes in
    let is = ap (λ (b : List ℕ). nodes ++ b) (record_is r.result (r.ensures ∙ goal)) ∙ bytes-are p.t p.m p.l ns p.nodes are in
    let puts = said is (then c.write_nodes.ensures c.put_row.ensures) in
    let room : 0 + length (rows_bytes (rows_of p.t p.m p.l ns)) ≤ length c.args.out.now = omega (arith, c.requires) in
    let same = puts.same in
    search rules ∙ puts.put.content ∙ sets_splice 0 (rows_bytes (rows_of p.t p.m p.l ns)) c.args.out.now room
