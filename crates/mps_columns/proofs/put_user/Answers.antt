-- `mps_columns::put_user` meets its contract. Assumes nothing.
use Rattle.std.proofs.Common.{◌≡◌, ap₂, List, ℕ, ◌≤◌, length, arith}
use Rattle.cursor.specs.declared.Cursor.{Cursor}
use Rattle.rules.specs.Table.{Node}
use Rattle.rules.specs.Rows.{Row}
use Rattle.rules.specs.TableTest.{nodes_in}
use Rattle.mps.specs.Page.{entry_line, each_row}
use Rattle.row.specs.NodeRows.{rows_to}
use Rattle.mps_line.specs.Emitted.{emitted_as}
use Rattle.mps_row.specs.Laws.{node_text, start_small}
use Rattle.mps_node.specs.declared.Blocks.{Blocks}
use Rattle.mps_node.specs.Places.{blocks_rows, BlocksAt}
use Rattle.mps_node.specs.Turns.{blocks-rows}
use Rattle.mps_users.specs.Users.{kept_part}
use Rattle.mps_columns.specs.Walk.{own-whole, kept_whole}
use Rattle.mps_columns.proofs.put_user.Goals as goal

-- the lines of node n's blocks, where its first row has the number `start`
user-lines : (T M L : ℕ) (ns : List Node) (n : ℕ) (line : ℕ → Row → List ℕ) (a : Cursor) {start v : ℕ} {bs : Blocks} → start ≡ length (rows_to T M L ns n)
    → BlocksAt T M L ns n v bs → 1 ≤ T →
    each_row line start (blocks_rows T L bs) ≡ node_text T M L ns line n
unfolding node_text
user-lines T M L ns n line a e b h = ap₂ (λ (i : ℕ) (rs : List Row). each_row line i rs) e (blocks-rows T M L ns line a b h)

pub put_node-requires : goal.put_node-requires
put_node-requires c =
    let o = c.args.columns.now in
    let p = o.plan in
    let n = c.args.n in
    let r = c.requires in
    let b = c.blocks_at-blocks.ensures in
    let few = start_small p.t p.m p.l (nodes_in p.table.now) n p.ready.slots-high (omega arith) in
    let own = own-whole p.t p.m p.l n _ b.node _ b.own_is in
    record {
      lines_fit = (r.0, r.1, omega (arith, few, o.laid.starts n r.2), p.ready.loop-low, p.ready.loop-high, p.ready.slots-high);
      fit = (b.own-fit, own, b.kept-fit, kept_whole p.t (kept_part p.m (nodes_in p.table.now) n) _ _ _ _ b.place b.kept-is own);
    }

pub returns : goal.returns
returns c =
    let o = c.args.columns.now in
    let p = o.plan in
    let n = c.args.n in
    let q = c.put_node.ensures in
    let lines = user-lines p.t p.m p.l (nodes_in p.table.now) n (entry_line c.args.variable.v) c.args.page.now (o.laid.starts n c.requires.2) c.blocks_at-blocks.ensures
    p.ready.slots-low in
    (emitted_as lines q.0, q.1)
