-- `rows_node::run_windows` meets its contract.
use Rattle.std.proofs.Common.{arith}
use Rattle.rows_family.specs.Put.{turns_none, turns_room, turns_more, turns_all}
use Rattle.rows_node.specs.Blocks.{slot_bytes, block_bytes, window-rows}
use Rattle.rows_node.proofs.run_windows.Goals as goal

pub loop-s-init : goal.loop-s-init
loop-s-init c = turns_none (slot_bytes c.args.block c.args.t c.args.l) _

pub put_window-requires-clause-p_in_bounds : goal.put_window-requires-clause-p_in_bounds
unfolding block_bytes
put_window-requires-clause-p_in_bounds c =
    let a = c.args in
    let is = window-rows a.block a.t a.l c.loop-s.s c.look-looks.result c.requires.window.0 c.look-looks.ensures in
    rw is (turns_room (slot_bytes a.block a.t a.l) c.loop-s.invariant a.t (omega arith) c.requires.block_in_bounds)

pub loop-s-preserved : goal.loop-s-preserved
unfolding block_bytes
loop-s-preserved c =
    let a = c.args in
    let is = window-rows a.block a.t a.l c.loop-s.s c.look-looks.result c.requires.window.0 c.look-looks.ensures in
    turns_more (slot_bytes a.block a.t a.l) c.loop-s.invariant (rw is at c.put_window.ensures)

pub returns : goal.returns
unfolding block_bytes
returns c = turns_all (slot_bytes c.args.block c.args.t c.args.l) c.loop-s.invariant (omega arith)
