-- `rows_node::write_run` meets its contract.
use Rattle.std.proofs.Common.{arith}
use Rattle.rows_family.specs.Put.{turns_none, turns_room, turns_more, turns_all}
use Rattle.rows_node.specs.Families.{at_slot, at_slots}
use Rattle.rows_node.proofs.write_run.Goals as goal

pub put-requires : goal.put-requires
unfolding at_slots
put-requires g c =
    let puts = c.requires.puts in
    let before = c.loop-s.invariant puts.0 puts.1 puts.2 in
    let room = turns_room (at_slot puts.0 c.args.block) before c.args.n (omega arith) puts.2 in
    puts.1.may _ _ _ _ _ (omega arith, omega arith, omega arith, omega arith) room

pub loop-s-init : goal.loop-s-init
loop-s-init g c = λ rows puts room. turns_none (at_slot rows c.args.block) _

pub loop-s-preserved : goal.loop-s-preserved
unfolding at_slots
loop-s-preserved g c = λ rows puts h.
    let f = at_slot rows c.args.block in
    let before = c.loop-s.invariant rows puts h in
    let room = turns_room f before c.args.n (omega arith) h in
    turns_more f before (puts.does _ _ _ _ _ (omega arith, omega arith, omega arith, omega arith) room _ _ c.put.ensures)

pub returns : goal.returns
unfolding at_slots
returns g c = λ rows puts h. turns_all (at_slot rows c.args.block) (c.loop-s.invariant rows puts h) (omega arith)
