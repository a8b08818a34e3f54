-- `rows_family::put_run` meets its contract.
use Rattle.std.proofs.Common.{arith}
use Rattle.rows_family.specs.Put.{turns_none, turns_room, turns_more, turns_all}
use Rattle.rows_family.specs.Windows.{range, range_at}
use Rattle.rows_family.proofs.put_run.Goals as goal

pub put-requires : goal.put-requires
unfolding range
put-requires g c =
    let puts = c.requires.puts in
    let before = c.loop-i.invariant puts.0 puts.1 puts.2 in
    puts.1.may _ _ (omega arith) (turns_room (range_at puts.0 c.args.p) before c.args.n (omega arith) puts.2)

pub loop-i-init : goal.loop-i-init
loop-i-init g c = λ bytes puts room. turns_none (range_at bytes c.args.p) _

pub loop-i-preserved : goal.loop-i-preserved
unfolding range
loop-i-preserved g c = λ bytes puts h.
    let f = range_at bytes c.args.p in
    let before = c.loop-i.invariant bytes puts h in
    let room = turns_room f before c.args.n (omega arith) h in
    turns_more f before (puts.does _ _ (omega arith) room _ _ c.put.ensures)

pub returns : goal.returns
unfolding range
returns g c = λ bytes puts h. turns_all (range_at bytes c.args.p) (c.loop-i.invariant bytes puts h) (omega arith)
