-- `rows_node::write_block` meets its contract: the slots before the last, and the last.
use Rattle.std.proofs.Common.{sym, arith}
use Rattle.cursor.specs.Puts.{then, said}
use Rattle.rows_family.specs.Put.{first-room, second-room}
use Rattle.rows_node.specs.Families.{all-parts, all-on, all-off}
use Rattle.rows_node.proofs.write_block.Goals as goal

pub write_slots-requires-clause-puts : goal.write_slots-requires-clause-puts
write_slots-requires-clause-puts g c =
    let a = c.args in
    let puts = c.requires.puts.1 in
    let parts = all-parts c.requires.puts.0 a.block a.alone a.t in
    (c.requires.puts.0, record { may = puts.may; does = puts.does }, first-room _ _ parts a.out.now c.requires.puts.2)

pub put-requires : goal.put-requires
put-requires g c =
    let a = c.args in
    let puts = c.requires.puts.1 in
    let parts = all-on c.requires.puts.0 a.block a.alone a.t c.in-Some.is in
    let first = c.write_slots.ensures c.requires.puts.0 (record { may = puts.may; does = puts.does }) (first-room _ _ parts a.out.now c.requires.puts.2) in
    let low = rw c.in-Some.is at c.requires.low.2.next_low in
    puts.may _ _ _ _ _ (omega arith, omega arith, omega arith, omega arith)
    (second-room _ _ parts a.out.now c.requires.puts.2 {b = c.write_slots.new.out} first)

pub put_same-requires : goal.put_same-requires
put_same-requires g c =
    let a = c.args in
    let puts = c.requires.puts.1 in
    let parts = all-off c.requires.puts.0 a.block a.alone a.t c.in-None.is in
    let first = c.write_slots.ensures c.requires.puts.0 (record { may = puts.may; does = puts.does }) (first-room _ _ parts a.out.now c.requires.puts.2) in
    second-room _ _ parts a.out.now c.requires.puts.2 {b = c.write_slots.new.out} first

pub returns-in-Some : goal.returns-in-Some
returns-in-Some g c = λ rows puts h.
    let a = c.args in
    let parts = all-on rows a.block a.alone a.t c.in-Some.is in
    let first = c.write_slots.ensures rows (record { may = puts.may; does = puts.does }) (first-room _ _ parts a.out.now h) in
    let low = rw c.in-Some.is at c.requires.low.2.next_low in
    let last = puts.does _ _ _ _ _ (omega arith, omega arith, omega arith, omega arith)
    (second-room _ _ parts a.out.now h {b = c.write_slots.new.out} first) _ _ c.put.ensures in
    said (sym parts) (then first last)

pub returns-in-None : goal.returns-in-None
returns-in-None g c = λ rows puts h.
    let a = c.args in
    let parts = all-off rows a.block a.alone a.t c.in-None.is in
    let first = c.write_slots.ensures rows (record { may = puts.may; does = puts.does }) (first-room _ _ parts a.out.now h) in
    said (sym parts) (then first c.put_same.ensures)
