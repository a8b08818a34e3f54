-- `rows_family::put_each` meets its contract: one range of slots, or two.
use Rattle.std.proofs.Common.{arith, sym}
use Rattle.cursor.specs.Puts.{then, said}
use Rattle.rows_family.specs.Put.{first-room, second-room}
use Rattle.rows_family.specs.Windows.{one-range, two-ranges}
use Rattle.rows_family.proofs.put_each.Goals as goal

pub put_range-requires-clause-puts : goal.put_range-requires-clause-puts
put_range-requires-clause-puts g c =
    let a = c.args in
    let puts = c.requires.puts.1 in (
      c.requires.puts.0,
      record { may = puts.may; does = puts.does },
      first-room _ _ (two-ranges c.requires.puts.0 a.looks a.p) a.out.now c.requires.puts.2,
    )

pub put_range-requires-then-looks-ne0-clause-puts : goal.put_range-requires-then-looks-ne0-clause-puts
put_range-requires-then-looks-ne0-clause-puts g c =
    let a = c.args in
    let puts = c.requires.puts.1 in
    let is = two-ranges c.requires.puts.0 a.looks a.p in
    let first = c.put_range.ensures c.requires.puts.0 (record { may = puts.may; does = puts.does }) (first-room _ _ is a.out.now c.requires.puts.2) in
    (c.requires.puts.0, record { may = puts.may; does = puts.does }, second-room _ _ is a.out.now c.requires.puts.2 {b = c.put_range.new.out} first)

pub returns-then-looks-ne0 : goal.returns-then-looks-ne0
returns-then-looks-ne0 g c = λ bytes puts h.
    let a = c.args in
    let is = two-ranges bytes a.looks a.p in
    let first = c.put_range.ensures bytes (record { may = puts.may; does = puts.does }) (first-room _ _ is a.out.now h) in
    let second = c.put_range-then-looks-ne0.ensures bytes (record { may = puts.may; does = puts.does }) (second-room _ _ is a.out.now h {b = c.put_range.new.out} first) in
    said (sym is) (then first second)

pub returns-else-looks-ne0 : goal.returns-else-looks-ne0
returns-else-looks-ne0 g c = λ bytes puts h.
    let a = c.args in
    let is = two-ranges bytes a.looks a.p in
    let first = c.put_range.ensures bytes (record { may = puts.may; does = puts.does }) (first-room _ _ is a.out.now h) in
    said (sym (one-range bytes a.looks a.p (omega arith))) first
