-- `rows_node::write_both` meets its contract: with the V's rows first, or without them.
use Rattle.std.proofs.Common.{sym, ◌∙◌}
use Rattle.cursor.specs.Puts.{then, said}
use Rattle.rows_family.specs.Put.{one-room, first-room, second-room}
use Rattle.rows_node.specs.Families.{kept-off, kept-on}
use Rattle.rows_node.proofs.write_both.Goals as goal
use Rattle.rows_node.proofs.write_both.Goals.{then-is_some, else-is_some}

pub write_block-requires-clause-puts : goal.write_block-requires-clause-puts
write_block-requires-clause-puts g c =
    let a = c.args in
    let puts = c.requires.puts.1 in
    let is = kept-on c.requires.puts.0 a.own a.v a.alone a.t c.kept_block.result c.kept_block.ensures.0 (sym c.is_some.ensures ∙ c.if-is_some.true) in
    (c.requires.puts.0, record { may = puts.may; does = puts.does }, first-room _ _ is a.out.now c.requires.puts.2)

pub write_block-requires-2-clause-puts : goal.write_block-requires-2-clause-puts
write_block-requires-2-clause-puts g c =
    let a = c.args in
    let rows = c.requires.puts.0 in
    let puts = c.requires.puts.1 in
    elim c.if-is_some.branch [
      | then-is_some w ↦
          let is = kept-on rows a.own a.v a.alone a.t w.kept_block.result w.kept_block.ensures.0 (sym c.is_some.ensures ∙ w.if-is_some.true) in
          let first = w.write_block.ensures rows (record { may = puts.may; does = puts.does }) (first-room _ _ is a.out.now c.requires.puts.2) in
          (rows, record { may = puts.may; does = puts.does }, rw w.out-is (second-room _ _ is a.out.now c.requires.puts.2 {b = w.write_block.new.out} first))
      | else-is_some w ↦
          let is = kept-off rows a.own a.v a.alone a.t (sym c.is_some.ensures ∙ w.if-is_some.false) in
          (rows, record { may = puts.may; does = puts.does }, rw w.out-is (one-room a.out.now is c.requires.puts.2))
    ]

pub returns : goal.returns
returns g c = λ rows puts h.
    let a = c.args in
    elim c.if-is_some.branch [
      | then-is_some w ↦
          let is = kept-on rows a.own a.v a.alone a.t w.kept_block.result w.kept_block.ensures.0 (sym c.is_some.ensures ∙ w.if-is_some.true) in
          let first = w.write_block.ensures rows (record { may = puts.may; does = puts.does }) (first-room _ _ is a.out.now h) in
          let second = (rw w.out-is at c.write_block-2.ensures) rows (record { may = puts.may; does = puts.does })
          (second-room _ _ is a.out.now h {b = w.write_block.new.out} first) in
          said (sym is) (then {b = w.write_block.new.out} first second)
      | else-is_some w ↦
          let is = kept-off rows a.own a.v a.alone a.t (sym c.is_some.ensures ∙ w.if-is_some.false) in
          said (sym is) ((rw w.out-is at c.write_block-2.ensures) rows (record { may = puts.may; does = puts.does }) (one-room a.out.now is h))
    ]
