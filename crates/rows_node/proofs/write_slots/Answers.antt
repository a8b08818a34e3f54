-- `rows_node::write_slots` meets its contract.
use Rattle.std.proofs.Common.{rules, ◌∙◌}
use Rattle.rows_node.proofs.write_slots.Goals as goal

pub write_run-requires-clause-puts : goal.write_run-requires-clause-puts
write_run-requires-clause-puts g c =
    let puts = c.requires.puts.1 in
    (c.requires.puts.0, record { may = puts.may; does = puts.does }, c.requires.puts.2)

pub returns : goal.returns
returns g c = λ rows puts h.
    let run = c.write_run.ensures rows (record { may = puts.may; does = puts.does }) h in
    let same = run.same in
    record {
      same = search rules;
      room = search rules ∙ run.room;
      put = record { content = search rules ∙ run.put.content; ends = run.put.ends };
    }
