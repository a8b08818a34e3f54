-- `rows_family::put_range` meets its contract.
use Rattle.std.proofs.Common.{refl, rules, ◌∙◌}
use Rattle.rows_family.proofs.put_range.Goals as goal

pub put_run-requires-clause-puts : goal.put_run-requires-clause-puts
put_run-requires-clause-puts g c =
    let puts = c.requires.puts.1 in
    (c.requires.puts.0, record { may = puts.may; does = puts.does }, c.requires.puts.2)

pub returns : goal.returns
returns g c = λ bytes puts h.
    let run = c.put_run.ensures bytes (record { may = puts.may; does = puts.does }) h in
    let same = run.same in
    record {
      same = search rules;
      room = search rules ∙ run.room;
      put = record { content = search rules ∙ run.put.content; ends = run.put.ends };
    }
