-- `rows_node::write_windows` meets its contract.
use Rattle.std.proofs.Common.{rules, ◌∙◌}
use Rattle.rows_node.proofs.write_windows.Goals as goal

pub returns : goal.returns
returns c =
    let run = c.run_windows.ensures in
    let same = run.same in
    record {
      same = search rules;
      room = search rules ∙ run.room;
      put = record { content = search rules ∙ run.put.content; ends = run.put.ends };
    }
