-- The atoms' variables and the slacks.
use Rattle.std.proofs.Common.{sym, ◌∙◌}
use Rattle.rules.proofs.TableTest.{length-nodes_in}
use Rattle.judge.specs.Checks.{variables-are}
use Rattle.judge.proofs.variable_count.Goals as goal

pub returns : goal.returns
returns c =
    let x = c.args.plan in
    let nodes = x.counted ∙ sym (length-nodes_in x.m x.table.now) in
    variables-are x.t x.m x.l x.table.now nodes c.kept_count.ensures.0 (c.from.ensures ∙ c.first_variable.ensures.0)
