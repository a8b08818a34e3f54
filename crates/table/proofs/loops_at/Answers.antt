-- `table::loops_at` meets its contract, by the node's kind. Assumes nothing.
use Rattle.std.proofs.Common.{ap, ◌∙◌}
use Rattle.rules.specs.Rows.{loops}
use Rattle.table.specs.Looping.{loops-by}
use Rattle.table.proofs.loops_at.Goals as goal

pub returns : goal.returns
returns c =
    let node = c.node_at.result in
    c.loops.ensures ∙ loops-by node.kind node.left node.right node.from node.to ∙ ap loops c.node_at.ensures.is
