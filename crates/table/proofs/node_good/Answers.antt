-- `table::node_good` meets its contract. Assumes nothing.
use Rattle.std.proofs.Common.{sym, ◌∙◌}
use mathlib.Core.Bool.{and-false}
use Rattle.table.specs.Nodes.{node_in_kind, read-good, unread-bad}
use Rattle.table.proofs.node_good.Goals as goal

pub returns-then-marked : goal.returns-then-marked
returns-then-marked c =
    rw (sym c.marked.ensures ∙ c.if-marked.true, node_in_kind)
    (c.parts_good.ensures ∙ read-good c.args.m c.args.n _ _ _ _ _ _ c.in-Ok.ensures)

pub returns-in-Err : goal.returns-in-Err
returns-in-Err c = rw (node_in_kind, sym (unread-bad c.args.m c.args.n _ _ _ _ _ _ c.in-Err.ensures), and-false)
