-- `printer_node::shape_at` meets its contract.
use Rattle.std.proofs.Common.{sym, subst}
use Rattle.printer_node.specs.Shapes.{Shaped, shaped}
use Rattle.printer_node.proofs.shape_at.Goals as goal

pub returns : goal.returns
returns c =
    subst (Shaped c.args.table.now c.args.n) (sym c.shape_of.ensures)
    (shaped c.args.table.now c.args.n c.node_at.result c.requires.0 c.requires.1 c.node_at.ensures)
