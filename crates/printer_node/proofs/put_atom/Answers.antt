-- `printer_node::put_atom` meets its contract.
use Rattle.cursor.specs.Puts.{then}
use Rattle.printer_node.proofs.put_atom.Goals as goal

pub returns : goal.returns
returns c = then c.put_byte.ensures c.put_decimal.ensures
