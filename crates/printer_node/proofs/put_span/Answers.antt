-- `printer_node::put_span` meets its contract, a piece behind another.
use native.Mathlib.Omega.{arith}
use Rattle.cursor.specs.Puts.{then}
use Rattle.printer_node.specs.Shapes.{span-length}
use Rattle.printer_node.proofs.put_span.Goals as goal

pub put_number-requires : goal.put_number-requires
put_number-requires c = (c.requires.0, omega (arith, span-length c.args.a c.args.b))

pub put_byte-requires-2 : goal.put_byte-requires-2
put_byte-requires-2 c = omega (arith, span-length c.args.a c.args.b)

pub put_number-requires-2 : goal.put_number-requires-2
put_number-requires-2 c = (c.requires.1, omega (arith, span-length c.args.a c.args.b))

pub put_byte-requires-3 : goal.put_byte-requires-3
put_byte-requires-3 c = omega (arith, span-length c.args.a c.args.b)

pub returns : goal.returns
returns c =
    then c.put_byte.ensures (then c.put_number.ensures (then c.put_byte-2.ensures (then c.put_number-2.ensures c.put_byte-3.ensures)))
