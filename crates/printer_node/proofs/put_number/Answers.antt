-- `printer_node::put_number` meets its contract: one digit, or two.
use Rattle.std.proofs.Common.{arith}
use Rattle.text.proofs.DecimalLaws.{decimal-low, decimal-pair, length-low, length-pair}
use Rattle.printer_node.proofs.put_number.Goals as goal

pub put_byte-requires : goal.put_byte-requires
put_byte-requires c = omega (arith, length-low c.args.n c.if-n-lt10.true)

pub put-requires : goal.put-requires
put-requires c = (omega arith, omega (arith, length-pair c.args.n (omega (arith, c.if-n-lt10.false)) c.requires.0))

pub returns-then-n-lt10 : goal.returns-then-n-lt10
returns-then-n-lt10 c = rw (decimal-low c.args.n c.if-n-lt10.true) c.put_byte.ensures

pub returns-else-n-lt10 : goal.returns-else-n-lt10
returns-else-n-lt10 c = rw (decimal-pair c.args.n (omega (arith, c.if-n-lt10.false)) c.requires.0) c.put.ensures
