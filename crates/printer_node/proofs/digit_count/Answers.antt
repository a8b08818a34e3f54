-- `printer_node::digit_count` meets its contract.
use mathlib.Core.Path.{sym}
use native.Mathlib.Omega.{arith}
use Rattle.text.proofs.DecimalLaws.{length-low, length-pair}
use Rattle.printer_node.proofs.digit_count.Goals as goal

pub returns-then-n-lt10 : goal.returns-then-n-lt10
returns-then-n-lt10 c = (sym (length-low c.args.n c.if-n-lt10.true), omega arith)

pub returns-else-n-lt10 : goal.returns-else-n-lt10
returns-else-n-lt10 c = (sym (length-pair c.args.n (omega (arith, c.if-n-lt10.false)) c.requires), omega arith)
