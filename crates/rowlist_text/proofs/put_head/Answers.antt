-- `rowlist_text::put_head` meets its contract.
use Rattle.std.proofs.Common.{arith}
use Rattle.cursor.specs.Puts.{then}
use Rattle.text.proofs.DecimalLaws.{below_100000}
use Rattle.rowlist_text.specs.RowText.{head_text}
use Rattle.rowlist_text.proofs.put_head.Goals as goal

pub returns : goal.returns
unfolding head_text
returns c = (
  then c.put_bytes.ensures (then c.put_decimal.ensures (then c.put_bytes-2.ensures (then c.put_decimal-2.ensures c.put_byte.ensures))),
  omega (arith, below_100000 c.args.count c.requires.0, below_100000 c.args.variables c.requires.1),
)
