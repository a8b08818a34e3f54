-- `text::put_decimal` meets its contract. The number falls at each call.
use Rattle.std.proofs.Common.{arith}
use Rattle.cursor.specs.Puts.{then}
use Rattle.text.proofs.DecimalLaws.{decimal-low, decimal-pair, decimal-pairs, length-low, length-pair, length_pairs}
use Rattle.text.proofs.+put_decimal.Goals as goal

pub put_byte-requires : goal.put_byte-requires
put_byte-requires t c = omega (arith, length-low c.args.n (omega arith))

pub returns-in-0-to-9 : goal.returns-in-0-to-9
returns-in-0-to-9 t c = rw (decimal-low c.args.n (omega arith)) c.put_byte.ensures

pub put_pair-requires : goal.put_pair-requires
put_pair-requires t c = omega (arith, length-pair c.args.n (omega arith) (omega arith))

pub returns-in-10-to-99 : goal.returns-in-10-to-99
returns-in-10-to-99 t c = rw (decimal-pair c.args.n (omega arith) (omega arith)) c.put_pair.ensures

pub put_decimal-requires : goal.put_decimal-requires
put_decimal-requires t c = omega (arith, length_pairs c.args.n (omega arith))

pub put_pair-requires-in_default : goal.put_pair-requires-in_default
put_pair-requires-in_default t c = omega (arith, length_pairs c.args.n (omega arith))

pub returns-in_default : goal.returns-in_default
returns-in_default t c = rw (decimal-pairs c.args.n (omega arith)) (then c.put_decimal.ensures c.put_pair-in_default.ensures)
