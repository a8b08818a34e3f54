-- `rows_record::put_single` meets its contract: the head, and the term straight after it.
use Rattle.cursor.specs.Puts.{then}
use Rattle.rows_record.proofs.put_single.Goals as goal

pub returns : goal.returns
returns c = then c.put.ensures c.put_term.ensures
