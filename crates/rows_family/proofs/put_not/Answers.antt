-- `rows_family::put_not` meets its contract.
use Rattle.rows_family.specs.Put.{puts_none, row_first}
use Rattle.rows_family.proofs.put_not.Goals as goal

pub returns : goal.returns
returns c = row_first _ c.opposite.ensures c.put_row.ensures (puts_none _)
