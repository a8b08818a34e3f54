-- `rows_family::put_or` meets its contract.
use Rattle.rows_family.specs.Put.{puts_none, row_first}
use Rattle.rows_family.proofs.put_or.Goals as goal

pub returns : goal.returns
returns c =
    row_first _ c.above.ensures c.put_row.ensures (row_first _ c.above-2.ensures c.put_row-2.ensures (row_first _ c.covered.ensures c.put_row-3.ensures (puts_none _)))
