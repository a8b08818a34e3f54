-- `rows_family::put_above` meets its contract.
use Rattle.cursor.specs.Puts.{said}
use Rattle.rows_record.specs.Records.{record_is}
use Rattle.rows_family.proofs.put_above.Goals as goal

pub returns : goal.returns
returns c = said (record_is _ c.above.ensures) c.put_row.ensures
