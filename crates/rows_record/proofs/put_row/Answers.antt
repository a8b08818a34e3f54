-- `rows_record::put_row` meets its contract: by the number of terms.
use Rattle.std.proofs.Common.{◌≡◌, rules}
use Rattle.cursor.specs.Puts.{said}
use Rattle.rules.specs.Rows.{signed_byte}
use Rattle.rows_record.specs.Records.{pair-bytes, triple-bytes}
use Rattle.rows_record.proofs.put_row.Goals as goal

pub returns-in-Pair : goal.returns-in-Pair
returns-in-Pair c =
    let right : c.signed_byte-right.result ≡ signed_byte c.args.row.right = search rules in
    said (pair-bytes c.args.row c.relation_byte-relation.ensures right c.in-Pair.is) c.put_pair.ensures

pub returns-in-Triple : goal.returns-in-Triple
returns-in-Triple c =
    let right : c.signed_byte-right.result ≡ signed_byte c.args.row.right = search rules in
    said (triple-bytes c.args.row c.relation_byte-relation.ensures right c.in-Triple.is) c.put_triple.ensures
