-- `rowlist_text::put_row` meets its contract.
use Rattle.std.proofs.Common.{◌≡◌, ◌+◌, ◌-◌, ◌*◌, ◌/◌, get_or, length, take, drop, arith, length-drop, length-take-le}
use Rattle.cursor.specs.Puts.{then}
use Rattle.rowlist_text.specs.RowText.{row_text}
use Rattle.rowlist_text.proofs.Records.{terms-cut}
use Rattle.rowlist_text.proofs.put_row.Goals as goal

pub returns-clause-put : goal.returns-clause-put
unfolding row_text
returns-clause-put c =
    let k = get_or c.args.row.now 3 0 in
    let b = drop 5 c.args.row.now in
    let n : 5 + 3 * c.from.result - 5 ≡ 3 * k = omega (arith, c.from.ensures) in
    let m : length (take (3 * k) b) ≡ 3 * k = length-take-le (3 * k) b (omega (arith, length-drop 5 c.args.row.now)) in
    let q : 3 * k / 3 ≡ k = omega arith in
    let f = rw (n, m, q, terms-cut) at c.put_terms.ensures.0 in
    then c.put_decimal.ensures (then c.put_byte.ensures (then c.put_relation.ensures.0 (then c.put_byte-2.ensures
    (then c.put_signed.ensures.0 (then f c.put_byte-3.ensures)))))
