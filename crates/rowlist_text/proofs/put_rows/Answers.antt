-- `rowlist_text::put_rows` meets its contract. The loop's invariant: the lines from row i on, written at the cursor, make the page that is wanted.
use Rattle.std.proofs.Common.{◌+◌, ◌*◌, get_or, arith, length-drop}
use Rattle.rowlist_text.proofs.Records.{tail-is, rows_end, rows_turn, whole-next, rest-next, rest-done}
use Rattle.rowlist_text.proofs.put_rows.Goals as goal

pub loop-i-preserved : goal.loop-i-preserved
loop-i-preserved c =
    let l = c.loop-i in
    let b = l.rest.now in
    let n = 5 + 3 * get_or b 3 0 in
    let w = whole-next l.i c.args.count b c.loop-i-test.true l.invariant.whole in
    rw (c.from.ensures, tail-is n b)
    (record {
      records = omega (arith, length-drop n b, w.0);
      room = omega (arith, length-drop n b, w.0, c.put_row.ensures.upper_bound);
      whole = w.1;
      left = rest-next (rw (rows_turn l.i c.args.count b c.loop-i-test.true) at l.invariant.left) c.put_row.ensures.put;
    })

pub returns-clause-put : goal.returns-clause-put
returns-clause-put c =
    let l = c.loop-i in
    rest-done (rw (rows_end l.i c.args.count l.rest.now c.loop-i-test.false) at l.invariant.left)
