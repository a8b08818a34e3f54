-- `rowlist_text::put_terms` meets its contract. The loop's invariant: the terms that are left, written at the cursor, make what is wanted.
use Rattle.std.proofs.Common.{arith, length-drop}
use Rattle.rowlist_text.proofs.Records.{tail-is, terms_end, terms_turn, rest-next, rest-done}
use Rattle.rowlist_text.proofs.put_terms.Goals as goal

pub loop-rest-preserved : goal.loop-rest-preserved
loop-rest-preserved c =
    let b = c.loop-rest.rest.now in
    rw (tail-is 3 b)
    (record {
      room = omega (arith, length-drop 3 b);
      left = rest-next (rw (terms_turn b c.in-len3-up.len_at_least) at c.loop-rest.invariant.left) c.put_term.ensures.put;
    })

pub returns : goal.returns
returns c =
    let b = c.loop-rest.rest.now in
    (rest-done (rw (terms_end b c.in_default.len_below) at c.loop-rest.invariant.left), omega arith)
