-- `printer_node::put_head` meets its contract: without a window, and with one.
use Rattle.std.proofs.Common.{ap, length, arith}
use Rattle.cursor.specs.Puts.{then}
use Rattle.printer_node.specs.Shapes.{window_text, span-length}
use Rattle.printer_node.proofs.put_head.Goals as goal

pub put_span-requires : goal.put_span-requires
put_span-requires c =
    let e = ap (λ w. length (window_text w)) c.in-Some.is in
    let low = rw c.in-Some.is at c.requires.0 in
    (omega (arith, low), omega (arith, low), omega (arith, span-length))

pub returns-in-Some : goal.returns-in-Some
returns-in-Some c = rw c.in-Some.is (then c.put_byte.ensures c.put_span.ensures)
