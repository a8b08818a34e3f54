-- `printer_node::put_node` meets its contract. The node number falls at each call.
use Rattle.std.proofs.Common.{◌≡◌, arith}
use Rattle.printer_node.specs.Shapes.{grade_of, tighter, same-grade}
use Rattle.printer_node.specs.Putting.{left-putting, right-putting, prefixed_put, paired_put}
use Rattle.printer_node.proofs.+put_node.Goals as goal

pub put_node-requires-in-Paired : goal.put_node-requires-in-Paired
put_node-requires-in-Paired t c =
    let h = c.in-Paired.ensures in
    let left : c.grade-in-Paired.result ≡ grade_of (tighter c.in-Paired.x.level) = omega (arith, same-grade) in
    let opened = rw c.bracketed-wanted.ensures at c.put_if.ensures in
    let next = left-putting c.args.table.now c.args.n c.args.k c.args.page.now c.requires h opened in
    (omega (arith, h.good.0, c.decreases), rw left next)

pub put_node-requires-in-Paired-2 : goal.put_node-requires-in-Paired-2
put_node-requires-in-Paired-2 t c =
    let h = c.in-Paired.ensures in
    let left : c.grade-in-Paired.result ≡ grade_of (tighter c.in-Paired.x.level) = omega (arith, same-grade) in
    let right : c.grade-in-Paired-2.result ≡ grade_of c.in-Paired.x.level = c.grade-in-Paired-2.ensures in
    let opened = rw c.bracketed-wanted.ensures at c.put_if.ensures in
    let leftward = rw left at c.put_node-in-Paired.ensures in
    let next = right-putting c.args.table.now c.args.n c.args.k c.args.page.now c.requires h opened leftward c.put_byte.ensures in
    (omega (arith, h.good.1, c.decreases), rw right next)

pub returns-in-Prefixed : goal.returns-in-Prefixed
returns-in-Prefixed t c =
    prefixed_put c.args.table.now c.args.n c.args.k c.args.page.now c.requires c.in-Prefixed.ensures c.put_prefix.ensures
    (rw c.grade.ensures at c.put_node.ensures)

pub returns-in-Paired : goal.returns-in-Paired
returns-in-Paired t c =
    let left : c.grade-in-Paired.result ≡ grade_of (tighter c.in-Paired.x.level) = omega (arith, same-grade) in
    let e = c.bracketed-wanted.ensures in
    paired_put c.args.table.now c.args.n c.args.k c.args.page.now c.requires c.in-Paired.ensures (rw e at c.put_if.ensures)
    (rw left at c.put_node-in-Paired.ensures) c.put_byte.ensures (rw c.grade-in-Paired-2.ensures at c.put_node-in-Paired-2.ensures)
    (rw e at c.put_if-in-Paired.ensures)
