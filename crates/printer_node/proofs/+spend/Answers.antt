-- `printer_node::spend` meets its contract. The node number falls at each call.
use Rattle.std.proofs.Common.{◌≡◌, arith}
use Rattle.printer_node.specs.Shapes.{grade_of, tighter, same-grade, paired_length, paired_spent, left_behind}
use Rattle.printer_node.proofs.+spend.Goals as goal

pub returns-in_err-rest-in-Paired-2 : goal.returns-in_err-rest-in-Paired-2
returns-in_err-rest-in-Paired-2 t c =
    let left : c.grade.result ≡ grade_of (tighter c.in-Paired.x.level) = omega (arith, same-grade) in
    let long = rw left at c.in_err-rest-in-Paired-2.ensures in
    rw c.from_residual-in_err-rest-in-Paired-2.ensures
    (λ fits. long (omega (
      arith,
      c.loop-free.invariant.spent,
      paired_length c.args.table.now c.loop-free.at c.loop-free.grade c.in-Paired.ensures,
      c.in_ok-rest-in-Paired.ensures,
    )))

pub returns-in-Paired : goal.returns-in-Paired
returns-in-Paired t c =
    let left : c.grade.result ≡ grade_of (tighter c.in-Paired.x.level) = omega (arith, same-grade) in
    let right : c.grade-in-Paired.result ≡ grade_of c.in-Paired.x.level = c.grade-in-Paired.ensures in
    left_behind c.args.room c.loop-free.free _ _ _ c.loop-free.invariant.spent
    (paired_spent c.args.table.now c.loop-free.at c.loop-free.grade c.in-Paired.ensures c.loop-free.free c.in_ok-rest-in-Paired.rest
    c.in_ok-rest-in-Paired-2.rest _ (rw c.pair_length.ensures at c.in_ok-rest-in-Paired.ensures) (rw left at c.in_ok-rest-in-Paired-2.ensures)
    (rw right at c.spend-in-Paired.ensures))
