-- `demands::print_back` meets its contract: what is answered and written, from the contracts of `reader::read` and
-- `printer::print`.
use Rattle.std.proofs.Common.{sym, arith}
use Rattle.answers.specs.Meaning.{answer_of}
use lib.Seq.{length-take-le}
use Rattle.std.proofs.lemmas.Result.{err_from_is_err_and}
use Rattle.headlines.proofs.Printing.{back-unread, back-unprinted, printed-room, back_done}
use Rattle.demands.proofs.Room.{records_fit, records_length}
use Rattle.demands.proofs.print_back.Goals as goal

pub overflow_mul-whole : goal.overflow_mul-whole
overflow_mul-whole c = omega (arith, records_fit _ _ _ _ _ c.read.ensures.out_after c.in_ok-nodes.ensures.r_value)

pub slice_bounds-whole-end : goal.slice_bounds-whole-end
slice_bounds-whole-end c = (records_fit _ _ _ _ _ c.read.ensures.out_after c.in_ok-nodes.ensures.r_value).0

pub slice_bounds-whole-end-2 : goal.slice_bounds-whole-end-2
slice_bounds-whole-end-2 c = records_length _ _ _ _ _ c.read.ensures.out_after c.in_ok-nodes.ensures.r_value

pub returns-in_err-nodes : goal.returns-in_err-nodes
returns-in_err-nodes c =
    let a = c.args in
    let k = c.read in
    let p = err_from_is_err_and c.from_residual.result c.from_residual.ensures.1 in
    rw (p.1, p.2) (back-unread a.m a.text.now a.table.now a.out.now a.again.now k.new.out k.ensures.out_after _ c.in_err-nodes.ensures.r_value)

pub slice_bounds-read-end : goal.slice_bounds-read-end
slice_bounds-read-end c =
    let a = c.args in
    let k = c.read in
    let w = c.print in
    let room = printed-room a.m a.text.now a.table.now a.out.now a.again.now k.new.out k.ensures.out_after _ c.in_ok-nodes.ensures.r_value
    w.new.out w.ensures.out_after _ c.in_ok-length.ensures.r_value in
    omega (arith, room)

pub slice_bounds-read-end-2 : goal.slice_bounds-read-end-2
slice_bounds-read-end-2 c =
    let a = c.args in
    let k = c.read in
    let w = c.print in
    let room = printed-room a.m a.text.now a.table.now a.out.now a.again.now k.new.out k.ensures.out_after _ c.in_ok-nodes.ensures.r_value
    w.new.out w.ensures.out_after _ c.in_ok-length.ensures.r_value in
    sym (length-take-le _ _ (omega (arith, room)))

pub returns-in_err-length : goal.returns-in_err-length
returns-in_err-length c =
    let a = c.args in
    let k = c.read in
    let w = c.print in
    let p = err_from_is_err_and c.from_residual-in_err-length.result c.from_residual-in_err-length.ensures.1 in
    rw (p.1, p.2) (back-unprinted a.m a.text.now a.table.now a.out.now a.again.now k.new.out k.ensures.out_after _ c.in_ok-nodes.ensures.r_value
    w.new.out w.ensures.out_after _ c.in_err-length.ensures.r_value)

pub returns : goal.returns
returns c =
    let a = c.args in
    let k = c.read in
    let w = c.print in
    let e = c.read-2 in
    back_done a.m a.text.now a.table.now a.out.now a.again.now k.new.out k.ensures.out_after _ c.in_ok-nodes.ensures.r_value
    w.new.out w.ensures.out_after _ c.in_ok-length.ensures.r_value e.new.out (answer_of e.result) e.ensures.r_value e.ensures.out_after
