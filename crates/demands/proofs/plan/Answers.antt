-- `demands::plan` meets its contract: what is answered and written, and demand 3, from the contracts of `reader::read`,
-- `rows::write_rows` and `evaluator::evaluate`.
use Rattle.std.proofs.Common.{arith}
use Rattle.std.proofs.lemmas.Result.{err_from_is_err_and}
use Rattle.headlines.proofs.Planning.{read-refused, rows-refused, evaluate-refused, all_done, both}
use Rattle.demands.proofs.Room.{records_fit, records_length}
use Rattle.demands.proofs.plan.Goals as goal

pub overflow_mul-records : goal.overflow_mul-records
overflow_mul-records c = omega (arith, records_fit _ _ _ _ _ c.read.ensures.out_after c.in_ok-nodes.ensures.r_value)

pub slice_bounds-records-end : goal.slice_bounds-records-end
slice_bounds-records-end c = (records_fit _ _ _ _ _ c.read.ensures.out_after c.in_ok-nodes.ensures.r_value).0

pub slice_bounds-records-end-2 : goal.slice_bounds-records-end-2
slice_bounds-records-end-2 c = records_length _ _ _ _ _ c.read.ensures.out_after c.in_ok-nodes.ensures.r_value

pub returns-in_err-nodes : goal.returns-in_err-nodes
returns-in_err-nodes c =
    let a = c.args in
    let h = a.horizon in
    let b = both h.t h.m h.l a.text.now a.run.now a.table.now a.rows.now a.truth.now _ _ _ _
    (read-refused h.t h.m h.l a.text.now a.run.now a.table.now a.rows.now a.truth.now
    c.read.new.out c.read.ensures.out_after _ c.in_err-nodes.ensures.r_value) in
    let p = err_from_is_err_and c.from_residual.result c.from_residual.ensures.1 in
    rw (p.1, p.2) record { planning = b.0; demanded = b.1 }

pub returns-in_err-count : goal.returns-in_err-count
returns-in_err-count c =
    let a = c.args in
    let h = a.horizon in
    let w = c.write_rows in
    let b = both h.t h.m h.l a.text.now a.run.now a.table.now a.rows.now a.truth.now _ _ _ _
    (rows-refused h.t h.m h.l a.text.now a.run.now a.table.now a.rows.now a.truth.now
    c.read.new.out c.read.ensures.out_after _ c.in_ok-nodes.ensures.r_value
    w.new.out w.ensures.out_after _ c.in_err-count.ensures.r_value) in
    let p = err_from_is_err_and c.from_residual-in_err-count.result c.from_residual-in_err-count.ensures.1 in
    rw (p.1, p.2) record { planning = b.0; demanded = b.1 }

pub returns-in_err-at_first : goal.returns-in_err-at_first
returns-in_err-at_first c =
    let a = c.args in
    let h = a.horizon in
    let w = c.write_rows in
    let e = c.evaluate in
    let b = both h.t h.m h.l a.text.now a.run.now a.table.now a.rows.now a.truth.now _ _ _ _
    (evaluate-refused h.t h.m h.l a.text.now a.run.now a.table.now a.rows.now a.truth.now
    c.read.new.out c.read.ensures.out_after _ c.in_ok-nodes.ensures.r_value
    w.new.out w.ensures.out_after _ c.in_ok-count.ensures.r_value
    e.new.out e.ensures.out_after _ c.in_err-at_first.ensures.r_value) in
    let p = err_from_is_err_and c.from_residual-in_err-at_first.result c.from_residual-in_err-at_first.ensures.1 in
    rw (p.1, p.2) record { planning = b.0; demanded = b.1 }

pub returns : goal.returns
returns c =
    let a = c.args in
    let h = a.horizon in
    let w = c.write_rows in
    let e = c.evaluate in
    let b = both h.t h.m h.l a.text.now a.run.now a.table.now a.rows.now a.truth.now _ _ _ _
    (all_done h.t h.m h.l a.text.now a.run.now a.table.now a.rows.now a.truth.now
    c.read.new.out c.read.ensures.out_after _ c.in_ok-nodes.ensures.r_value
    w.new.out w.ensures.out_after _ c.in_ok-count.ensures.r_value
    e.new.out e.ensures.out_after _ c.in_ok-at_first.ensures.r_value) in
    record { planning = b.0; demanded = b.1 }
