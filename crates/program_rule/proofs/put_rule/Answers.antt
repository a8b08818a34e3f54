-- `program_rule::put_rule` meets its contract. By the answer of reading the rule. Assumes nothing.
use Rattle.std.proofs.Common.{◌*◌, refl, arith, sym, length, replicate, length-take-le}
use Rattle.std.proofs.lemmas.Result.{err_from_is_err_and}
use Rattle.program_rule.specs.Sizes.{table_room}
use Rattle.program_rule.specs.Outcomes.{table-ready, rule_refused, rule_worked}
use Rattle.program_rule.proofs.put_rule.Goals as goal

pub returns-in_err-n : goal.returns-in_err-n
returns-in_err-n g c =
    let e = err_from_is_err_and c.from_residual.result c.from_residual.ensures.1 in
    rw (rule_refused (g.W.Work.made (length c.args.out.now)) c.args.t c.args.m c.args.text.now _ c.in_err-n.ensures.r_value, e.1, e.2) (refl, refl)

pub overflow_mul-table : goal.overflow_mul-table
overflow_mul-table g c =
    let a = c.args in
    let o = c.in_ok-n in
    let k = table-ready a.t a.m a.text.now (replicate table_room 0) c.read_rule.new.table o.n o.ensures.r_value o.ensures.table_after in
    omega (arith, k.read.few)

pub slice_bounds-table-end : goal.slice_bounds-table-end
slice_bounds-table-end g c =
    let a = c.args in
    let o = c.in_ok-n in
    let k = table-ready a.t a.m a.text.now (replicate table_room 0) c.read_rule.new.table o.n o.ensures.r_value o.ensures.table_after in
    k.table.holds

pub slice_bounds-put-end : goal.slice_bounds-put-end
slice_bounds-put-end g c =
    let a = c.args in
    let o = c.in_ok-n in
    let k = table-ready a.t a.m a.text.now (replicate table_room 0) c.read_rule.new.table o.n o.ensures.r_value o.ensures.table_after in
    sym (length-take-le (8 * c.in_ok-n.n) c.read_rule.new.table k.table.holds)

pub put-requires : goal.put-requires
put-requires g c =
    let a = c.args in
    let o = c.in_ok-n in
    let k = table-ready a.t a.m a.text.now (replicate table_room 0) c.read_rule.new.table o.n o.ensures.r_value o.ensures.table_after in
    (k.read.few, c.requires)

pub returns : goal.returns
returns g c =
    let a = c.args in
    let o = c.in_ok-n in
    let k = table-ready a.t a.m a.text.now (replicate table_room 0) c.read_rule.new.table o.n o.ensures.r_value o.ensures.table_after in
    rw (rule_worked (g.W.Work.made (length a.out.now)) a.t a.m a.text.now o.n c.read_rule.new.table k) c.put.ensures
