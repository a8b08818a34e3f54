-- `rowlist_page::list_rows` meets its contract. By the row writer's answer. Assumes nothing.
use Rattle.std.proofs.Common.{List, ◌++◌, ◌+◌, ◌*◌, refl, ap, arith}
use Rattle.std.proofs.lemmas.Result.{err_from_is_err_and}
use Rattle.rules.specs.Rows.{Row}
use Rattle.rowlist_text.specs.RowText.{head_text, rows_text}
use Rattle.rowlist_page.specs.Outcomes.{rows-ready, listed-rows, listed-refused}
use Rattle.rowlist_page.proofs.list_rows.Goals as goal

pub put_listing-requires : goal.put_listing-requires
put_listing-requires c =
    let a = c.args in
    let o = c.in_ok-count in
    let k = rows-ready a.t a.m a.table.now a.rows.now c.write_rows.new.out o.count c.requires.1 o.ensures.r_value o.ensures.out_after in
    record { n_bound = (c.requires.0, k.written.slots, k.written.atoms, omega (arith, k.size_is)); room = c.requires.2; whole = k.whole }

pub returns-in_err-count : goal.returns-in_err-count
returns-in_err-count c =
    let a = c.args in
    let e = err_from_is_err_and c.from_residual.result c.from_residual.ensures.1 in
    rw (listed-refused a.t a.m a.n _ a.table.now a.rows.now c.requires.1 c.in_err-count.ensures.r_value, e.1, e.2) (refl, refl)

pub returns : goal.returns
returns c =
    let a = c.args in
    let o = c.in_ok-count in
    let k = rows-ready a.t a.m a.table.now a.rows.now c.write_rows.new.out o.count c.requires.1 o.ensures.r_value o.ensures.out_after in
    let text = ap (λ (rs : List Row). head_text o.count ((a.m + a.n) * a.t) ++ rows_text 0 rs) k.said in
    rw (listed-rows a.t a.m a.n o.count a.table.now k.bytes k.is)
    (rw text at c.put_listing.ensures.put, omega (arith, c.put_listing.ensures.upper_bound))
