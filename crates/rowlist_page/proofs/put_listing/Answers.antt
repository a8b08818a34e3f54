-- `rowlist_page::put_listing` meets its contract: the rows straight after the head. Assumes nothing.
use Rattle.std.proofs.Common.{rules, arith}
use Rattle.cursor.specs.Puts.{then}
use Rattle.rowlist_page.specs.Outcomes.{whole-few, variables-few}
use Rattle.rowlist_page.proofs.put_listing.Goals as goal

pub overflow_mul-m : goal.overflow_mul-m
overflow_mul-m c = let b = c.requires.n_bound in omega (arith, variables-few c.args.t c.args.m c.args.n b.1 b.2 b.0)

pub put_head-requires : goal.put_head-requires
put_head-requires c =
    let b = c.requires.n_bound in
    (omega (arith, whole-few c.args.count c.args.rows.now c.requires.whole), variables-few c.args.t c.args.m c.args.n b.1 b.2 b.0, omega arith)

pub returns-clause-put : goal.returns-clause-put
returns-clause-put c =
    let p = then c.put_head.ensures.0 c.put_rows.ensures.put in
    search (rules, p)
