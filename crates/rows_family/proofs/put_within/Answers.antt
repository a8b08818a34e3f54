-- `rows_family::put_within` meets its contract: four parts, each straight after the last.
use Rattle.std.proofs.Common.{arith, rules, ap, pos}
use Rattle.cursor.specs.Puts.{then, said}
use Rattle.rules.specs.Rows.{term_bytes}
use Rattle.rows_family.specs.Windows.{above_of, term_of, within-bytes, within-total, head-ends}
use Rattle.rows_family.proofs.put_within.Goals as goal

pub put_each-requires-clause-puts : goal.put_each-requires-clause-puts
put_each-requires-clause-puts c = (
  above_of c.args.node,
  search rules,
  omega (arith, within-total c.args.node c.args.looks c.args.p),
)

pub put_head-requires : goal.put_head-requires
put_head-requires c =
    let a = c.args in
    let total = within-total a.node a.looks a.p in
    let rows = c.put_each.ensures (above_of a.node) (search rules) (omega arith) in
    omega (arith, rows.room, rows.put.ends)

pub put_each-requires-2-clause-puts : goal.put_each-requires-2-clause-puts
put_each-requires-2-clause-puts c =
    let a = c.args in
    let total = within-total a.node a.looks a.p in
    let rows = c.put_each.ensures (above_of a.node) (search rules) (omega arith) in
    let head = c.put_head.ensures in
    (term_of (pos 1), search rules, omega (arith, rows.room, rows.put.ends, head.room, head-ends _ _ head))

pub put_term-requires : goal.put_term-requires
put_term-requires c =
    let a = c.args in
    let total = within-total a.node a.looks a.p in
    let rows = c.put_each.ensures (above_of a.node) (search rules) (omega arith) in
    let head = c.put_head.ensures in
    let terms = c.put_each-2.ensures (term_of (pos 1)) (search rules) (omega (arith, rows.room, rows.put.ends, head.room, head-ends _ _ head)) in
    omega (arith, rows.room, rows.put.ends, head.room, head-ends _ _ head, terms.room, terms.put.ends)

pub returns : goal.returns
returns c =
    let a = c.args in
    let total = within-total a.node a.looks a.p in
    let rows = c.put_each.ensures (above_of a.node) (search rules) (omega arith) in
    let head = c.put_head.ensures in
    let terms = c.put_each-2.ensures (term_of (pos 1)) (search rules) (omega (arith, rows.room, rows.put.ends, head.room, head-ends _ _ head)) in
    said (within-bytes a.node a.looks a.p)
    (then (then (then rows head) terms) (said (ap term_bytes c.minus.ensures) c.put_term.ensures))
