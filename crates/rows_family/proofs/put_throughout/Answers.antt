-- `rows_family::put_throughout` meets its contract: four parts, each straight after the last.
use Rattle.std.proofs.Common.{arith, rules, ap, negsuc, ◌+◌, ◌∙◌}
use mir.Syntax.{w8}
use mir.Facts.{to_z-of_z}
use Rattle.cursor.specs.Puts.{then, said}
use Rattle.rules.specs.Rows.{term_bytes}
use Rattle.row.specs.declared.Relation.TheVariants.{AtLeast}
use Rattle.rows_record.specs.Records.{head_of}
use Rattle.rows_family.specs.Windows.{below_of, term_of, throughout_bytes, throughout_total, head-ends}
use Rattle.rows_family.proofs.put_throughout.Goals as goal

pub put_each-requires-clause-puts : goal.put_each-requires-clause-puts
put_each-requires-clause-puts c = (
  below_of c.args.node,
  search rules,
  omega (arith, throughout_total c.args.node c.args.looks c.args.p),
)

pub put_head-requires : goal.put_head-requires
put_head-requires c =
    let a = c.args in
    let total = throughout_total a.node a.looks a.p in
    let rows = c.put_each.ensures (below_of a.node) (search rules) (omega arith) in
    omega (arith, rows.room, rows.put.ends)

pub put_term-requires : goal.put_term-requires
put_term-requires c =
    let a = c.args in
    let total = throughout_total a.node a.looks a.p in
    let rows = c.put_each.ensures (below_of a.node) (search rules) (omega arith) in
    let head = c.put_head.ensures in
    omega (arith, rows.room, rows.put.ends, head.room, head-ends _ _ head)

pub put_each-requires-2-clause-puts : goal.put_each-requires-2-clause-puts
put_each-requires-2-clause-puts c =
    let a = c.args in
    let total = throughout_total a.node a.looks a.p in
    let rows = c.put_each.ensures (below_of a.node) (search rules) (omega arith) in
    let head = c.put_head.ensures in
    let term = c.put_term.ensures in
    (term_of (negsuc 0), search rules, omega (arith, rows.room, rows.put.ends, head.room, head-ends _ _ head, term.room, term.put.ends))

pub returns : goal.returns
returns c =
    let a = c.args in
    let total = throughout_total a.node a.looks a.p in
    let rows = c.put_each.ensures (below_of a.node) (search rules) (omega arith) in
    let right = to_z-of_z {w = w8} {z = c.less_one.result} (search rules) ∙ c.less_one.ensures in
    let head = said (ap (head_of AtLeast (a.looks.count + 1)) right) c.put_head.ensures in
    let term = c.put_term.ensures in
    let terms = c.put_each-2.ensures (term_of (negsuc 0)) (search rules) (omega (arith, rows.room, rows.put.ends, head.room, head-ends _ _ head, term.room, term.put.ends)) in
    said (throughout_bytes a.node a.looks a.p)
    (then (then (then rows head) (said (ap term_bytes c.plus.ensures) term)) terms)
