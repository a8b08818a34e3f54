-- `rows::write_node` meets its contract.
use Rattle.std.proofs.Common.{sym, arith}
use Rattle.rules.specs.TableTest.{nodes_in}
use Rattle.table.specs.Looping.{looping-few}
use Rattle.cursor.specs.Puts.{said}
use Rattle.rows_family.specs.Put.{one-room}
use Rattle.rows.specs.Parts.{own-allowed, part-is}
use Rattle.rows.proofs.write_node.Goals as goal

pub overflow_add-m : goal.overflow_add-m
overflow_add-m c = omega (arith, looping-few (nodes_in c.args.plan.table.now) c.args.n)

pub first_variable-v-requires : goal.first_variable-v-requires
first_variable-v-requires c = (omega (arith, looping-few (nodes_in c.args.plan.table.now) c.args.n), c.args.plan.ready.slots-high)

pub write_node-requires : goal.write_node-requires
write_node-requires c =
    let x = c.args in
    let y = x.plan.ready in
    let own = c.own_block-own in
    let may = own-allowed x.plan.t x.plan.m x.plan.l x.plan.table.now x.n x.part c.first_variable-v.result c.node-node.result own.result
    y (omega arith) c.node-node.ensures (omega arith) c.first_variable-v.ensures.0 own.ensures.0 in
    let is = part-is x.plan.t x.plan.m x.plan.l x.plan.table.now x.n x.part c.first_variable-v.result c.node-node.result own.result
    y (omega arith) c.node-node.ensures (omega arith) c.first_variable-v.ensures.0 own.ensures.0 in
    record {
      le_l = (y.loop-low, y.loop-high, y.slots-high, own.ensures.1, may, c.first_variable-v.ensures.1);
      own_in_bounds = one-room x.out.now is c.requires.n_in_bounds;
    }

pub returns : goal.returns
returns c =
    let x = c.args in
    let own = c.own_block-own in
    let is = part-is x.plan.t x.plan.m x.plan.l x.plan.table.now x.n x.part c.first_variable-v.result c.node-node.result own.result
    x.plan.ready (omega arith) c.node-node.ensures (omega arith) c.first_variable-v.ensures.0 own.ensures.0 in
    said (sym is) c.write_node.ensures
