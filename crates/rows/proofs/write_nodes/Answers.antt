-- `rows::write_nodes` meets its contract.
use Rattle.std.proofs.Common.{Bool, cond, ℕ, ◌+◌, refl, sym, ap₂, ◌∙◌, arith}
use Rattle.rules.specs.TableTest.{nodes_in}
use Rattle.rules.proofs.TableTest.{length-nodes_in}
use Rattle.table.specs.Looping.{looping-more, looping-few}
use Rattle.rows_family.specs.Put.{turns_none, turns_room, turns_more, turns_all}
use Rattle.rows.specs.Parts.{part_bytes, nodes_bytes}
use Rattle.rows.proofs.write_nodes.Goals as goal

pub loop-i-init : goal.loop-i-init
loop-i-init c = let p = c.args.plan in (refl, turns_none (part_bytes p.t p.m p.l (nodes_in p.table.now)) _)

pub overflow_add-plan : goal.overflow_add-plan
overflow_add-plan c = omega (arith, looping-few (nodes_in c.args.plan.table.now) c.loop-i.i)

pub write_node-requires : goal.write_node-requires
unfolding nodes_bytes
write_node-requires c =
    let p = c.args.plan in
    record {
      low = omega arith;
      part_value = omega arith;
      n_in_bounds = turns_room (part_bytes p.t p.m p.l (nodes_in p.table.now)) c.loop-i.invariant.1 p.nodes (omega arith) c.requires;
    }

pub one_more-looping-requires : goal.one_more-looping-requires
one_more-looping-requires c = omega (arith, looping-few (nodes_in c.args.plan.table.now) c.loop-i.i)

pub loop-i-preserved : goal.loop-i-preserved
loop-i-preserved c =
    let p = c.args.plan in
    let ns = nodes_in p.table.now in
    let more = looping-more ns c.loop-i.i (omega (arith, length-nodes_in p.m p.table.now)) in (
      c.one_more-looping.ensures ∙ ap₂ (λ (b : Bool) (k : ℕ). cond b (k + 1) k) c.loops.ensures c.loop-i.invariant.0 ∙ sym more,
      turns_more (part_bytes p.t p.m p.l ns) c.loop-i.invariant.1 c.write_node.ensures,
    )

pub returns : goal.returns
unfolding nodes_bytes
returns c = let p = c.args.plan in turns_all (part_bytes p.t p.m p.l (nodes_in p.table.now)) c.loop-i.invariant.1 (omega arith)
