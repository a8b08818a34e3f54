-- One node more; a search that is over passes the rest.
use Rattle.std.proofs.Common.{◌≡◌, refl, ℕ, ◌+◌, Ok, ◌<◌, sym, ap, ◌∙◌, arith}
use Rattle.std.proofs.Math.Path.{subst⁻¹}
use Rattle.std.proofs.lemmas.Result.{err_from_is_err_and}
use Rattle.lists.specs.Flat.{flat}
use Rattle.rules.specs.Table.{NodeGood}
use Rattle.rules.specs.TableTest.{nodes_in, record_count}
use Rattle.rules.specs.Judge.{shortfall}
use Rattle.table.specs.Looping.{looping-few}
use Rattle.row.specs.NodeRows.{part_rows, rows_to}
use Rattle.row.specs.Placed.{Small}
use Rattle.judge_slot.specs.Searches.{Search, tested, tested-start, tested-more, over-rest}
use Rattle.judge_search.specs.Blocks.{own-ready, own_in, kept_more}
use Rattle.judge_search.proofs.test_nodes.Goals as goal

pub loop-i-init : goal.loop-i-init
loop-i-init c = record { counts = refl; is = sym (tested-start _ _ _ _); few = omega arith }

pub overflow_add-plan-in-loop-i : goal.overflow_add-plan-in-loop-i
overflow_add-plan-in-loop-i c =
    let few = looping-few (nodes_in c.args.plan.table.now) c.loop-i.i in
    omega (arith, c.loop-i.invariant.counts)

pub first_variable-v-requires : goal.first_variable-v-requires
first_variable-v-requires c =
    let few = looping-few (nodes_in c.args.plan.table.now) c.loop-i.i in
    (omega (arith, c.loop-i.invariant.counts), c.args.plan.ready.slots-high)

pub own_block-block-requires : goal.own_block-block-requires
own_block-block-requires c =
    let y = c.args.plan.ready in
    let nd = c.node-node.ensures in
    let small : Small c.node-node.result = record { left-byte = nd.left-byte; right-byte = nd.right-byte; from_byte = nd.from_byte; to-byte = nd.to-byte } in
    (y.loop-low, y.loop-high, y.slots-high, y.atoms-high, omega arith, c.first_variable-v.ensures.1, small)

pub test_node-requires : goal.test_node-requires
test_node-requires c =
    let y = c.args.plan.ready in
    let i = c.loop-i.i in
    let k : i < record_count c.args.plan.table.now = omega arith in
    let good = subst⁻¹ (NodeGood c.args.plan.m i) c.node-node.ensures.is (y.nodes i k) in
    let o = c.own_block-block.ensures in
    (own-ready y.slots-high (y.loop-low, y.loop-high) o.0 o.1 c.first_variable-v.ensures.1 good, omega (arith, c.loop-i.invariant.few))

pub one_more-kept-requires : goal.one_more-kept-requires
one_more-kept-requires c =
    let few = looping-few (nodes_in c.args.plan.table.now) c.loop-i.i in
    omega (arith, c.loop-i.invariant.counts)

pub returns-in_err-rows : goal.returns-in_err-rows
unfolding rows_to
returns-in_err-rows c =
    let x = c.args.plan in
    let e = c.args.test.test.e in
    let l = c.loop-i in
    let nd = c.node-node in
    let f = shortfall c.args.test.test.figures.now in
    let ns = nodes_in x.table.now in
    let g = part_rows x.t x.m x.l ns in
    let p = err_from_is_err_and c.from_residual.result c.from_residual.ensures.1 in
    let own = own_in x.t x.m x.l x.table.now l.i l.kept nd.result l.invariant.counts nd.ensures.is x.nodes x.counted
    c.first_variable-v.ensures.0 c.own_block-block.ensures.0 in
    let o = c.in_err-rows.ensures in
    let more = o.is x.m l.i ns own ∙ ap (λ (z : Search). tested e f z (g l.i)) l.invariant.is ∙ sym (tested-more e f (Ok 0) g l.i) in
    rw (p.1, p.2) (record { is = over-rest e f (Ok 0) g (l.i + 1) x.nodes (omega arith) more refl; few = omega (arith, o.few, l.invariant.few) })

pub loop-i-preserved : goal.loop-i-preserved
loop-i-preserved c =
    let x = c.args.plan in
    let e = c.args.test.test.e in
    let l = c.loop-i in
    let nd = c.node-node in
    let f = shortfall c.args.test.test.figures.now in
    let ns = nodes_in x.table.now in
    let g = part_rows x.t x.m x.l ns in
    let k : l.i < record_count x.table.now = omega arith in
    let own = own_in x.t x.m x.l x.table.now l.i l.kept nd.result l.invariant.counts nd.ensures.is x.nodes x.counted
    c.first_variable-v.ensures.0 c.own_block-block.ensures.0 in
    let o = c.in_ok-rows.ensures in
    record {
      counts = kept_more x.t x.m x.l x.table.now l.i l.kept nd.result l.invariant.counts nd.ensures.is k c.loops.ensures c.one_more-kept.ensures;
      is = o.is x.m l.i ns own ∙ ap (λ (z : Search). tested e f z (g l.i)) l.invariant.is ∙ sym (tested-more e f (Ok 0) g l.i);
      few = omega (arith, o.few, l.invariant.few);
    }

pub returns : goal.returns
unfolding rows_to
returns c =
    let x = c.args.plan in
    let l = c.loop-i in
    let end : l.i ≡ x.nodes = omega arith in
    let g = part_rows x.t x.m x.l (nodes_in x.table.now) in
    record {
      is = l.invariant.is ∙ ap (λ (k : ℕ). tested c.args.test.test.e (shortfall c.args.test.test.figures.now) (Ok 0) (flat g k)) end;
      few = omega (arith, l.invariant.few);
    }
