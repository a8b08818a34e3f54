-- `mps_users::find_layout` meets its contract. The loop's invariant: the places of the nodes passed are written, and their rows are counted.
-- Assumes nothing.
use Rattle.std.proofs.Common.{◌≡◌, refl, sym, ap, ap₂, ◌∙◌, ℕ, ◌+◌, ◌*◌, length, arith}
use Rattle.rules.specs.Rows.{loops}
use Rattle.rules.specs.Table.{node_at}
use Rattle.rules.specs.TableTest.{nodes_in}
use Rattle.rules.proofs.TableTest.{length-nodes_in}
use Rattle.table.specs.Looping.{looping_to, looping-more, loops-by}
use Rattle.row.specs.NodeRows.{rows_none, count-more, all-parts}
use Rattle.mps_row.specs.Laws.{start_small}
use Rattle.mps_users.specs.Finding.{layout_none, layout_more}
use Rattle.mps_users.proofs.find_layout.Goals as goal
use Rattle.mps_users.proofs.find_layout.Goals.{then-loops, else-loops}

pub loop-i-init : goal.loop-i-init
loop-i-init c = record {
  counted = ap length (sym (rows_none _ _ _ _));
  before = refl;
  few = omega arith;
  laid = layout_none _ _ _ _ _ c.told-layout;
}

pub overflow_add-rows : goal.overflow_add-rows
overflow_add-rows c =
    let p = c.args.plan in
    let few = start_small p.t p.m p.l (nodes_in p.table.now) c.loop-i.i p.ready.slots-high (omega arith) in
    record { fits = omega (arith, few) }

pub loop-i-preserved : goal.loop-i-preserved
loop-i-preserved c =
    let p = c.args.plan in
    let i = c.loop-i.i in
    let ns = nodes_in p.table.now in
    let nd = c.node-node in
    let long = length-nodes_in p.m p.table.now in
    let more = looping-more ns i (omega (arith, long)) in
    let test : c.loops.result ≡ loops (node_at ns i) = c.loops.ensures ∙ loops-by _ _ _ _ _ ∙ ap loops nd.ensures.is in
    let block : p.m + p.nodes + c.loop-i.looping ≡ p.m + (length ns + looping_to ns i) = omega (arith, long) in
    record {
      counted =
          ap₂ ◌+◌ c.loop-i.invariant.counted c.node_count-rows.ensures.0
          ∙ sym (count-more p.t p.m p.l ns i nd.result nd.ensures.is p.ready.slots-low);
      before = elim c.if-loops.branch [
        | then-loops w ↦ omega (arith, rw (sym test ∙ w.if-loops.true) at more)
        | else-loops w ↦ omega (arith, rw (sym test ∙ w.if-loops.false) at more)
      ];
      few = elim c.if-loops.branch [ then-loops w ↦ omega arith | else-loops w ↦ omega arith ];
      laid =
          layout_more p.t p.m p.l ns i c.loop-i.layout _ (omega arith) c.loop-i.invariant.laid c.loop-i.invariant.counted
          (c.first_variable.ensures.0 ∙ ap (λ (x : ℕ). x * p.t) block);
    }

pub returns : goal.returns
returns c =
    let p = c.args.plan in
    let i = c.loop-i.i in
    let ns = nodes_in p.table.now in
    let v = c.loop-i.invariant in
    let e : i ≡ p.nodes = omega arith in
    let all : length ns ≡ i = omega (arith, length-nodes_in p.m p.table.now) in
    let few = start_small p.t p.m p.l ns i p.ready.slots-high (omega arith) in
    (rw e at v.laid, v.counted ∙ ap length (all-parts p.t p.m p.l ns i all), omega (arith, few))
