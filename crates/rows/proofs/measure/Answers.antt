-- `rows::measure` meets its contract.
use Rattle.std.proofs.Common.{◌+◌, length, sym, ap, ap₂, ◌∙◌, arith}
use Rattle.std.proofs.Math.Path.{subst⁻¹}
use Rattle.rules.specs.Table.{NodeGood}
use Rattle.rules.specs.TableTest.{nodes_in}
use Rattle.row.specs.Kinds.{allowed}
use Rattle.row.specs.NodeRows.{rows_none, count-more}
use Rattle.rows.specs.Parts.{length_none, length_more}
use Rattle.rows.proofs.measure.Goals as goal

pub loop-i-init : goal.loop-i-init
loop-i-init c = record {
  rows_are = sym (ap length (rows_none _ _ _ _));
  bytes_are = sym (length_none _ _ _ _);
  few_rows = omega arith;
  few_bytes = omega arith;
}

pub node_size-size-requires : goal.node_size-size-requires
node_size-size-requires c =
    let p = c.args.plan in
    let nd = c.node-node.result in
    let good = subst⁻¹ (NodeGood p.m c.loop-i.i) c.node-node.ensures.is (p.ready.nodes c.loop-i.i (omega arith)) in
    (p.ready.loop-low, p.ready.loop-high, p.ready.slots-high, allowed p.m c.loop-i.i nd.kind nd.left nd.right nd.from nd.to good)

pub loop-i-preserved : goal.loop-i-preserved
loop-i-preserved c =
    let p = c.args.plan in
    let ns = nodes_in p.table.now in
    let nd = c.node-node in
    let size = c.node_size-size.ensures in
    let l = c.loop-i.invariant in
    record {
      rows_are = ap₂ ◌+◌ l.rows_are size.fact.0 ∙ sym (count-more p.t p.m p.l ns c.loop-i.i nd.result nd.ensures.is p.ready.slots-low);
      bytes_are = ap₂ ◌+◌ l.bytes_are size.fact_2.0 ∙ sym (length_more p.t p.m p.l ns c.loop-i.i nd.result p.ready.slots-low nd.ensures.is);
      few_rows = omega (arith, size.fact.1);
      few_bytes = omega (arith, size.fact_2.1);
    }
