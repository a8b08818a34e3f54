-- `mps_node::blocks_at` meets its contract. The node has a V's block, or none. Assumes nothing.
use Rattle.std.proofs.Common.{◌≡◌, sym, ◌∙◌, ℕ, ◌≤◌, ◌<◌, subst, arith}
use Rattle.rules.specs.Table.{NodeGood, node_at}
use Rattle.rules.specs.TableTest.{nodes_in}
use Rattle.rules.proofs.TableTest.{length-nodes_in}
use Rattle.table.specs.Nodes.{node_of}
use Rattle.table.specs.declared.plan.Plan.{Plan}
use Rattle.table.specs.declared.Node as Table
use Rattle.row.specs.declared.Block.{Block}
use Rattle.row.specs.NodeRows.{Own, kept_place, kept_high}
use Rattle.row.specs.Placed.{Placed, first_limit}
use Rattle.mps_node.specs.Places.{kept_low, own-fit, kept-fit, Fit}
use Rattle.mps_node.proofs.blocks_at.Goals as goal

module _ (p : Plan) (n v : ℕ) (low : n < p.nodes) (place : v ≡ kept_place p.t p.m (nodes_in p.table.now) n) where
  -- V's variable
  kept-limit : v ≤ first_limit
  kept-limit =
      let r = p.ready in
      let long = length-nodes_in p.m p.table.now in
      omega (arith, place, kept_low p.t p.m (nodes_in p.table.now) n r.slots-high r.atoms-high (omega (arith, r.few-nodes)) (omega (arith, p.counted)))

  -- the node's own block
  fits : (nd : Table.Node) (b : Block) → node_of nd ≡ node_at (nodes_in p.table.now) n → Own p.t p.m p.l n v nd b → Placed b → Fit p.t b × (b.own ≤ v)
  fits nd b is own placed =
      let long = length-nodes_in p.m p.table.now in
      let high = kept_high p.t p.m (nodes_in p.table.now) n (omega (arith, p.counted)) in
      let good : NodeGood p.m n (node_of nd) = subst (NodeGood p.m n) (sym is) (p.ready.nodes n (omega (arith, p.counted))) in
      (own-fit p.t p.m p.l n v nd b own placed good (omega (arith, high, place)), omega (arith, own.own_is, high, place))

pub own_block-own-requires : goal.own_block-own-requires
own_block-own-requires c =
    let r = c.args.plan.ready in
    let nd = c.node-node.ensures in (
      r.loop-low,
      r.loop-high,
      r.slots-high,
      r.atoms-high,
      omega (arith, r.few-nodes),
      kept-limit c.args.plan c.args.n c.args.v c.requires.0 c.requires.1,
      record { left-byte = nd.left-byte; right-byte = nd.right-byte; from_byte = nd.from_byte; to-byte = nd.to-byte },
    )

pub kept_block-requires : goal.kept_block-requires
kept_block-requires c = (c.own_block-own.ensures.1, kept-limit c.args.plan c.args.n c.args.v c.requires.0 c.requires.1)

pub returns-then-has_kept : goal.returns-then-has_kept
returns-then-has_kept c =
    let p = c.args.plan in
    let own = c.own_block-own in
    let kept = c.kept_block in
    let is = c.node-node.ensures.is in
    let fit = fits p c.args.n c.args.v c.requires.0 c.requires.1 c.node-node.result own.result is own.ensures.0 own.ensures.1 in
    record {
      node = c.node-node.result;
      is = is;
      place = c.requires.1;
      own_is = own.ensures.0;
      kept-is = (sym c.has_kept.ensures ∙ c.if-has_kept.true, kept.ensures.0);
      own-fit = fit.0;
      kept-fit = kept-fit p.t c.args.v own.result kept.result kept.ensures.0 kept.ensures.1 fit.1 fit.0;
    }

pub returns-else-has_kept : goal.returns-else-has_kept
returns-else-has_kept c =
    let own = c.own_block-own in
    let is = c.node-node.ensures.is in
    let fit = fits c.args.plan c.args.n c.args.v c.requires.0 c.requires.1 c.node-node.result own.result is own.ensures.0 own.ensures.1 in
    record {
      node = c.node-node.result;
      is = is;
      place = c.requires.1;
      own_is = own.ensures.0;
      kept-is = sym c.has_kept.ensures ∙ c.if-has_kept.false;
      own-fit = fit.0;
      kept-fit = tt;
    }
