-- `mps_length::measure_node` meets its contract. Assumes nothing.
use mathlib.Core.Path.{ap, ◌∙◌}
use Prim.Native.Nat.{ℕ, ◌*◌}
use native.Mathlib.Omega.{arith}
use Rattle.mps_length.specs.Measured.{window-allowed, node_measured}
use Rattle.mps_length.proofs.measure_node.Goals as goal

pub node_size-requires : goal.node_size-requires
node_size-requires c =
    let y = c.args.plan.ready in
    (y.loop-low, y.loop-high, y.slots-high, window-allowed _ _ _ _ y _ (omega arith) _ c.node-node.ensures)

pub returns : goal.returns
returns c =
    let e = c.first_variable-p.ensures.0 ∙ ap (λ (z : ℕ). z * c.args.plan.t) c.left_block.ensures.0 in
    node_measured _ _ _ _ c.args.plan.ready _ (omega arith) _ c.node-node.ensures e c.first_variable-q.ensures.0 c.node_size.ensures
