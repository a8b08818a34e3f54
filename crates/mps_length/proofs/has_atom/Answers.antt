-- `mps_length::has_atom` meets its contract. The loop's invariant: none of the nodes passed is of the atom. Assumes nothing.
use Rattle.std.proofs.Common.{sym, ap, ◌∙◌, arith}
use Rattle.rules.specs.TableTest.{nodes_in}
use Rattle.mps_length.specs.Idle.{is_atom, has-none, has_more, has-found}
use Rattle.mps_length.proofs.has_atom.Goals as goal

pub loop-i-init : goal.loop-i-init
loop-i-init c = has-none _ _

pub returns-then-is_atom : goal.returns-then-is_atom
returns-then-is_atom c =
    let nd = c.node-node in
    let is = c.is_atom.ensures nd.result.right nd.result.from nd.result.to ∙ ap (is_atom c.args.x) nd.ensures.is in
    sym (has-found (nodes_in c.args.plan.table.now) c.args.x c.loop-i.i c.args.plan.nodes (omega arith) (sym is ∙ c.if-is_atom.true))

pub loop-i-preserved : goal.loop-i-preserved
loop-i-preserved c =
    let nd = c.node-node in
    let is = c.is_atom.ensures nd.result.right nd.result.from nd.result.to ∙ ap (is_atom c.args.x) nd.ensures.is in
    has_more (nodes_in c.args.plan.table.now) c.args.x c.loop-i.i c.loop-i.invariant (sym is ∙ c.if-is_atom.false)
