-- `table::record_good` meets its contract, by the kind byte. Assumes nothing.
use Rattle.std.proofs.Common.{sym, ◌∙◌}
use Rattle.rules.specs.TableTest.{record_good}
use Rattle.table.specs.Heights.{children-known}
use Rattle.table.proofs.record_good.Goals as goal

pub height_good-requires-clause-children_known : goal.height_good-requires-clause-children_known
height_good-requires-clause-children_known c =
    let a = c.args in
    children-known a.m a.table.now a.n (λ e. c.if-table-n.false (e ∙ sym c.from.ensures)) (sym c.node_good.ensures ∙ c.if-node_good.true) c.requires.first_low

pub returns-then-node_good : goal.returns-then-node_good
unfolding record_good
returns-then-node_good c = c.height_good.ensures ∙ rw (sym c.node_good.ensures ∙ c.if-node_good.true)

pub returns-else-node_good : goal.returns-else-node_good
unfolding record_good
returns-else-node_good c = c.if-node_good.false ∙ rw (sym c.node_good.ensures ∙ c.if-node_good.false)
