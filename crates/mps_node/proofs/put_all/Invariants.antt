use Rattle.std.proofs.Common.{◌≡◌, ◌+◌, ◌*◌, ◌≤◌}
use Rattle.rules.specs.TableTest.{nodes_in}
use Rattle.table.specs.Looping.{looping_to}
use Rattle.row.specs.NodeRows.{rows_to}
use Rattle.mps_line.specs.Bounds.{line_limit, node_lines}
use Rattle.mps_row.specs.Texts.{line_of}
use Rattle.mps_node.specs.Turns.{Listed}
use Rattle.mps_node.proofs.put_all.Given as goal

abbrev pub invariant-loop-n : goal.invariant-loop-n
invariant-loop-n l = (l.page.at ≤ l.initial.page.at + l.n * node_lines * line_limit) × (l.looping ≡ looping_to (nodes_in l.plan.table.now) l.n) ×
    Listed (line_of l.text) 0 (rows_to l.plan.t l.plan.m l.plan.l (nodes_in l.plan.table.now) l.n) l.first l.initial.page l.page
