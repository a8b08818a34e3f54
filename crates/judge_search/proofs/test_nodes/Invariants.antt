-- The rows of the nodes passed are tested, and those with a V counted.
use Rattle.std.proofs.Common.{◌≡◌, Ok, ◌*◌, ◌≤◌}
use Rattle.lists.specs.Flat.{flat}
use Rattle.rules.specs.TableTest.{nodes_in}
use Rattle.rules.specs.Judge.{shortfall}
use Rattle.table.specs.Looping.{looping_to}
use Rattle.row.specs.NodeRows.{part_rows}
use Rattle.judge_slot.specs.Counts as Counts
use Rattle.judge_slot.specs.Searches.{tested}
use Rattle.judge_search.proofs.test_nodes.Given as goal

abbrev pub invariant-loop-i : goal.invariant-loop-i
invariant-loop-i l =
    record {
      counts : l.kept ≡ looping_to (nodes_in l.plan.table.now) l.i;
      is : Ok l.rows ≡ tested l.test.test.e (shortfall l.test.test.figures.now) (Ok 0) (flat (part_rows l.plan.t l.plan.m l.plan.l (nodes_in l.plan.table.now)) l.i);
      few : l.rows ≤ Counts.node * l.i;
    }
