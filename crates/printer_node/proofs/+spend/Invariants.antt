use Rattle.std.specs.Prelude.{◌≡◌, ◌+◌, ◌≤◌, ◌<◌, length}
use Rattle.rules.specs.TableTest.{record_count}
use Rattle.printer_node.specs.Shapes.{node_text}
use Rattle.printer_node.proofs.+spend.Given as goal

abbrev pub decreases-spend : goal.decreases-spend
decreases-spend l = l.n

-- what is spent so far is what node n's text has more than that of node `at`
abbrev pub invariant-loop-free : goal.invariant-loop-free
invariant-loop-free l = record {
  inside : l.at < record_count l.table;
  low : l.at ≤ l.n;
  spent : length (node_text l.table l.n l.k) + l.free ≡ length (node_text l.table l.at l.grade) + l.room;
}

abbrev pub decreases-loop-free : goal.decreases-loop-free
decreases-loop-free l = l.at
