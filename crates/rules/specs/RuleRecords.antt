-- The records of a rule's table, part by part, as the reader writes them: the left part, the right part, then the node.
use Rattle.std.specs.Prelude.{List, ◌++◌, ℕ, ◌+◌, ◌-◌, max}
use Rattle.rules.specs.Rule.{Rule, size, height}
use Rattle.rules.specs.Rule.Rule.{atom, unary, binary, windowed}
use Rattle.rules.specs.Table.{Node, node_bytes}

-- the records of the rule whose first node has the number k
abbrev pub records_from : ℕ → Rule → List ℕ
records_from k (atom a) = node_bytes 0 (Node.atom a)
records_from k (unary u p) = records_from k p ++ node_bytes (height p + 1) (Node.unary u (k + size p - 1))
records_from k (binary o p q) =
    records_from k p ++ (records_from (k + size p) q ++ node_bytes (max (height p) (height q) + 1) (Node.binary o (k + size p - 1) (k + size p + size q - 1)))
records_from k (windowed w a b p) = records_from k p ++ node_bytes (height p + 1) (Node.windowed w a b (k + size p - 1))
