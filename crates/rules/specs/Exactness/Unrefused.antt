-- What holds of a text that gives no ground to refuse, and of the rule that it says.
use Rattle.std.specs.Prelude.{◌≡◌, List, ℕ, ◌≤◌, length}
use Rattle.rules.specs.Quantities.{AtomsAllowed}
use Rattle.rules.specs.Rule.{Rule, size, AtomsBelow, WindowsAllowed}
use Rattle.rules.specs.Table.{Node, Good, table_bytes, nodes_of, rule_at, root}

pub record Unrefused (M : ℕ) (text : List ℕ) (p : Rule) : Type 0 where
  pub allowed : AtomsAllowed M
  pub short : length text ≤ 1024
  pub atoms : AtomsBelow M p
  pub windows : WindowsAllowed p
  pub nodes : size p ≤ 128
  -- its table is good, has no other nodes, and its root is the rule
  pub good-table : Good M (table_bytes (nodes_of p)) (nodes_of p)
  pub nodes-alone : (ns : List Node) → Good M (table_bytes (nodes_of p)) ns → ns ≡ nodes_of p
  pub root-rule : rule_at (nodes_of p) (root (nodes_of p)) ≡ p
