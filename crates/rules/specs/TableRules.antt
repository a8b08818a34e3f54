-- The rules that a table's nodes stand for; the table of a rule is good, and its root stands for the rule.
use Rattle.std.specs.Prelude.{List, ℕ, ◌<◌, length}
use Rattle.rules.specs.Table.{Node, NodeGood, node_at}

abbrev pub NodesGood : ℕ → List Node → Type 0
NodesGood M ns = (n : ℕ) → n < length ns → NodeGood M n (node_at ns n)
