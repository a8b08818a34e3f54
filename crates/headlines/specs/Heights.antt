-- Request N6, of the bytes that the reader leaves in the buffer: "Write the height into every node record, as one last byte: 0 for an atom,
-- otherwise 1 more than the highest child. The reader fills it in. Callers may then rely on it." That every good table has such bytes is HeightsRight
-- of crate rules.
use Rattle.std.specs.Prelude.{◌≡◌, List, ℕ, ◌+◌, ◌*◌, ◌<◌, get_or}
use Rattle.rules.specs.Rule.{Rule, height}
use Rattle.rules.specs.Grammar.{Says}
use Rattle.rules.specs.Table.{nodes_of, rule_at}
use Rattle.rules.specs.Demands.{Answer}
use Rattle.rules.specs.Demands.Answer.{answered}

-- where the reader answers N, the last byte of each of its N records is the height of the rule that the node stands for
abbrev pub ReaderHeights : (text : List ℕ) (answer : Answer ℕ) (out' : List ℕ) → Type 0
ReaderHeights text answer out' =
    (n : ℕ) → answer ≡ answered n → (p : Rule) × Says text p × ((i : ℕ) → i < n → get_or out' (8 * i + 7) 0 ≡ height (rule_at (nodes_of p) i))
