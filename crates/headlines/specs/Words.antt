-- Request N5: "The old bytes and the new words must say the same for every node and slot."
use Rattle.std.specs.Prelude.{◌≡◌, List, ℕ, ◌+◌, ◌-◌, ◌*◌, ◌≤◌, ◌<◌, length, get_or}
use Rattle.rules.specs.Table.{Node, Good}
use Rattle.rules.specs.Truth.{slot_bit}
use Rattle.rules.specs.Before.{TruthBytes}
use Rattle.rules.specs.Demands.{Answer}
use Rattle.rules.specs.Demands.Answer.{answered}

-- where the evaluator answers, bit s − 1 of node n's word is the byte at n·T + s − 1 of the bytes that it wrote before
abbrev pub SaysBytes : (t m l : ℕ) (table run : List ℕ) (answer : Answer ℕ) (out' : List ℕ) → Type 0
SaysBytes t m l table run answer out' =
    (v : ℕ) → answer ≡ answered v → (ns : List Node) × (bytes : List ℕ) × Good m table ns × TruthBytes t l run ns bytes ×
    ((n s : ℕ) → n < length ns → 1 ≤ s → s ≤ t → slot_bit (get_or out' n 0) s ≡ get_or bytes (n * t + (s - 1)) 0)
