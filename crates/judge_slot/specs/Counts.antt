-- Counts of rows, the most there are, and variables that fit.
use Rattle.std.specs.Prelude.{ℕ, ◌+◌, ◌*◌, ◌^◌, ◌<◌}
use Rattle.rules.specs.Quantities.{node_limit}

-- of a node at a slot: one for each slot of a window, and a last one
abbrev pub at_slot : ℕ
at_slot = 65

-- of a block: at 64 slots
abbrev pub block : ℕ
block = 64 * at_slot

-- of a node: of its V's block and its own
abbrev pub node : ℕ
node = 2 * block

-- of all nodes of a table
abbrev pub nodes : ℕ
nodes = node_limit * node

-- those tested before the rows of a block, of a slot and of a step
abbrev pub before_block : ℕ
before_block = nodes + block

abbrev pub before_slot : ℕ
before_slot = before_block + block

abbrev pub before_step : ℕ
before_step = before_slot + at_slot

-- k variables from v on are numbers of 16 bits
abbrev pub Fit : (v k : ℕ) → Type 0
Fit v k = v + k < 2 ^ 16
