-- The variables of a block lie within 16 bits, with room for the slots; a node as its record has it, in bytes.
use Rattle.std.specs.Prelude.{ℕ, ◌≤◌, ◌<◌, unwrap_or}
use Rattle.table.specs.declared.Node as Table
use Rattle.row.specs.declared.Block.{Block}

-- More blocks than there are: those of 16 atoms, of 128 nodes and of their V's; and more than a byte of a record can name.
abbrev pub block_limit : ℕ
block_limit = 400

-- No block begins above it: 400 blocks of 64 slots.
abbrev pub first_limit : ℕ
first_limit = 25600

-- No variable lies above it: 64 slots from there.
abbrev pub variable_limit : ℕ
variable_limit = 25663

-- No block has more rows at a slot: a row for each of 64 slots in a window, and one over them all.
abbrev pub slot_row_limit : ℕ
slot_row_limit = 65

-- No node has more rows, its V's with them: two blocks of 65 rows at 64 slots.
abbrev pub node_row_limit : ℕ
node_row_limit = 8320

pub record Small (nd : Table.Node) : Type 0 where
  pub left-byte : nd.left < 256
  pub right-byte : nd.right < 256
  pub from_byte : nd.from < 256
  pub to-byte : nd.to < 256

pub record Placed (b : Block) : Type 0 where
  pub own-low : b.own ≤ first_limit
  pub left-low : b.left ≤ first_limit
  pub right-low : b.right ≤ first_limit
  pub next_low : unwrap_or b.next 0 ≤ variable_limit
