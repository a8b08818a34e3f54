-- A text for each row of a block, by slot.
use Rattle.std.specs.Prelude.{List, ℕ, ◌+◌, length}
use Rattle.lists.specs.Flat.{flat}
use Rattle.rules.specs.Rows.{Row}
use Rattle.row.specs.declared.Block.{Block}
use Rattle.row.specs.NodeRows.{block_on}
use Rattle.mps.specs.Page.{each_row}

module _ (T L : ℕ) (b : Block) where
  -- how many rows the block has before slot s + 1
  unfoldable pub rows_before : (s : ℕ) → ℕ
  rows_before s = length (flat (block_on b T L) s)

  -- the texts of its rows at slot s + 1, where its first row has the number i
  unfoldable pub slot_text : (ℕ → Row → List ℕ) → (i s : ℕ) → List ℕ
  slot_text line i s = each_row line (i + rows_before s) (block_on b T L s)
