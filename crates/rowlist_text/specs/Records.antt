-- The text of row records, step by step as it is written.
use Rattle.std.specs.Prelude.{◌≡◌, List, ℕ, ◌+◌, length}
use Rattle.std.proofs.lemmas.List.Edits.{sets}
use Rattle.cursor.specs.declared.Cursor.{Cursor}

-- what is still to be written, xs at the cursor, makes of the buffer what is wanted: all at the cursor of before
pub record Rest (xs : List ℕ) (now : Cursor) (all : List ℕ) (before : Cursor) : Type 0 where
  pub same : now.out.ghost_name ≡ before.out.ghost_name
  pub room : length now.out.now ≡ length before.out.now
  pub content : sets now.out.now now.at xs ≡ sets before.out.now before.at all
  pub ends : now.at + length xs ≡ before.at + length all
