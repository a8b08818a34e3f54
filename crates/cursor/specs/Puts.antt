-- What a call puts behind a cursor.
use Rattle.std.specs.Prelude.{◌≡◌, List, ◌++◌, ℕ, ◌+◌, ◌≤◌, length}
use Rattle.std.proofs.Common.{◌∙◌}
use Rattle.cursor.specs.Put.{Put, also}
use Rattle.cursor.specs.declared.Cursor.{Cursor}

-- there is room for n bytes
abbrev pub Room : Cursor → ℕ → Type 0
Room c n = c.at + n ≤ length c.out.now

-- xs is written at the cursor, which then stands past it, in the same buffer
pub record Puts (xs : List ℕ) (old new : Cursor) : Type 0 where
  pub same : new.out.ghost_name ≡ old.out.ghost_name
  pub room : length new.out.now ≡ length old.out.now
  pub put : Put old.at xs old.out.now new.out.now new.at

-- one text behind another
pub then : {xs ys : List ℕ} {a b c : Cursor} → Puts xs a b → Puts ys b c → Puts (xs ++ ys) a c
then p q = record { same = q.same ∙ p.same; room = q.room ∙ p.room; put = also p.put q.put }

-- the same text, said in another way
pub said : {xs ys : List ℕ} {a b : Cursor} → xs ≡ ys → Puts xs a b → Puts ys a b
said {a = a} {b} e p = rw e at p
