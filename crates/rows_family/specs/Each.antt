-- What is asked of a closure that puts something by a variable.
use Rattle.std.specs.Prelude.{ℕ, List, ◌<◌, ◌^◌, length}
use Rattle.std.specs.Fn.{Shared}
use denote.Ref.{MutBor}
use Rattle.cursor.specs.declared.Cursor.{Cursor}
use Rattle.cursor.specs.Puts.{Puts, Room}

-- it may be called wherever there is room for the bytes of a variable, and puts them
pub record PutsEach {F R : Type 0} (g : Shared F (MutBor Cursor × (ℕ × Unit {0})) (R × (MutBor Cursor × Unit {0}))) (put : F) (bytes : ℕ → List ℕ)
    : Type 0 where
  pub may : (out : MutBor Cursor) (v : ℕ) → v < 2 ^ 16 → Room out.now (length (bytes v)) → g.pre put (out, (v, tt))
  pub does : (out : MutBor Cursor) (v : ℕ) → v < 2 ^ 16 → Room out.now (length (bytes v)) → (result : R) (left : MutBor Cursor) →
      g.post put (out, (v, tt)) (result, (left, tt)) → Puts (bytes v) out.now left.now
