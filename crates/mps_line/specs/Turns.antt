-- A loop that puts the texts f 0, f 1, .. one after the other where there is room for them.
use Rattle.std.specs.Prelude.{◌≡◌, List, ℕ, ◌+◌}
use Rattle.std.proofs.Common.{sym}
use Rattle.cursor.specs.declared.Cursor.{Cursor}
use Rattle.lists.specs.Flat.{flat, flat-zero, flat-more}
use Rattle.mps_line.specs.Emitted.{Emitted, emitted-none, emitted-also, emitted_as}

module _ (f : ℕ → List ℕ) (a : Cursor) where
  pub turns_none : Emitted (flat f 0) a a
  turns_none = emitted_as (sym (flat-zero f)) (emitted-none a)

  pub turns_more : {k : ℕ} {b c : Cursor} → Emitted (flat f k) a b → Emitted (f k) b c → Emitted (flat f (k + 1)) a c
  turns_more {k} d s = emitted_as (sym (flat-more f k)) (emitted-also d s)

  pub turns_all : {k n : ℕ} {b : Cursor} → k ≡ n → Emitted (flat f k) a b → Emitted (flat f n) a b
  turns_all e s = rw e at s
