-- The bytes of a family of rows, a line of document 01's table, at slots one after the other.
use Rattle.std.specs.Prelude.{◌≡◌, refl, Bool, true, false, Option, Some, None, is_some, unwrap_or, cond, List, [], ◌++◌, ℕ, ◌+◌, ◌-◌, ◌<◌, ◌^◌, length}
use Rattle.std.specs.Fn.{Shared}
use Rattle.std.proofs.Common.{sym, ap, ◌∙◌}
use denote.Ref.{MutBor}
use Rattle.lists.specs.Flat.{flat}
use Rattle.cursor.specs.declared.Cursor.{Cursor}
use Rattle.cursor.specs.Puts.{Puts, Room}
use Rattle.rules.specs.Rule.{Window}
use Rattle.rules.specs.Rule.Window.{within, throughout}
use Rattle.rules.specs.Rows.{Row, rows_bytes, same_rows}
use Rattle.table.specs.declared.Kind.{Kind}
use Rattle.table.specs.declared.Kind.TheVariants.{Atom, Not, And, Or, Implies, Eventually, Always, Until, Within, Throughout}
use Rattle.row.specs.declared.Block.{Block}
use Rattle.row.specs.NodeRows.{Kept, loops_of, next_of, kept_of, kept-is}

-- the rows at a slot by the variables there: the node's, its parts' and what follows
abbrev pub Family : Type 0
Family = (P p q P' : ℕ) → List Row

-- what is asked of a closure that puts a family: it may be called wherever there is room for the rows, and puts them
pub record PutsFamily {F R : Type 0}
    (g : Shared F (MutBor Cursor × (ℕ × (ℕ × (ℕ × (ℕ × Unit {0}))))) (R × (MutBor Cursor × Unit {0}))) (put : F) (rows : Family) : Type 0 where
  pub may : (out : MutBor Cursor) (P p q P' : ℕ) → (P < 2 ^ 16) × (p < 2 ^ 16) × (q < 2 ^ 16) × (P' < 2 ^ 16) →
      Room out.now (length (rows_bytes (rows P p q P'))) → g.pre put (out, (P, (p, (q, (P', tt)))))
  pub does : (out : MutBor Cursor) (P p q P' : ℕ) → (P < 2 ^ 16) × (p < 2 ^ 16) × (q < 2 ^ 16) × (P' < 2 ^ 16) →
      Room out.now (length (rows_bytes (rows P p q P'))) → (result : R) (left : MutBor Cursor) →
      g.post put (out, (P, (p, (q, (P', tt))))) (result, (left, tt)) → Puts (rows_bytes (rows P p q P')) out.now left.now

module _ (rows : Family) (b : Block) where
  -- at slot s + 1, which the next slot follows, and at n slots
  abbrev pub at_slot : (s : ℕ) → List ℕ
  at_slot s = rows_bytes (rows (b.own + s) (b.left + s) (b.right + s) (b.own + s + 1))

  unfoldable pub at_slots : (n : ℕ) → List ℕ
  at_slots n = flat at_slot n

  -- at T slots, where something may follow the last; else the node is there what the part `alone` is
  module _ (alone T : ℕ) where
    abbrev pub on_last : List Row
    on_last = rows (b.own + (T - 1)) (b.left + (T - 1)) (b.right + (T - 1)) (next_of b)

    abbrev pub off_last : List Row
    off_last = same_rows (b.own + (T - 1)) (alone + (T - 1))

    unfoldable pub at_all : List ℕ
    at_all = at_slots (T - 1) ++ rows_bytes (cond (loops_of b) on_last off_last)

-- with the V's before them, whose first variable is v, where the node loops
unfoldable pub with_kept : Family → Block → (v alone T : ℕ) → List ℕ
with_kept rows b v alone T = cond (loops_of b) (at_all rows (kept_of v b) alone T) [] ++ at_all rows b alone T

-- ---- in parts

module _ (rows : Family) (b : Block) (alone T : ℕ) where
  pub all-parts : at_all rows b alone T ≡ at_slots rows b (T - 1) ++ rows_bytes (cond (loops_of b) (on_last rows b alone T) (off_last rows b alone T))
  unfolding at_all
  all-parts = refl

  pub all-on : {v : ℕ} → b.next ≡ Some v →
      at_all rows b alone T ≡ at_slots rows b (T - 1) ++ rows_bytes (rows (b.own + (T - 1)) (b.left + (T - 1)) (b.right + (T - 1)) v)
  unfolding at_all
  all-on e = ap (λ (x : Option ℕ). at_slots rows b (T - 1)
      ++ rows_bytes (cond (is_some x) (rows (b.own + (T - 1)) (b.left + (T - 1)) (b.right + (T - 1)) (unwrap_or x 0)) (off_last rows b alone T))) e

  pub all-off : b.next ≡ None → at_all rows b alone T ≡ at_slots rows b (T - 1) ++ rows_bytes (off_last rows b alone T)
  unfolding at_all
  all-off e = ap (λ (x : Option ℕ). at_slots rows b (T - 1)
      ++ rows_bytes (cond (is_some x) (rows (b.own + (T - 1)) (b.left + (T - 1)) (b.right + (T - 1)) (unwrap_or x 0)) (off_last rows b alone T))) e

module _ (rows : Family) (b : Block) (v alone T : ℕ) where
  pub kept-off : loops_of b ≡ false → with_kept rows b v alone T ≡ at_all rows b alone T
  unfolding with_kept
  kept-off e = ap (λ (x : Bool). cond x (at_all rows (kept_of v b) alone T) [] ++ at_all rows b alone T) e

  pub kept-on : (c : Block) → Kept v b c → loops_of b ≡ true → with_kept rows b v alone T ≡ at_all rows c alone T ++ at_all rows b alone T
  unfolding with_kept
  kept-on c k e =
      ap (λ (x : Bool). cond x (at_all rows (kept_of v b) alone T) [] ++ at_all rows b alone T) e
      ∙ ap (λ (d : Block). at_all rows d alone T ++ at_all rows b alone T) (sym (kept-is k))

-- the window of a kind that has one
abbrev pub window_of : Kind → Window
window_of Throughout = throughout
window_of Atom = within
window_of Not = within
window_of And = within
window_of Or = within
window_of Implies = within
window_of Eventually = within
window_of Always = within
window_of Until = within
window_of Within = within
