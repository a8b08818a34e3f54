-- A block's window at a slot, if its kind has one, and a block's rows there.
use Rattle.std.specs.Prelude.{◌≡◌, Bool, true, false, Option, Some, None, ℕ, ◌+◌, ◌≤◌, length}
use Rattle.std.proofs.Common.{sym, ap, ◌∙◌, arith}
use Rattle.rules.specs.Quantities.{WindowAllowed}
use Rattle.rules.specs.Rule.Window.{within, throughout}
use Rattle.rules.proofs.RowCount.{window-count}
use Rattle.table.specs.Ends.{has_window}
use Rattle.table.specs.declared.Kind.{Kind}
use Rattle.table.specs.declared.Kind.TheVariants.{Atom, Not, And, Or, Implies, Eventually, Always, Until, Within, Throughout}
use Rattle.window.specs.declared.Looks.{Looks}
use Rattle.window.specs.Slots.{window_by, variables, Looking}
use Rattle.window.proofs.Slots.{length-variables}
use Rattle.row.specs.declared.Block.{Block}
use Rattle.row.specs.Apart.{Apart}
use Rattle.row.specs.Kinds.{Allowed, over_rows, rows_on}
use Rattle.row.specs.NodeRows.{block_on, loops_of, next_of}
use Rattle.mps_row.specs.Spots.{spot_at, plain_rows}
use Rattle.mps_window.specs.declared.over.Over.{Over}
use Rattle.mps_window.specs.Places.{rows_over}
use Rattle.mps_slot.specs.Spots.{slot_rows, Windowed}

abbrev pub is_within : Kind → Bool
is_within Atom = false
is_within Not = false
is_within And = false
is_within Or = false
is_within Implies = false
is_within Eventually = false
is_within Always = false
is_within Until = false
is_within Within = true
is_within Throughout = false

-- the window o of block b at slot s + 1
pub record Overlooked (b : Block) (T L s : ℕ) (o : Over) : Type 0 where
  pub rows : rows_over o ≡ block_on b T L s
  pub counted : o.looks.count + 1 ≡ length (block_on b T L s)

abbrev pub OverAt : (b : Block) (T L s : ℕ) → Option Over → Type 0
OverAt b T L s (Some o) = (has_window b.kind ≡ true) × Overlooked b T L s o
OverAt b T L s None = has_window b.kind ≡ false

-- so the rows are the block's
pub slot-rows : (b : Block) (T L s : ℕ) (x : Option Over) → OverAt b T L s x → slot_rows (spot_at T b s) x ≡ block_on b T L s
slot-rows b T L s (Some o) h = h.1.rows
slot-rows b T L s None h = plain_rows T L b s h

pub windowed : (b : Block) (T L s : ℕ) (x : Option Over) → OverAt b T L s x → Windowed (spot_at T b s) x
windowed b T L s (Some o) h = tt
windowed b T L s None h = h

-- ---- of a kind with a window

never : false ≡ true → ⊥
never e = let z : ◌≡◌ {A = ℕ} 0 1 = cc in omega arith

pub window-allowed : (k : Kind) (a b : ℕ) → has_window k ≡ true → Allowed k a b → WindowAllowed a b
window-allowed Atom a b e h = absurd (never e)
window-allowed Not a b e h = absurd (never e)
window-allowed And a b e h = absurd (never e)
window-allowed Or a b e h = absurd (never e)
window-allowed Implies a b e h = absurd (never e)
window-allowed Eventually a b e h = absurd (never e)
window-allowed Always a b e h = absurd (never e)
window-allowed Until a b e h = absurd (never e)
window-allowed Within a b e h = h
window-allowed Throughout a b e h = h

pub window-apart : (k : Kind) (T P p q : ℕ) → has_window k ≡ true → Apart k T P p q → p + T ≤ P
window-apart Atom T P p q e h = absurd (never e)
window-apart Not T P p q e h = absurd (never e)
window-apart And T P p q e h = absurd (never e)
window-apart Or T P p q e h = absurd (never e)
window-apart Implies T P p q e h = absurd (never e)
window-apart Eventually T P p q e h = absurd (never e)
window-apart Always T P p q e h = absurd (never e)
window-apart Until T P p q e h = absurd (never e)
window-apart Within T P p q e h = h
window-apart Throughout T P p q e h = h

module _ (T L : ℕ) (loops : Bool) (next P p q a b s : ℕ) (w : Looks) (l : Looking T L (s + 1) a b w) where
  window-rows : (k : Kind) → has_window k ≡ true → over_rows (window_by (is_within k)) (P + s) (variables w p) ≡ rows_on k T L loops next P p q a b s
  window-rows Atom e = absurd (never e)
  window-rows Not e = absurd (never e)
  window-rows And e = absurd (never e)
  window-rows Or e = absurd (never e)
  window-rows Implies e = absurd (never e)
  window-rows Eventually e = absurd (never e)
  window-rows Always e = absurd (never e)
  window-rows Until e = absurd (never e)
  window-rows Within e = ap (over_rows within (P + s)) (l.is p)
  window-rows Throughout e = ap (over_rows throughout (P + s)) (l.is p)

-- a row for each slot, and the last one
pub over-count : (o : Over) → length (rows_over o) ≡ o.looks.count + 1
over-count o =
    window-count (window_by o.within) o.own (λ v. v) (variables o.looks o.left) ∙ ap (λ (n : ℕ). n + 1) (length-variables o.looks o.left)

pub overlooked : (b : Block) (T L s : ℕ) (o : Over) → has_window b.kind ≡ true → o.within ≡ is_within b.kind → o.own ≡ b.own + s → o.left ≡ b.left →
    Looking T L (s + 1) b.from b.to o.looks → Overlooked b T L s o
overlooked b T L s o e w own left l =
    let rows : rows_over o ≡ block_on b T L s =
    rw (w, own, left) (window-rows T L (loops_of b) (next_of b) b.own b.left b.right b.from b.to s o.looks l b.kind e) in
    record { rows = rows; counted = sym (over-count o) ∙ ap length rows }
