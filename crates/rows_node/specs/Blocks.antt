-- The bytes of the rows of a block of slacks at all slots, by its kind.
use Rattle.std.specs.Prelude.{◌≡◌, refl, Bool, true, false, cond, ◌&&◌, List, [], ◌++◌, ℕ, ◌+◌, ◌-◌, ◌≤◌, ◌<◌, ltb}
use Rattle.std.proofs.Common.{sym, ap, ap₂, ◌∙◌, arith, lt-ltb, le-ltb}
use Rattle.lists.specs.Flat.{flat, flat-same, flat-more}
use Rattle.rules.specs.Rows.{same_rows, rows_bytes}
use Rattle.rules.proofs.RowParts.{rows_bytes-flat}
use Rattle.table.specs.Ends.{has_window}
use Rattle.table.specs.Looping.{loops_by}
use Rattle.table.specs.declared.Kind.{Kind}
use Rattle.table.specs.declared.Kind.TheVariants.{Atom, Not, And, Or, Implies, Eventually, Always, Until, Within, Throughout}
use Rattle.window.specs.declared.Looks.{Looks}
use Rattle.window.specs.Slots.{Looking, variables}
use Rattle.row.specs.declared.Block.{Block}
use Rattle.row.specs.Kinds.{kind_rows, rows_on, over_rows, window_at}
use Rattle.row.specs.NodeRows.{block_on, block_rows, loops_of, next_of, kept_of}
use Rattle.rows_node.specs.Families.{Family, at_slot, at_slots, on_last, off_last, at_all, with_kept, window_of}

-- the bytes of a block's rows at slot s + 1, and at all slots
abbrev pub slot_bytes : Block → (T L s : ℕ) → List ℕ
slot_bytes b T L s = rows_bytes (block_on b T L s)

unfoldable pub block_bytes : Block → (T L : ℕ) → List ℕ
block_bytes b T L = flat (slot_bytes b T L) T

pub block-bytes : (b : Block) (T L : ℕ) → block_bytes b T L ≡ rows_bytes (block_rows b T L)
unfolding block_bytes block_rows
block-bytes b T L = sym (rows_bytes-flat (block_on b T L) T)

-- the family of a kind without a window, where something follows
abbrev pub family : Kind → Family
family k P p q P' = kind_rows k true P p q P' []

module _ (b : Block) (T L : ℕ) where
  -- of a kind that does not ask what follows
  pub block-plain : {k : Kind} → b.kind ≡ k → ((inner : Bool) (P p q P' P'' : ℕ) (vs : List ℕ) → kind_rows k inner P p q P' vs ≡ family k P p q P'') →
      block_bytes b T L ≡ at_slots (family k) b T
  unfolding block_bytes at_slots
  block-plain {k} e f = flat-same (slot_bytes b T L) (at_slot (family k) b) T (λ s h. rw e (ap rows_bytes (f _ _ _ _ _ _ _)))

  -- of F, G or U
  module _ (h : 1 ≤ T) where
    inner_lem : (s : ℕ) → s < T - 1 → ltb (s + 1) T ≡ true
    inner_lem s g = lt-ltb (s + 1) T (omega arith)

    last_lem : ltb (T - 1 + 1) T ≡ false
    last_lem = le-ltb (T - 1 + 1) T (omega arith)

    pub block-all : {k : Kind} (alone : ℕ) → b.kind ≡ k → ((P p q P' : ℕ) (vs : List ℕ) → kind_rows k true P p q P' vs ≡ family k P p q P') →
        ((P' : ℕ) (vs : List ℕ) → kind_rows k false (b.own + (T - 1)) (b.left + (T - 1)) (b.right + (T - 1)) P' vs ≡ off_last (family k) b alone T) →
        block_bytes b T L ≡ at_all (family k) b alone T
    unfolding block_bytes at_slots at_all
    block-all {k} alone e on off =
        let n : T - 1 + 1 ≡ T = omega arith in
        ap (flat (slot_bytes b T L)) (sym n) ∙ flat-more (slot_bytes b T L) (T - 1)
        ∙ ap₂ ◌++◌
        (flat-same (slot_bytes b T L) (at_slot (family k) b) (T - 1) (λ s g. rw (e, inner_lem s g) (ap rows_bytes (on _ _ _ _ _))))
        (rw (e, last_lem) (ap rows_bytes (go (loops_of b))))
      where
        go : (x : Bool) → kind_rows k x (b.own + (T - 1)) (b.left + (T - 1)) (b.right + (T - 1)) (next_of b) (window_at T L b.left b.from b.to (T - 1)) ≡
            cond x (on_last (family k) b alone T) (off_last (family k) b alone T)
        go true = on _ _ _ _ _
        go false = off _ _

-- a window's at a slot
pub window-rows : (b : Block) (T L s : ℕ) (w : Looks) → has_window b.kind ≡ true → Looking T L (s + 1) b.from b.to w →
    over_rows (window_of b.kind) (b.own + s) (variables w b.left) ≡ block_on b T L s
window-rows b T L s w e l = rw (l.is b.left) (go b.kind e)
  where
    go : (k : Kind) → has_window k ≡ true → over_rows (window_of k) (b.own + s) (window_at T L b.left b.from b.to s) ≡
        rows_on k T L (loops_of b) (next_of b) b.own b.left b.right b.from b.to s
    go Within e = refl
    go Throughout e = refl
    go Atom e = cc
    go Not e = cc
    go And e = cc
    go Or e = cc
    go Implies e = cc
    go Eventually e = cc
    go Always e = cc
    go Until e = cc

-- ---- a node's bytes; b is its own block, and v the first variable of its V

-- "All of a node's V rows, by slot, come before its P rows."
unfoldable pub node_bytes : (T L v : ℕ) → Block → List ℕ
node_bytes T L v b = cond (loops_of b && loops_by b.kind) (block_bytes (kept_of v b) T L) [] ++ block_bytes b T L

module _ (T L v : ℕ) (b : Block) where
  pub node-parts : node_bytes T L v b ≡ cond (loops_of b && loops_by b.kind) (block_bytes (kept_of v b) T L) [] ++ block_bytes b T L
  unfolding node_bytes
  node-parts = refl

  -- a kind without V
  pub node-alone : {k : Kind} → b.kind ≡ k → loops_by k ≡ false → node_bytes T L v b ≡ block_bytes b T L
  unfolding node_bytes
  node-alone e l = go (loops_of b) (loops_by b.kind) (ap loops_by e ∙ l)
    where
      go : (x y : Bool) → y ≡ false → cond (x && y) (block_bytes (kept_of v b) T L) [] ++ block_bytes b T L ≡ block_bytes b T L
      go true true f = cc
      go false true f = cc
      go true false f = refl
      go false false f = refl

  pub node-window : has_window b.kind ≡ true → node_bytes T L v b ≡ block_bytes b T L
  node-window w = node-alone refl (go b.kind w)
    where
      go : (k : Kind) → has_window k ≡ true → loops_by k ≡ false
      go Within e = refl
      go Throughout e = refl
      go Atom e = refl
      go Not e = refl
      go And e = refl
      go Or e = refl
      go Implies e = refl
      go Eventually e = cc
      go Always e = cc
      go Until e = cc

  -- one with it
  pub node-kept : {k : Kind} (rows : Family) (alone : ℕ) → b.kind ≡ k → loops_by k ≡ true → block_bytes b T L ≡ at_all rows b alone T →
      block_bytes (kept_of v b) T L ≡ at_all rows (kept_of v b) alone T → node_bytes T L v b ≡ with_kept rows b v alone T
  unfolding node_bytes with_kept
  node-kept rows alone e l f g = ap₂ ◌++◌ (go (loops_of b) (loops_by b.kind) (ap loops_by e ∙ l)) f
    where
      go : (x y : Bool) → y ≡ true → cond (x && y) (block_bytes (kept_of v b) T L) [] ≡ cond x (at_all rows (kept_of v b) alone T) []
      go true true h = g
      go false true h = refl
      go true false h = cc
      go false false h = refl

  -- ---- by the kind

  pub node-plain : {k : Kind} → b.kind ≡ k → loops_by k ≡ false →
      ((inner : Bool) (P p q P' P'' : ℕ) (vs : List ℕ) → kind_rows k inner P p q P' vs ≡ family k P p q P'') →
      node_bytes T L v b ≡ at_slots (family k) b T
  node-plain e l f = node-alone e l ∙ block-plain b T L e f

  pub node-all : 1 ≤ T → {k : Kind} (alone : ℕ) → b.kind ≡ k → loops_by k ≡ true →
      ((P p q P' : ℕ) (vs : List ℕ) → kind_rows k true P p q P' vs ≡ family k P p q P') →
      ((P P' : ℕ) (vs : List ℕ) → kind_rows k false P (b.left + (T - 1)) (b.right + (T - 1)) P' vs ≡ same_rows P (alone + (T - 1))) →
      node_bytes T L v b ≡ with_kept (family k) b v alone T
  node-all h {k} alone e l on off =
      node-kept (family k) alone e l (block-all b T L h alone e on (off (b.own + (T - 1)))) (block-all (kept_of v b) T L h alone e on (off (v + (T - 1))))
