-- How many bytes the rows of a block of slacks have, and those of a node, by its kind.
use Rattle.std.specs.Prelude.{◌≡◌, Bool, cond, ◌&&◌, List, [], ℕ, ◌+◌, ◌-◌, ◌*◌, ◌≤◌, ltb}
use Rattle.std.proofs.Math.Path.{refl, ap}
use Rattle.std.proofs.Common.{ap₂, ◌∙◌, length-append}
use Rattle.std.proofs.Math.Bool.{true, false}
use native.Mathlib.Omega.{arith}
use Rattle.std.proofs.Math.ListN.{length}
use Rattle.std.proofs.lemmas.List.{length-map}
use Rattle.lists.specs.Flat.{flat}
use Rattle.rules.specs.Rule.Window.{within, throughout}
use Rattle.rules.specs.Table.{Node, node_at}
use Rattle.rules.specs.Rows.{rows_bytes, window_slots}
use Rattle.rules.proofs.RowParts.{rows_bytes-append, rows_bytes-flat}
use Rattle.rules.proofs.Windows.{window_bytes}
use Rattle.table.specs.Nodes.{node_of}
use Rattle.table.specs.Looping.{loops_by}
use Rattle.table.specs.declared.Kind.{Kind}
use Rattle.table.specs.declared.Kind.TheVariants.{Atom, Not, And, Or, Implies, Eventually, Always, Until, Within, Throughout}
use Rattle.table.specs.declared.Node as Table
use Rattle.window.specs.Total.{slot_total, length-flat-slots}
use Rattle.row.specs.declared.Block.{Block}
use Rattle.row.specs.Kinds.{kind_rows, window_at, followed, following, length-even, length_last, block_count}
use Rattle.row.specs.NodeRows.{loops_of, next_of, own_loops, own_block_lem, block_on, block_rows, has_kept, count_by, part_rows, own_block, kept_block, part-blocks}

-- no node has more bytes: 14 for each row, of at most 8320
abbrev pub node_byte_limit : ℕ
node_byte_limit = 116480

-- at a slot; n is how many slots the window has
abbrev slot_length : Kind → (inner : Bool) → (n : ℕ) → ℕ
slot_length Atom inner n = 11
slot_length Not inner n = 11
slot_length And inner n = 36
slot_length Or inner n = 36
slot_length Implies inner n = 36
slot_length Eventually inner n = cond inner 36 11
slot_length Always inner n = cond inner 36 11
slot_length Until inner n = cond inner 53 11
slot_length Within inner n = 14 * n + 8
slot_length Throughout inner n = 14 * n + 8

length_kind : (k : Kind) (inner : Bool) (P p q P' : ℕ) (vs : List ℕ) → length (rows_bytes (kind_rows k inner P p q P' vs)) ≡ slot_length k inner (length vs)
length_kind Atom inner P p q P' vs = refl
length_kind Not inner P p q P' vs = refl
length_kind And inner P p q P' vs = refl
length_kind Or inner P p q P' vs = refl
length_kind Implies inner P p q P' vs = refl
length_kind Eventually true P p q P' vs = refl
length_kind Eventually false P p q P' vs = refl
length_kind Always true P p q P' vs = refl
length_kind Always false P p q P' vs = refl
length_kind Until true P p q P' vs = refl
length_kind Until false P p q P' vs = refl
length_kind Within inner P p q P' vs = window_bytes within P (λ v. v) vs
length_kind Throughout inner P p q P' vs = window_bytes throughout P (λ v. v) vs

-- ---- a block at all slots; `loops` is whether something follows the last

unfoldable pub block_length : Kind → (loops : Bool) → (T L a b : ℕ) → ℕ
block_length Atom loops T L a b = 11 * T
block_length Not loops T L a b = 11 * T
block_length And loops T L a b = 36 * T
block_length Or loops T L a b = 36 * T
block_length Implies loops T L a b = 36 * T
block_length Eventually loops T L a b = 36 * (T - 1) + cond loops 36 11
block_length Always loops T L a b = 36 * (T - 1) + cond loops 36 11
block_length Until loops T L a b = 53 * (T - 1) + cond loops 53 11
block_length Within loops T L a b = 14 * slot_total T L a b + 8 * T
block_length Throughout loops T L a b = 14 * slot_total T L a b + 8 * T

module _ (b : Block) (T L : ℕ) (0<T : 1 ≤ T) where
  abbrev at : ℕ → List ℕ
  at s = rows_bytes (block_on b T L s)

  length_at : (k : Kind) → b.kind ≡ k → (s : ℕ) →
      length (at s) ≡ slot_length k (followed T (loops_of b) s) (length (window_slots T L (s + 1) b.from b.to))
  length_at k e s = rw e
      (length_kind k (followed T (loops_of b) s) (b.own + s) (b.left + s) (b.right + s) (following T b.own (next_of b) s)
      (window_at T L b.left b.from b.to s)
      ∙ ap (slot_length k (followed T (loops_of b) s)) (length-map (window_slots T L (s + 1) b.from b.to) (λ (i : ℕ). b.left + (i - 1))))

  even : (k : Kind) → b.kind ≡ k → (m : ℕ) → ((inner : Bool) (n : ℕ) → slot_length k inner n ≡ m) → length (flat at T) ≡ T * m
  even k e m = length-even T L b.from b.to (loops_of b) 0<T at (slot_length k) (length_at k e) m

  ended : (k : Kind) → b.kind ≡ k → (m z : ℕ) → ((n : ℕ) → slot_length k true n ≡ m) → ((n : ℕ) → slot_length k (loops_of b) n ≡ z) →
      length (flat at T) ≡ (T - 1) * m + z
  ended k e m z = length_last T L b.from b.to (loops_of b) 0<T at (slot_length k) (length_at k e) m z

  by_kind : (k : Kind) → b.kind ≡ k → length (flat at T) ≡ block_length k (loops_of b) T L b.from b.to
  unfolding block_length
  by_kind Atom e = let g = even Atom e 11 (λ i n. refl) in omega arith
  by_kind Not e = let g = even Not e 11 (λ i n. refl) in omega arith
  by_kind And e = let g = even And e 36 (λ i n. refl) in omega arith
  by_kind Or e = let g = even Or e 36 (λ i n. refl) in omega arith
  by_kind Implies e = let g = even Implies e 36 (λ i n. refl) in omega arith
  by_kind Eventually e = let g = ended Eventually e 36 (cond (loops_of b) 36 11) (λ n. refl) (λ n. refl) in omega arith
  by_kind Always e = let g = ended Always e 36 (cond (loops_of b) 36 11) (λ n. refl) (λ n. refl) in omega arith
  by_kind Until e = let g = ended Until e 53 (cond (loops_of b) 53 11) (λ n. refl) (λ n. refl) in omega arith
  by_kind Within e = length-flat-slots T L b.from b.to at 14 8 (length_at Within e)
  by_kind Throughout e = length-flat-slots T L b.from b.to at 14 8 (length_at Throughout e)

  pub block-length : length (rows_bytes (block_rows b T L)) ≡ block_length b.kind (loops_of b) T L b.from b.to
  unfolding block_rows
  block-length = ap length (rows_bytes-flat (block_on b T L) T) ∙ by_kind b.kind refl

-- ---- a node, its V's with it; x is whether L is below T

abbrev pub length_by : (x : Bool) → Kind → (T L a b : ℕ) → ℕ
length_by x k T L a b = cond (x && loops_by k) (block_length k false T L a b) 0 + block_length k x T L a b

abbrev pub node_length : Kind → (T L a b : ℕ) → ℕ
node_length k T L a b = length_by (ltb L T) k T L a b

pub part_length : (T M L : ℕ) (ns : List Node) (n : ℕ) (nd : Table.Node) → node_of nd ≡ node_at ns n → 1 ≤ T →
    length (rows_bytes (part_rows T M L ns n)) ≡ node_length nd.kind T L nd.from nd.to
part_length T M L ns n nd is h =
    let own = own_block T M L ns n nd is in
    let kept = kept_block T M L ns n nd is in
    let v = cond (has_kept T L nd) (block_rows kept T L) [] in
    ap (λ rs. length (rows_bytes rs)) (part-blocks T M L ns n nd is) ∙ ap length (rows_bytes-append v (block_rows own T L))
    ∙ length-append (rows_bytes v) (rows_bytes (block_rows own T L)) ∙ ap₂ ◌+◌ (go (has_kept T L nd))
    (block-length own T L h ∙ ap (λ (x : Bool). block_length nd.kind x T L nd.from nd.to) (own_loops (own_block_lem T M L ns n nd is)))
  where
    go : (x : Bool) →
        length (rows_bytes (cond x (block_rows (kept_block T M L ns n nd is) T L) [])) ≡ cond x (block_length nd.kind false T L nd.from nd.to) 0
    go true = block-length (kept_block T M L ns n nd is) T L h
    go false = refl

-- ---- how many rows it has, and how many bytes, by its kind

-- the slacks of F, G or U, V's with them, but for the one at the slot that nothing follows
abbrev pub inner_slacks : (x : Bool) → (T : ℕ) → ℕ
inner_slacks x T = cond x (2 * T) T - 1

module _ (T L a b : ℕ) where
  -- a kind without V
  pub count-alone : (k : Kind) (x : Bool) → loops_by k ≡ false → block_count k x T L a b ≡ count_by x k T L a b
  count-alone k true e = rw e (omega arith)
  count-alone k false e = omega arith

  pub length-alone : (k : Kind) (x : Bool) → loops_by k ≡ false → block_length k x T L a b ≡ length_by x k T L a b
  length-alone k true e = rw e (omega arith)
  length-alone k false e = omega arith

  -- F and G, and U
  pub count-unary : (x : Bool) → 1 ≤ T → 3 * inner_slacks x T + 1 ≡ count_by x Eventually T L a b
  unfolding block_count
  count-unary true h = omega arith
  count-unary false h = omega arith

  pub length-unary : (x : Bool) → 1 ≤ T → 36 * inner_slacks x T + 11 ≡ length_by x Eventually T L a b
  unfolding block_length
  length-unary true h = omega arith
  length-unary false h = omega arith

  pub count-until : (x : Bool) → 1 ≤ T → 4 * inner_slacks x T + 1 ≡ count_by x Until T L a b
  unfolding block_count
  count-until true h = omega arith
  count-until false h = omega arith

  pub length-until : (x : Bool) → 1 ≤ T → 53 * inner_slacks x T + 11 ≡ length_by x Until T L a b
  unfolding block_length
  length-until true h = omega arith
  length-until false h = omega arith
