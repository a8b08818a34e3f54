-- Laws of the texts of a table's rows: by slot, by a block's kind, by node, and how far row numbers go.
use Rattle.std.specs.Prelude.{◌≡◌, Bool, false}
use Rattle.std.proofs.Math.Path.{refl, sym, ap, ap₂}
use Rattle.std.proofs.Common.{◌∙◌, mul-le-mul, length-append}
use Rattle.std.proofs.Math.Bool.{true}
use mathlib.Core.List.{List, [], ◌∷◌, ◌++◌, append_assoc, append-nil}
use Prim.Native.Nat.{ℕ, zero, suc, ◌+◌, ◌*◌, ◌≤◌, ◌<◌}
use native.Mathlib.Omega.{arith}
use Rattle.std.proofs.Math.ListN.{length}
use Rattle.lists.specs.Flat.{flat, flat-zero, flat-same, length-flat-even}
use Rattle.rules.specs.Table.{Node, node_at}
use Rattle.rules.specs.Rows.{Row, window_slots, slack_rows, goal_row, rows_of}
use Rattle.rules.proofs.RowParts.{nodes-parts}
use Rattle.table.specs.Ends.{has_window}
use Rattle.table.specs.declared.Kind.{Kind}
use Rattle.table.specs.declared.Kind.TheVariants.{Atom, Not, And, Or, Implies, Eventually, Always, Until, Within, Throughout}
use Rattle.row.specs.declared.Block.{Block}
use Rattle.row.specs.Kinds.{slot_count, followed, followed-inner, length-on}
use Rattle.row.specs.NodeRows.{loops_of, next_of, block_on, block_rows, part_rows, rows_to}
use Rattle.rules.proofs.RowCount.{node-count}
use Rattle.mps.specs.Page.{each_row}
use Rattle.mps_line.specs.Bounds.{row_limit}
use Rattle.mps_row.specs.Slots.{rows_before, slot_text}

-- ---- the texts of rows one after the other

module _ (line : ℕ → Row → List ℕ) where
  pub each_append : (i : ℕ) (a b : List Row) → each_row line i (a ++ b) ≡ each_row line i a ++ each_row line (i + length a) b
  unfolding each_row
  each_append i [] b = ap (λ (j : ℕ). each_row line j b) (omega arith)
  each_append i (r ∷ a) b =
      let e : i + 1 + length a ≡ i + suc (length a) = omega arith in
      ap (λ (l : List ℕ). line i r ++ l) (each_append (i + 1) a b ∙ ap (λ (j : ℕ). each_row line (i + 1) a ++ each_row line j b) e)
      ∙ sym (append_assoc (line i r) (each_row line (i + 1) a) (each_row line (i + suc (length a)) b))

  pub each-flat : (f : ℕ → List Row) (i k : ℕ) → each_row line i (flat f k) ≡ flat (λ s. each_row line (i + length (flat f s)) (f s)) k
  unfolding each_row flat
  each-flat f i zero = refl
  each-flat f i (suc k) =
      each_append i (flat f k) (f k) ∙ ap (λ (l : List ℕ). l ++ each_row line (i + length (flat f k)) (f k)) (each-flat f i k)

-- ---- kinds without a window

abbrev pub Plain : Kind → Type 0
Plain k = has_window k ≡ false

-- no other kind is among them
pub not_plain : true ≡ false → ⊥
not_plain e = let z : ◌≡◌ {A = ℕ} 0 1 = cc in omega arith

-- how many rows they have at a slot does not go by a window
plain-count : (k : Kind) → Plain k → (inner : Bool) (n : ℕ) → slot_count k inner n ≡ slot_count k inner 0
plain-count Atom h inner n = refl
plain-count Not h inner n = refl
plain-count And h inner n = refl
plain-count Or h inner n = refl
plain-count Implies h inner n = refl
plain-count Eventually h inner n = refl
plain-count Always h inner n = refl
plain-count Until h inner n = refl
plain-count Within h inner n = absurd (not_plain h)
plain-count Throughout h inner n = absurd (not_plain h)

-- ---- of a block, slot by slot

module _ (T L : ℕ) (b : Block) where
  pub block-text : (line : ℕ → Row → List ℕ) (i : ℕ) → each_row line i (block_rows b T L) ≡ flat (slot_text T L b line i) T
  unfolding block_rows slot_text rows_before
  block-text line i = each-flat line (block_on b T L) i T

  pub before-none : rows_before T L b 0 ≡ 0
  unfolding rows_before
  before-none = ap length (flat-zero (block_on b T L))

  slot-length : (s : ℕ) → length (block_on b T L s) ≡ slot_count b.kind (followed T (loops_of b) s) (length (window_slots T L (s + 1) b.from b.to))
  slot-length = length-on b.kind T L (loops_of b) (next_of b) b.own b.left b.right b.from b.to

  -- without a window, the slots before one have as many rows each
  pub before_kind : Plain b.kind → (s : ℕ) → s < T → rows_before T L b s ≡ s * slot_count b.kind true 0
  unfolding rows_before
  before_kind plain s h =
      length-flat-even (block_on b T L) (slot_count b.kind true 0) s
      (λ i g. slot-length i
      ∙ ap (λ (x : Bool). slot_count b.kind x (length (window_slots T L (i + 1) b.from b.to))) (followed-inner T (loops_of b) i (omega arith))
      ∙ plain-count b.kind plain true (length (window_slots T L (i + 1) b.from b.to)))

-- ---- of a table, node by node, and then the goal row's

module _ (T M L : ℕ) (ns : List Node) where
  -- the texts of node n's rows
  unfoldable pub node_text : (ℕ → Row → List ℕ) → (n : ℕ) → List ℕ
  node_text line n = each_row line (length (rows_to T M L ns n)) (part_rows T M L ns n)

  pub all-text : (line : ℕ → Row → List ℕ) →
      each_row line 0 (rows_of T M L ns) ≡ flat (node_text line) (length ns) ++ line (length (slack_rows T M L ns)) (goal_row T M ns)
  unfolding each_row rows_to node_text
  all-text line =
      let f : ℕ → List Row = part_rows T M L ns in
      each_append line 0 (slack_rows T M L ns) (goal_row T M ns ∷ [])
      ∙ ap₂ ◌++◌
      (ap (each_row line 0) (nodes-parts T M L ns) ∙ each-flat line f 0 (length ns)
      ∙ flat-same (λ i. each_row line (0 + length (flat f i)) (f i)) (node_text line) (length ns) (λ i h. ap (λ (j : ℕ). each_row line j (f i)) (omega arith)))
      (append-nil (line (0 + length (slack_rows T M L ns)) (goal_row T M ns)) ∙ ap (λ (j : ℕ). line j (goal_row T M ns)) (omega arith))

-- ---- a node has at most T + 8 rows a slot, so that row numbers have at most 6 digits

length-flat-few : (f : ℕ → List Row) (c n : ℕ) → ((i : ℕ) → length (f i) ≤ c) → length (flat f n) ≤ n * c
unfolding flat
length-flat-few f c zero h = omega arith
length-flat-few f c (suc n) h = omega (arith, length-append (flat f n) (f n), length-flat-few f c n h, h n)

pub start_small : (T M L : ℕ) (ns : List Node) (n : ℕ) → T ≤ 64 → n ≤ 128 → length (rows_to T M L ns n) ≤ row_limit
unfolding rows_to
start_small T M L ns n few h =
    let c : (T + 8) * T ≤ 72 * 64 = mul-le-mul {n₂ = 72} {m₂ = 64} (omega arith) few in
    let d : n * ((T + 8) * T) ≤ 128 * 4608 = mul-le-mul {n₂ = 128} {m₂ = 4608} h (omega arith) in
    omega (arith, length-flat-few (part_rows T M L ns) ((T + 8) * T) n (λ i. node-count T M L ns i (node_at ns i)))
