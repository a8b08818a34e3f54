-- The rows of a block of slacks, a node's own or its V's, at all slots, and of the first nodes of a table; the writer, the page and the judge make them
-- in this order.
use Rattle.std.specs.Prelude.{◌≡◌, refl, Bool, Option, Some, None, is_some, unwrap_or, cond, ◌&&◌, List, [], ◌∷◌, ◌++◌, ℕ, zero, suc, ◌+◌, ◌-◌, ◌*◌, ◌≤◌, ◌<◌, ltb, pos, length, take}
use Rattle.std.proofs.Math.Path.{sym, ap}
use Rattle.std.proofs.Common.{ap₂, ◌∙◌, arith, length-append}
use Rattle.std.proofs.Math.Bool.{true, false}
use Rattle.lists.specs.Flat.{flat, flat-same, flat-zero, flat-more}
use Rattle.lists.specs.Place.{place_end}
use Rattle.rules.specs.Table.{Node, node_at}
use Rattle.rules.specs.Rows as Rows
use Rattle.rules.specs.Rows.{Row, eq, plus, slack, looping, rows_at, loop_rows_at, slots_rows, slack_rows, goal_row}
use Rattle.rules.proofs.RowParts.{slots-parts, nodes-parts}
use Rattle.table.specs.Nodes.{node_of}
use Rattle.table.specs.Looping.{loops_by}
use Rattle.table.specs.declared.Kind.{Kind}
use Rattle.table.specs.declared.Node as Table
use Rattle.row.specs.declared.Block.{Block}
use Rattle.row.specs.Kinds.{rows_on, left_block, slot-rows, rows-next, loop-slot-rows, no_loop-rows, block_count, length-on, counted}

-- whether a block loops: whether something follows its last slot; and what has which variable
abbrev pub loops_of : Block → Bool
loops_of b = is_some b.next

abbrev pub next_of : Block → ℕ
next_of b = unwrap_or b.next 0

-- the rows of a block at slot s + 1, and at all slots
abbrev pub block_on : Block → (T L s : ℕ) → List Row
block_on b T L s = rows_on b.kind T L (loops_of b) (next_of b) b.own b.left b.right b.from b.to s

unfoldable pub block_rows : Block → (T L : ℕ) → List Row
block_rows b T L = flat (block_on b T L) T

pub length-block : (b : Block) (T L : ℕ) → 1 ≤ T → length (block_rows b T L) ≡ block_count b.kind (loops_of b) T L b.from b.to
unfolding block_rows
length-block b T L h =
    counted T L b.from b.to (loops_of b) h b.kind (block_on b T L)
    (length-on b.kind T L (loops_of b) (next_of b) b.own b.left b.right b.from b.to)

nothing : (i : ℕ) → flat {A = Row} (λ s. []) i ≡ []
unfolding flat
nothing zero = refl
nothing (suc i) = rw (nothing i) refl

-- ---- the blocks of a node

-- what follows the last slot of a node whose V has the first variable v: V at L, where L is below T
abbrev pub next_by : (T L v : ℕ) → Option ℕ
next_by T L v = cond (ltb L T) (Some (v + (L - 1))) None

-- node nd, the n-th, whose V has the first variable v: its own block, whose last slot goes on to V at L where L is below T
pub record Own (T M L n v : ℕ) (nd : Table.Node) (b : Block) : Type 0 where
  pub kind_is : b.kind ≡ nd.kind
  pub own_is : b.own ≡ (M + n) * T
  pub left_is : b.left ≡ left_block nd.kind M nd.left * T
  pub right_is : b.right ≡ (M + nd.right) * T
  pub from_is : b.from ≡ nd.from
  pub to_is : b.to ≡ nd.to
  pub next-is : b.next ≡ next_by T L v

-- its V's block, which ends with its last slot
pub record Kept (v : ℕ) (b c : Block) : Type 0 where
  pub kind_is : c.kind ≡ b.kind
  pub own_is : c.own ≡ v
  pub left_is : c.left ≡ b.left
  pub right_is : c.right ≡ b.right
  pub from_is : c.from ≡ b.from
  pub to_is : c.to ≡ b.to
  pub next-is : c.next ≡ None

pub own_loops : {T M L n v : ℕ} {nd : Table.Node} {b : Block} → Own T M L n v nd b → loops_of b ≡ ltb L T
own_loops {T} {M} {L} {n} {v} o = ap is_some o.next-is ∙ go (ltb L T)
  where
    go : (x : Bool) → is_some (cond x (Some (v + (L - 1))) None) ≡ x
    go true = refl
    go false = refl

pub own-next : {T M L n v : ℕ} {nd : Table.Node} {b : Block} → Own T M L n v nd b → loops_of b ≡ true → next_of b ≡ v + (L - 1)
own-next {T} {M} {L} {n} {v} o e = ap (λ (x : Option ℕ). unwrap_or x 0) o.next-is ∙ go (ltb L T) (sym (own_loops o) ∙ e)
  where
    go : (x : Bool) → x ≡ true → unwrap_or (cond x (Some (v + (L - 1))) None) 0 ≡ v + (L - 1)
    go true h = refl
    go false h = cc

pub kept_loops : {v : ℕ} {b c : Block} → Kept v b c → loops_of c ≡ false
kept_loops k = ap is_some k.next-is

-- the first variable of node n's V
abbrev pub kept_place : (T M : ℕ) → List Node → (n : ℕ) → ℕ
kept_place T M ns n = (M + (length ns + looping (take n ns))) * T

-- it stands behind all nodes
pub kept_high : (T M : ℕ) (ns : List Node) (n : ℕ) → n < length ns → (M + n) * T + T ≤ kept_place T M ns n
kept_high T M ns n h = place_end T (omega arith)

-- whether node nd has a V's block
abbrev pub has_kept : (T L : ℕ) → Table.Node → Bool
has_kept T L nd = ltb L T && loops_by nd.kind

module _ (T M L : ℕ) (ns : List Node) (n v : ℕ) (nd : Table.Node) (b c : Block) (is : node_of nd ≡ node_at ns n)
    (place : v ≡ kept_place T M ns n) (o : Own T M L n v nd b) (k : Kept v b c) where
  pub own-rows : block_rows b T L ≡ slots_rows (rows_at T M L ns n (node_at ns n)) T 1
  unfolding block_rows
  own-rows =
      flat-same (block_on b T L) (λ s. rows_at T M L ns n (node_of nd) (s + 1)) T
      (λ s h. rw (o.kind_is, o.own_is, o.left_is, o.right_is, o.from_is, o.to_is, o.next-is, place)
      (sym (slot-rows T M L ns n nd.kind nd.left nd.right nd.from nd.to s
      ∙ rows-next nd.kind T L ((M + n) * T) (left_block nd.kind M nd.left * T) ((M + nd.right) * T) nd.from nd.to s (ltb L T) (kept_place T M ns n + (L - 1)))))
      ∙ sym (slots-parts (rows_at T M L ns n (node_of nd)) T) ∙ ap (λ (x : Node). slots_rows (rows_at T M L ns n x) T 1) is

  loop-rows : (x : Bool) → loops_by nd.kind ≡ x → cond x (block_rows c T L) [] ≡ slots_rows (loop_rows_at T M ns n (node_at ns n)) T 1
  unfolding block_rows
  loop-rows true e =
      flat-same (block_on c T L) (λ s. loop_rows_at T M ns n (node_of nd) (s + 1)) T
      (λ s h. rw (k.kind_is, k.own_is, k.left_is, k.right_is, k.from_is, k.to_is, k.next-is)
      (rw (o.kind_is, o.left_is, o.right_is, o.from_is, o.to_is, place)
      (sym (loop-slot-rows T M L ns n nd.kind nd.left nd.right nd.from nd.to s e))))
      ∙ sym (slots-parts (loop_rows_at T M ns n (node_of nd)) T) ∙ ap (λ (x : Node). slots_rows (loop_rows_at T M ns n x) T 1) is
  loop-rows false e =
      sym (ap (λ (x : Node). slots_rows (loop_rows_at T M ns n x) T 1) (sym is) ∙ slots-parts (loop_rows_at T M ns n (node_of nd)) T
      ∙ flat-same (λ s. loop_rows_at T M ns n (node_of nd) (s + 1)) (λ s. []) T
      (λ s h. no_loop-rows T M L ns n nd.kind nd.left nd.right nd.from nd.to s nd.kind e) ∙ nothing T)

  -- "All of a node's V rows, by slot, come before its P rows."
  pub both-rows : cond (has_kept T L nd) (block_rows c T L) [] ++ block_rows b T L ≡ Rows.node_rows T M L ns n (node_at ns n)
  both-rows = ap₂ ◌++◌ (go (ltb L T)) own-rows
    where
      go : (x : Bool) → cond (x && loops_by nd.kind) (block_rows c T L) [] ≡ cond x (slots_rows (loop_rows_at T M ns n (node_at ns n)) T 1) []
      go true = loop-rows (loops_by nd.kind) refl
      go false = refl

-- ---- how many rows a node has

-- its V's with them; x is whether L is below T
abbrev pub count_by : (x : Bool) → Kind → (T L a b : ℕ) → ℕ
count_by x k T L a b = cond (x && loops_by k) (block_count k false T L a b) 0 + block_count k x T L a b

abbrev pub node_count : Kind → (T L a b : ℕ) → ℕ
node_count k T L a b = count_by (ltb L T) k T L a b

-- ---- the nodes of a table

-- the rows of node n, and of the first k nodes
abbrev pub part_rows : (T M L : ℕ) → List Node → (n : ℕ) → List Row
part_rows T M L ns n = Rows.node_rows T M L ns n (node_at ns n)

unfoldable pub rows_to : (T M L : ℕ) → List Node → (k : ℕ) → List Row
rows_to T M L ns k = flat (part_rows T M L ns) k

module _ (T M L : ℕ) (ns : List Node) where
  pub rows_none : rows_to T M L ns 0 ≡ []
  unfolding rows_to
  rows_none = flat-zero (part_rows T M L ns)

  pub rows_more : (n : ℕ) → rows_to T M L ns (n + 1) ≡ rows_to T M L ns n ++ part_rows T M L ns n
  unfolding rows_to
  rows_more n = flat-more (part_rows T M L ns) n

  -- of a table of n nodes: all rows but the goal row, and the goal row
  module _ (n : ℕ) (e : length ns ≡ n) where
    pub all-parts : rows_to T M L ns n ≡ slack_rows T M L ns
    unfolding rows_to
    all-parts = ap (flat (part_rows T M L ns)) (sym e) ∙ sym (nodes-parts T M L ns)

    pub goal-is : {v : ℕ} → v ≡ slack T M (n - 1) 1 → eq (plus v ∷ []) (pos 1) ≡ goal_row T M ns
    goal-is f = ap (λ (v : ℕ). eq (plus v ∷ []) (pos 1)) (f ∙ ap (λ (k : ℕ). slack T M (k - 1) 1) (sym e))

-- ---- node n by its blocks, and how many rows it has

-- the V's block of a block, from the variable v on
abbrev pub kept_of : (v : ℕ) → Block → Block
kept_of v b = record {
  kind = b.kind;
  own = v;
  left = b.left;
  right = b.right;
  from = b.from;
  to = b.to;
  next = None;
}

pub kept_of_lem : (v : ℕ) (b : Block) → Kept v b (kept_of v b)
kept_of_lem v b =
    record { kind_is = refl; own_is = refl; left_is = refl; right_is = refl; from_is = refl; to_is = refl; next-is = refl }

pub kept-is : {v : ℕ} {b c : Block} → Kept v b c → c ≡ kept_of v b
kept-is k = λ i. record {
  kind = k.kind_is i;
  own = k.own_is i;
  left = k.left_is i;
  right = k.right_is i;
  from = k.from_is i;
  to = k.to_is i;
  next = k.next-is i;
}

module _ (T M L : ℕ) (ns : List Node) (n : ℕ) (nd : Table.Node) (is : node_of nd ≡ node_at ns n) where
  abbrev v : ℕ
  v = (M + (length ns + looping (take n ns))) * T

  abbrev pub own_block : Block
  own_block = record {
    kind = nd.kind;
    own = (M + n) * T;
    left = left_block nd.kind M nd.left * T;
    right = (M + nd.right) * T;
    from = nd.from;
    to = nd.to;
    next = next_by T L v;
  }

  pub own_block_lem : Own T M L n v nd own_block
  own_block_lem = record { kind_is = refl; own_is = refl; left_is = refl; right_is = refl; from_is = refl; to_is = refl; next-is = refl }

  abbrev pub kept_block : Block
  kept_block = kept_of v own_block

  pub part-blocks : part_rows T M L ns n ≡ cond (has_kept T L nd) (block_rows kept_block T L) [] ++ block_rows own_block T L
  part-blocks =
      sym (both-rows T M L ns n v nd own_block kept_block is refl own_block_lem (kept_of_lem v own_block))

  pub length_part : 1 ≤ T → length (part_rows T M L ns n) ≡ node_count nd.kind T L nd.from nd.to
  length_part h =
      ap length part-blocks ∙ length-append (cond (has_kept T L nd) (block_rows kept_block T L) []) (block_rows own_block T L)
      ∙ ap₂ ◌+◌ (go (has_kept T L nd)) (length-block own_block T L h ∙ ap (λ (x : Bool). block_count nd.kind x T L nd.from nd.to) (own_loops own_block_lem))
    where
      go : (x : Bool) → length (cond x (block_rows kept_block T L) []) ≡ cond x (block_count nd.kind false T L nd.from nd.to) 0
      go true = length-block kept_block T L h
      go false = refl

  pub count-more : 1 ≤ T → length (rows_to T M L ns (n + 1)) ≡ length (rows_to T M L ns n) + node_count nd.kind T L nd.from nd.to
  count-more h =
      ap length (rows_more T M L ns n) ∙ length-append (rows_to T M L ns n) (part_rows T M L ns n)
      ∙ ap (λ (k : ℕ). length (rows_to T M L ns n) + k) (length_part h)
