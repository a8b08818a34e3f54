-- The bytes of a table's rows, node by node, as the writer makes them, and how many rows they are.
use Rattle.std.specs.Prelude.{◌≡◌, Bool, true, false, cond, ◌&&◌, ℕ, ◌+◌, ◌*◌, ◌≤◌, ◌<◌, ltb}
use Rattle.std.proofs.Math.Path.{refl, sym, ap, ap₂, subst⁻¹}
use Rattle.std.proofs.Common.{◌∙◌}
use mathlib.Core.List.{List, [], ◌∷◌, ◌++◌, append-nil}
use Rattle.std.proofs.Math.ListN.{length, length-append}
use Rattle.lists.specs.Flat.{flat, flat-zero, flat-more}
use Rattle.rules.specs.Table.{Node, NodeGood, node_at}
use Rattle.rules.specs.TableTest.{nodes_in, record_count}
use Rattle.rules.proofs.TableTest.{length-nodes_in}
use Rattle.rules.specs.Rows.{Row, row_bytes, rows_bytes, slack_rows, goal_row, rows_of}
use Rattle.rules.proofs.RowParts.{rows_bytes-append, rows_bytes-flat, nodes-parts}
use Rattle.table.specs.Checks.{Ready}
use Rattle.table.specs.Nodes.{node_of, NodeRead}
use Rattle.table.specs.Looping.{loops_by, looping_to}
use Rattle.table.specs.declared.Node as Table
use Rattle.row.specs.declared.Block.{Block}
use Rattle.row.specs.Kinds.{Allowed, allowed}
use Rattle.row.specs.NodeRows.{Own, own_loops, loops_of, has_kept, block_rows, both-rows, part_rows, rows_to, kept_of, kept_of_lem}
use Rattle.rows_node.specs.Blocks.{block_bytes, block-bytes, node_bytes, node-parts}
use Rattle.rows.specs.Sizes.{node_length, part_length}

-- the bytes of the rows of node n, and of the first k nodes
abbrev pub part_bytes : (T M L : ℕ) → List Node → (n : ℕ) → List ℕ
part_bytes T M L ns n = rows_bytes (part_rows T M L ns n)

unfoldable pub nodes_bytes : (T M L : ℕ) → List Node → (k : ℕ) → List ℕ
nodes_bytes T M L ns k = flat (part_bytes T M L ns) k

-- node n, as it is read, and its own block; V's block comes after the nodes and the V's before it
module _ (T M L : ℕ) (table : List ℕ) (n part v : ℕ) (nd : Table.Node) (b : Block) (ready : Ready T M L table) (low : n < record_count table)
    (read : NodeRead table n nd) (next : part ≡ record_count table + looping_to (nodes_in table) n) (at : v ≡ (M + part) * T) (own : Own T M L n v nd b) where
  abbrev ns : List Node
  ns = nodes_in table

  place : v ≡ (M + (length ns + looping_to ns n)) * T
  place = at ∙ ap (λ (k : ℕ). (M + k) * T) (next ∙ ap (λ (k : ℕ). k + looping_to ns n) (sym (length-nodes_in M table)))

  pub own-allowed : Allowed b.kind b.from b.to
  own-allowed =
      rw (own.kind_is, own.from_is, own.to_is)
      (allowed M n nd.kind nd.left nd.right nd.from nd.to (subst⁻¹ (NodeGood M n) read.is (ready.nodes n low)))

  -- V's bytes: x is whether L is below T, and y whether the kind has a V
  kept : (x y : Bool) → loops_of b ≡ x → loops_by b.kind ≡ y →
      rows_bytes (cond (x && y) (block_rows (kept_of v b) T L) []) ≡ cond (loops_of b && loops_by b.kind) (block_bytes (kept_of v b) T L) []
  kept x y e f = rw (e, f) (go (x && y))
    where
      go : (z : Bool) → rows_bytes (cond z (block_rows (kept_of v b) T L) []) ≡ cond z (block_bytes (kept_of v b) T L) []
      go true = sym (block-bytes (kept_of v b) T L)
      go false = refl

  pub part-is : part_bytes T M L ns n ≡ node_bytes T L v b
  part-is =
      let first = cond (has_kept T L nd) (block_rows (kept_of v b) T L) [] in
      ap rows_bytes (sym (both-rows T M L ns n v nd b (kept_of v b) read.is place own (kept_of_lem v b))) ∙ rows_bytes-append first (block_rows b T L)
      ∙ ap₂ ◌++◌ (kept (ltb L T) (loops_by nd.kind) (own_loops own) (ap loops_by own.kind_is)) (sym (block-bytes b T L))
      ∙ sym (node-parts T L v b)

module _ (T M L : ℕ) (ns : List Node) where
  -- all nodes' rows, and then the goal row
  pub all-bytes : nodes_bytes T M L ns (length ns) ++ row_bytes (goal_row T M ns) ≡ rows_bytes (rows_of T M L ns)
  unfolding nodes_bytes
  all-bytes =
      ap₂ ◌++◌ (sym (rows_bytes-flat (part_rows T M L ns) (length ns)) ∙ ap rows_bytes (sym (nodes-parts T M L ns)))
      (sym (append-nil (row_bytes (goal_row T M ns))))
      ∙ sym (rows_bytes-append (slack_rows T M L ns) (goal_row T M ns ∷ []))

  -- ---- how many bytes they are

  abbrev pub length_to : ℕ → ℕ
  length_to k = length (nodes_bytes T M L ns k)

  pub length_none : length_to 0 ≡ 0
  unfolding nodes_bytes
  length_none = ap length (flat-zero (part_bytes T M L ns))

  pub length_more : (n : ℕ) (nd : Table.Node) → 1 ≤ T → node_of nd ≡ node_at ns n →
      length_to (n + 1) ≡ length_to n + node_length nd.kind T L nd.from nd.to
  unfolding nodes_bytes
  length_more n nd h e =
      ap length (flat-more (part_bytes T M L ns) n) ∙ length-append (flat (part_bytes T M L ns) n) (part_bytes T M L ns n)
      ∙ ap (λ (c : ℕ). length (flat (part_bytes T M L ns) n) + c) (part_length T M L ns n nd e h)

  -- ---- the row count

  abbrev pub count_to : ℕ → ℕ
  count_to k = length (rows_to T M L ns k)

  pub count-all : count_to (length ns) + 1 ≡ length (rows_of T M L ns)
  unfolding rows_to
  count-all = ap (λ (rs : List Row). length rs + 1) (sym (nodes-parts T M L ns)) ∙ sym (length-append (slack_rows T M L ns) (goal_row T M ns ∷ []))

  module _ (n : ℕ) (e : length ns ≡ n) where
    pub count-is : {c : ℕ} → c ≡ count_to n → c + 1 ≡ length (rows_of T M L ns)
    count-is h = ap (λ (k : ℕ). k + 1) (h ∙ ap count_to (sym e)) ∙ count-all

    pub bytes-are : nodes_bytes T M L ns n ++ row_bytes (goal_row T M ns) ≡ rows_bytes (rows_of T M L ns)
    bytes-are = ap (λ (k : ℕ). nodes_bytes T M L ns k ++ row_bytes (goal_row T M ns)) (sym e) ∙ all-bytes

    -- the goal row's place
    pub before-goal : length_to n + 8 ≡ length (rows_bytes (rows_of T M L ns))
    before-goal = sym (length-append (nodes_bytes T M L ns n) (row_bytes (goal_row T M ns))) ∙ ap length bytes-are

    pub length-is : {c : ℕ} → c ≡ length_to n → c + 8 ≡ length (rows_bytes (rows_of T M L ns))
    length-is h = ap (λ (k : ℕ). k + 8) h ∙ before-goal
