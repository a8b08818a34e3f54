-- A turn of the loops over slots and over nodes: the lines of one more slot, and of one more node.
use Rattle.std.specs.Prelude.{◌≡◌, refl, Option, Some, None, cond, List, [], ◌∷◌, ◌++◌, ℕ, ◌+◌, ◌≤◌, length}
use Rattle.std.proofs.Common.{sym, ap, ◌∙◌, arith, append-nil, length-append}
use Rattle.rules.specs.Table.{Node}
use Rattle.rules.specs.Rows.{Row, rows_of, goal_row}
use Rattle.mps.specs.Page.{each_row}
use Rattle.row.specs.NodeRows.{block_rows, both-rows, has_kept, kept_of, kept_of_lem, kept-is, node_count, part_rows, length_part, rows_to, rows_none, rows_more, all-parts}
use Rattle.cursor.specs.declared.Cursor.{Cursor}
use Rattle.mps_line.specs.Emitted.{Emitted, emitted-none, emitted-also, emitted_as}
use Rattle.mps_row.specs.Laws.{each_append}
use Rattle.mps_node.specs.declared.Blocks.{Blocks}
use Rattle.row.specs.declared.Block.{Block}
use Rattle.mps_node.specs.Places.{kept_rows, blocks_rows, KeptAt, BlocksAt}

-- the lines of the rows rs are put, numbered from `first` on, and the next row has the number `next`
pub record Listed (line : ℕ → Row → List ℕ) (first : ℕ) (rs : List Row) (next : ℕ) (old new : Cursor) : Type 0 where
  pub numbered : next ≡ first + length rs
  pub emitted : Emitted (each_row line first rs) old new

module _ (line : ℕ → Row → List ℕ) (first : ℕ) (a : Cursor) where
  pub listed-none : Listed line first [] first a a
  unfolding each_row
  listed-none = record { numbered = omega arith; emitted = emitted-none a }

  -- more rows behind
  pub listed_more : {rs : List Row} {next next' : ℕ} {b c : Cursor} (more : List Row) → Listed line first rs next a b →
      Emitted (each_row line next more) b c →
      next' ≡ next + length more → Listed line first (rs ++ more) next' a c
  listed_more {rs} {next} {next'} more d s e =
      record {
        numbered = omega (arith, e, d.numbered, length-append rs more);
        emitted = emitted_as (ap (λ (k : ℕ). each_row line first rs ++ each_row line k more) d.numbered ∙ sym (each_append line first rs more))
            (emitted-also d.emitted s);
      }

  -- the same rows, said in another way
  pub listed_as : {rs ss : List Row} {next : ℕ} {b : Cursor} → rs ≡ ss → Listed line first rs next a b → Listed line first ss next a b
  listed_as {next = next} {b} e d = rw e at d

-- the lines of one more node, and of the goal row behind those of all n nodes
module _ (T M L : ℕ) (ns : List Node) (line : ℕ → Row → List ℕ) (a : Cursor) where
  pub no_nodes : Listed line 0 (rows_to T M L ns 0) 0 a a
  no_nodes = listed_as line 0 a (sym (rows_none T M L ns)) (listed-none line 0 a)

  pub one-node : (i : ℕ) {next next' : ℕ} {b c : Cursor} → Listed line 0 (rows_to T M L ns i) next a b →
      Emitted (each_row line next (part_rows T M L ns i)) b c → next' ≡ next + length (part_rows T M L ns i) →
      Listed line 0 (rows_to T M L ns (i + 1)) next' a c
  one-node i d s e = listed_as line 0 a (sym (rows_more T M L ns i)) (listed_more line 0 a (part_rows T M L ns i) d s e)

  one_line : (i : ℕ) {a x : Row} → a ≡ x → line i a ≡ each_row line i (x ∷ [])
  unfolding each_row
  one_line i {a} {x} e = ap (line i) e ∙ sym (append-nil (line i x))

  pub all-nodes : {n next : ℕ} {b c : Cursor} {goal : Row} → length ns ≡ n → Listed line 0 (rows_to T M L ns n) next a b →
      goal ≡ goal_row T M ns → Emitted (line next goal) b c → Emitted (each_row line 0 (rows_of T M L ns)) a c
  all-nodes {n} {next} e d g s =
      (listed_more line 0 a (goal_row T M ns ∷ []) (listed_as line 0 a (all-parts T M L ns n e) d) (emitted_as (one_line next g) s) refl).emitted

  -- ---- a node's rows by its blocks

  module _ {n v : ℕ} {bs : Blocks} (at : BlocksAt T M L ns n v bs) (0<T : 1 ≤ T) where
    pub blocks-rows : blocks_rows T L bs ≡ part_rows T M L ns n
    blocks-rows =
        ap (λ (rs : List Row). rs ++ block_rows bs.own T L) (go bs.kept at.kept-is)
        ∙ both-rows T M L ns n v at.node bs.own kept at.is at.place at.own_is (kept_of_lem v bs.own)
      where
        kept : Block
        kept = kept_of v bs.own

        go : (x : Option Block) → KeptAt v bs.own (has_kept T L at.node) x → kept_rows T L x ≡ cond (has_kept T L at.node) (block_rows kept T L) []
        go (Some b) h = rw h.0 (ap (λ (b : Block). block_rows b T L) (kept-is h.1))
        go None h = rw h refl

    pub node-count : length (part_rows T M L ns n) ≡ node_count bs.own.kind T L bs.own.from bs.own.to
    node-count =
        let o = at.own_is in
        length_part T M L ns n at.node at.is 0<T ∙ sym (rw (o.kind_is, o.from_is, o.to_is) refl)
