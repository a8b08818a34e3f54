-- A table's rows as parts one after the other: the rows of a node at its slots, and those of the nodes.
use Rattle.std.specs.Prelude.{◌≡◌, refl, List, [], ◌∷◌, ◌++◌, ℕ, zero, suc, ◌+◌, length}
use Rattle.std.proofs.Common.{sym, ap, ap₂, ◌∙◌, append_assoc, arith}
use Rattle.lists.specs.Flat.{flat, flat-zero, flat-first, flat-same}
use Rattle.rules.specs.Table.{Node, node_at}
use Rattle.rules.specs.Rows.{Row, row_bytes, rows_bytes, slots_rows, node_rows, nodes_rows, slack_rows}

pub rows_bytes-append : (a b : List Row) → rows_bytes (a ++ b) ≡ rows_bytes a ++ rows_bytes b
rows_bytes-append [] b = refl
rows_bytes-append (r ∷ a) b = ap (λ (l : List ℕ). row_bytes r ++ l) (rows_bytes-append a b) ∙ sym (append_assoc (row_bytes r) (rows_bytes a) (rows_bytes b))

pub rows_bytes-flat : (f : ℕ → List Row) (n : ℕ) → rows_bytes (flat f n) ≡ flat (λ i. rows_bytes (f i)) n
unfolding flat
rows_bytes-flat f zero = refl
rows_bytes-flat f (suc n) = rows_bytes-append (flat f n) (f n) ∙ ap (λ (l : List ℕ). l ++ rows_bytes (f n)) (rows_bytes-flat f n)

slots-from : (f : ℕ → List Row) (k t : ℕ) → slots_rows f k t ≡ flat (λ s. f (s + t)) k
slots-from f zero t = sym (flat-zero _)
slots-from f (suc k) t =
    ap₂ ◌++◌ (ap f (omega arith)) (slots-from f k (t + 1) ∙ flat-same (λ s. f (s + (t + 1))) (λ s. f (suc s + t)) k (λ s h. ap f (omega arith)))
    ∙ sym (flat-first (λ s. f (s + t)) k)

-- "slots within a node": slot s + 1 for s from 0
pub slots-parts : (f : ℕ → List Row) (k : ℕ) → slots_rows f k 1 ≡ flat (λ s. f (s + 1)) k
slots-parts f k = slots-from f k 1

module _ (T M L : ℕ) (ns : List Node) where
  nodes-from : (n : ℕ) (l : List Node) → nodes_rows T M L ns n l ≡ flat (λ i. node_rows T M L ns (i + n) (node_at l i)) (length l)
  nodes-from n [] = sym (flat-zero _)
  nodes-from n (nd ∷ l) =
      let f : ℕ → List Row = λ i. node_rows T M L ns (i + n) (node_at (nd ∷ l) i) in
      ap₂ ◌++◌ (ap (λ (i : ℕ). node_rows T M L ns i nd) (omega arith))
      (nodes-from (n + 1) l
      ∙ flat-same (λ i. node_rows T M L ns (i + (n + 1)) (node_at l i)) (λ i. f (suc i)) (length l)
      (λ i h. ap (λ (j : ℕ). node_rows T M L ns j (node_at l i)) (omega arith)))
      ∙ sym (flat-first f (length l))

  -- "Nodes run in number order"
  pub nodes-parts : slack_rows T M L ns ≡ flat (λ n. node_rows T M L ns n (node_at ns n)) (length ns)
  nodes-parts =
      nodes-from 0 ns ∙ flat-same (λ i. node_rows T M L ns (i + 0) (node_at ns i)) (λ n. node_rows T M L ns n (node_at ns n)) (length ns)
      (λ i h. ap (λ (j : ℕ). node_rows T M L ns j (node_at ns i)) (omega arith))
