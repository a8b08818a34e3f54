-- What a node has at most, by its kind: rows, the bytes of their records, and the bytes of their lines in COLUMNS and RHS.
use Rattle.std.specs.Prelude.{◌≡◌, refl, Bool, cond, ◌&&◌, ℕ, zero, suc, ◌+◌, ◌*◌, ◌≤◌, length}
use Rattle.std.proofs.Common.{ap}
use Rattle.std.proofs.Math.Bool.{true, false}
use native.Mathlib.Omega.{arith}
use Rattle.lists.specs.Passing.{passing-length}
use Rattle.lists.specs.Sums.{sum_to, sum_le, sum-even}
use Rattle.rules.specs.Rows.{in_window}
use Rattle.table.specs.Looping.{loops_by}
use Rattle.table.specs.declared.Kind.{Kind}
use Rattle.table.specs.declared.Kind.TheVariants.{Atom, Not, And, Or, Implies, Eventually, Always, Until, Within, Throughout}
use Rattle.window.specs.Total.{slots_at, total_to, total-none, total-more}
use Rattle.row.specs.Kinds.{block_count}
use Rattle.row.specs.NodeRows.{count_by}
use Rattle.rows.specs.Sizes.{block_length, length_by}
use Rattle.mps_length.specs.Windows.{back_size, back_is}
use Rattle.mps_length.specs.Nodes.{block_weight, weight_by}

-- the V's of a node, one for each slot; x is whether L is below T
abbrev pub kept_by : (x : Bool) → Kind → (T : ℕ) → ℕ
kept_by x k T = cond (x && loops_by k) T 0

-- a node's own block or its V's: rows, bytes of their records, and bytes of their lines; `v` is whether the kind has a V
record BlockAtMost (v : Bool) (rows bytes lines : ℕ) : Type 0 where
  few : rows ≤ cond v 256 4160
  short : bytes ≤ cond v 3392 57856
  light : lines ≤ cond v 20352 331136

-- a node, within r, b and l: each V has a line of 26 bytes in BOUNDS, too
pub record NodeAtMost (r b l rows bytes lines kept : ℕ) : Type 0 where
  pub few : rows ≤ r
  pub short : bytes ≤ b
  pub light : lines + 26 * kept ≤ l

module _ (T L a b : ℕ) (T≤64 : T ≤ 64) where
  looked : (s : ℕ) → length (slots_at T L a b s) ≤ 64
  looked s = omega (arith, passing-length (in_window T L (s + 1) a b) T 1)

  -- a window over the first k slots
  slots-few : (k : ℕ) → total_to T L a b k ≤ 64 * k
  slots-few zero = omega (arith, total-none T L a b)
  slots-few (suc k) =
      let e : k + 1 ≡ suc k = omega arith in
      omega (arith, slots-few k, ap (total_to T L a b) e, total-more T L a b k, looked k)

  -- the right sides of the last rows of G[a,b]
  backs_few : (k : ℕ) → sum_to (λ s. back_size (length (slots_at T L a b s))) k ≤ 28 * k
  backs_few k =
      let h = sum_le (λ s. back_size (length (slots_at T L a b s))) (λ s. 28) k (λ s g. (back_is (length (slots_at T L a b s)) (looked s)).1) in
      omega (arith, sum-even (λ s. 28) 28 k (λ s g. refl))

  block-at-most : (k : Kind) (loops twice : Bool) →
      BlockAtMost (loops_by k) (block_count k loops T L a b) (block_length k loops T L a b) (block_weight k loops twice T L a b)
  unfolding block_count block_length block_weight
  block-at-most Atom loops twice = omega arith
  block-at-most Not loops twice = omega arith
  block-at-most And loops true = omega arith
  block-at-most And loops false = omega arith
  block-at-most Or loops true = omega arith
  block-at-most Or loops false = omega arith
  block-at-most Implies loops true = omega arith
  block-at-most Implies loops false = omega arith
  block-at-most Eventually true twice = omega arith
  block-at-most Eventually false twice = omega arith
  block-at-most Always true twice = omega arith
  block-at-most Always false twice = omega arith
  block-at-most Until true true = omega arith
  block-at-most Until true false = omega arith
  block-at-most Until false true = omega arith
  block-at-most Until false false = omega arith
  block-at-most Within loops twice = let h = slots-few T in omega arith
  block-at-most Throughout loops twice = let h = slots-few T in let g = backs_few T in omega arith

  module _ (x twice : Bool) where
    pub node-at-most : (k : Kind) →
        NodeAtMost 4160 57856 331136 (count_by x k T L a b) (length_by x k T L a b) (weight_by x twice k T L a b) (kept_by x k T)
    node-at-most k = go x (loops_by k) (block-at-most k false twice) (block-at-most k x twice)
      where
        go : (x v : Bool) {r s l rows bytes lines : ℕ} → BlockAtMost v r s l → BlockAtMost v rows bytes lines →
            NodeAtMost 4160 57856 331136 (cond (x && v) r 0 + rows) (cond (x && v) s 0 + bytes) (cond (x && v) l 0 + lines) (cond (x && v) T 0)
        go true true p q = omega arith
        go true false p q = omega arith
        go false true p q = omega arith
        go false false p q = omega arith

    pub atom-at-most : NodeAtMost 64 704 3392 (count_by x Atom T L a b) (length_by x Atom T L a b) (weight_by x twice Atom T L a b) (kept_by x Atom T)
    unfolding block_count block_length block_weight
    atom-at-most = go x
      where
        go : (x : Bool) →
            NodeAtMost 64 704 3392 (cond (x && false) T 0 + T) (cond (x && false) (11 * T) 0 + 11 * T) (cond (x && false) (53 * T) 0 + 53 * T)
            (cond (x && false) T 0)
        go true = omega arith
        go false = omega arith
