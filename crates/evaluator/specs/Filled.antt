-- The words of the nodes, one node after the other.
use Rattle.std.specs.Prelude.{◌≡◌, List, ℕ, ◌+◌, ◌≤◌, ◌<◌, length, get_or, set}
use Rattle.std.proofs.Common.{sym, ◌∙◌, arith, length-set, get_or-set_same, get_or-set_other}
use Rattle.std.proofs.Math.Decide.{ℕ_discrete}
use Rattle.rules.specs.Table as Table
use Rattle.rules.specs.Table.{Node, NodeGood}
use Rattle.rules.specs.Table.Node.{atom, unary, binary, windowed}
use Rattle.evaluator_words.specs.Words.{Word}
use Rattle.evaluator.specs.Nodes.{node_at, unary_at, binary_at, window_at, by_one, by_two}

-- the first n nodes have their words, and what stands behind is as it was
pub record Filled (T L : ℕ) (run : List ℕ) (ns : List Node) (l : List ℕ) (n : ℕ) (m : List ℕ) : Type 0 where
  pub same : length m ≡ length l
  pub at : (c : ℕ) → c < n → Word T (node_at T L run m (Table.node_at ns c)) (get_or m c 0)
  pub behind : (i : ℕ) → n ≤ i → get_or m i 0 ≡ get_or l i 0

-- a node looks at its children alone
pub node-same : (T L M n r : ℕ) (run m k : List ℕ) (nd : Node) → NodeGood M n nd → ((i : ℕ) → i < n → get_or m i 0 ≡ get_or k i 0) →
    Word T (node_at T L run m nd) r → Word T (node_at T L run k nd) r
node-same T L M n r run m k (atom a) g e d = d
node-same T L M n r run m k (unary u p) g e d = by_one (unary_at T L u) (e p g) d
node-same T L M n r run m k (binary o p q) g e d = by_two (binary_at T L o) (e p g.0) (e q g.1) d
node-same T L M n r run m k (windowed w a b p) g e d = by_one (window_at T L w a b) (e p g.0) d

module _ (T L M : ℕ) (run : List ℕ) (ns : List Node) (l : List ℕ) (n : ℕ) (m : List ℕ)
    (good : (c : ℕ) → c < length ns → NodeGood M c (Table.node_at ns c)) (inside : n < length ns) (room : n < length l) (f : Filled T L run ns l n m) where
  pub filled_more : (v : ℕ) → Word T (node_at T L run m (Table.node_at ns n)) v → Filled T L run ns l (n + 1) (set m n v)
  filled_more v d = record {
    same = length-set m n v ∙ f.same;
    at = λ c h. pick c h (ℕ_discrete c n);
    behind = λ i h. get_or-set_other m n i v 0 (λ e. omega arith) ∙ f.behind i (omega arith);
  }
    where
      kept : (i : ℕ) → i < n → get_or m i 0 ≡ get_or (set m n v) i 0
      kept i h = sym (get_or-set_other m n i v 0 (λ e. omega arith))

      pick : (c : ℕ) → c < n + 1 → Dec (c ≡ n) → Word T (node_at T L run (set m n v) (Table.node_at ns c)) (get_or (set m n v) c 0)
      pick c h (yes e) =
          rw (e, get_or-set_same m n v 0 (omega (arith, f.same)))
          (node-same T L M n v run m (set m n v) (Table.node_at ns n) (good n inside) kept d)
      pick c h (no e) =
          let l : c < n = omega arith in
          rw (get_or-set_other m n c v 0 (λ z. omega arith))
          (node-same T L M c (get_or m c 0) run m (set m n v) (Table.node_at ns c) (good c (omega arith)) (λ i u. kept i (omega arith)) (f.at c l))
