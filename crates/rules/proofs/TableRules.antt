-- The rules that a table's nodes stand for; the table of a rule is good, and its root stands for the rule.
use Rattle.rules.specs.TableRules.{NodesGood}
use Rattle.std.specs.Prelude.{◌≡◌, refl, List, [], ◌∷◌, ◌++◌, ℕ, zero, suc, ◌+◌, ◌-◌, ◌≤◌, ◌<◌, length}
use Rattle.std.proofs.Common.{sym, ap, ap₂, subst, ◌∙◌, arith, length-append, get_or-append-add}
use Rattle.std.proofs.Math.Decide.{dec_lt}
use Rattle.std.proofs.Math.ListN.{get_or-append}
use Rattle.rules.proofs.RuleSize.{size-positive}
use Rattle.rules.specs.Rule.{Rule, size, AtomsBelow, WindowsAllowed}
use Rattle.rules.specs.Rule.Rule.{atom, unary, binary, windowed}
use Rattle.rules.specs.Table.{Node, NodeGood, Good, table_bytes, nodes_from, nodes_of, node_at, grow, rule_to, rule_at, root}

-- a node's rule needs only the rules of the nodes below it
grow_cong : (M n : ℕ) (f g : ℕ → Rule) → ((c : ℕ) → c < n → f c ≡ g c) → (nd : Node) → NodeGood M n nd → grow f nd ≡ grow g nd
grow_cong M n f g e (Node.atom a) h = refl
grow_cong M n f g e (Node.unary u c) h = ap (unary u) (e c h)
grow_cong M n f g e (Node.binary o l r) h = ap₂ (binary o) (e l h.0) (e r h.1)
grow_cong M n f g e (Node.windowed w a b c) h = ap (windowed w a b) (e c h.0)

module _ (M : ℕ) (ns : List Node) (good : NodesGood M ns) where
  rule_to-enough : (k m n : ℕ) → n < k → n < m → n < length ns → rule_to ns k n ≡ rule_to ns m n
  rule_to-enough zero m n u v z = absurd (omega arith)
  rule_to-enough (suc k) zero n u v z = absurd (omega arith)
  rule_to-enough (suc k) (suc m) n u v z =
      grow_cong M n (rule_to ns k) (rule_to ns m) (λ c h. rule_to-enough k m c (omega arith) (omega arith) (omega arith)) (node_at ns n) (good n z)

  pub rule_at-is : (n : ℕ) → n < length ns → rule_at ns n ≡ grow (rule_at ns) (node_at ns n)
  rule_at-is n z =
      grow_cong M n (rule_to ns n) (rule_at ns) (λ c h. rule_to-enough n (suc c) c h (omega arith) (omega arith)) (node_at ns n) (good n z)

-- ---- the table of a rule

pub length-nodes_from : (k : ℕ) (p : Rule) → length (nodes_from k p) ≡ size p
length-nodes_from k (atom a) = refl
length-nodes_from k (unary u p) = simp length-append (omega (arith, length-nodes_from k p))
length-nodes_from k (binary o p q) = simp length-append (omega (arith, length-nodes_from k p, length-nodes_from (k + size p) q))
length-nodes_from k (windowed w a b p) = simp length-append (omega (arith, length-nodes_from k p))

-- good as a part of a table, its first node being node k
abbrev GoodFrom : (M k : ℕ) → List Node → Type 0
GoodFrom M k l = (i : ℕ) → i < length l → NodeGood M (k + i) (node_at l i)

good-append : (M k c : ℕ) (a b : List Node) → length a ≡ c → GoodFrom M k a → GoodFrom M (k + c) b → GoodFrom M k (a ++ b)
good-append M k c a b e g h i u = go (dec_lt i (length a))
  where
    go : Dec (i < length a) → NodeGood M (k + i) (node_at (a ++ b) i)
    go (yes z) = rw (get_or-append a b (Node.atom 0) i z) (g i z)
    go (no z) =
        let s : length a + (i - c) ≡ i = omega arith in
        subst (λ (j : ℕ). NodeGood M (k + j) (node_at (a ++ b) j)) s
        (subst (λ (nd : Node). NodeGood M (k + (length a + (i - c))) nd) (sym (get_or-append-add a b (i - c) (Node.atom 0)))
        (subst (λ (j : ℕ). NodeGood M j (node_at b (i - c))) (omega arith) (h (i - c) (omega (arith, length-append a b)))))

good-one : (M k : ℕ) (nd : Node) → NodeGood M k nd → GoodFrom M k (nd ∷ [])
good-one M k nd h zero u = subst (λ (j : ℕ). NodeGood M j nd) (omega arith) h
good-one M k nd h (suc i) u = absurd (omega arith)

nodes-good-from : (M : ℕ) (p : Rule) → AtomsBelow M p → WindowsAllowed p → (k : ℕ) → GoodFrom M k (nodes_from k p)
nodes-good-from M (atom a) h i k = good-one M k (Node.atom a) h
nodes-good-from M (windowed w a b p) h i k =
    good-append M k (size p) (nodes_from k p) (Node.windowed w a b (k + size p - 1) ∷ []) (length-nodes_from k p) (nodes-good-from M p h i.1 k)
    (good-one M (k + size p) (Node.windowed w a b (k + size p - 1)) (omega (arith, size-positive p), i.0))
nodes-good-from M (unary u p) h i k =
    good-append M k (size p) (nodes_from k p) (Node.unary u (k + size p - 1) ∷ []) (length-nodes_from k p) (nodes-good-from M p h i k)
    (good-one M (k + size p) (Node.unary u (k + size p - 1)) (omega (arith, size-positive p)))
nodes-good-from M (binary o p q) h i k =
    good-append M k (size p) (nodes_from k p) _ (length-nodes_from k p) (nodes-good-from M p h.0 i.0 k)
    (good-append M (k + size p) (size q) (nodes_from (k + size p) q) _ (length-nodes_from (k + size p) q) (nodes-good-from M q h.1 i.1 (k + size p))
    (good-one M (k + size p + size q) (Node.binary o (k + size p - 1) (k + size p + size q - 1))
    (omega (arith, size-positive p, size-positive q), omega (arith, size-positive p, size-positive q))))

pub nodes-good : (M : ℕ) (p : Rule) → AtomsBelow M p → WindowsAllowed p → NodesGood M (nodes_of p)
nodes-good M p h i n u = subst (λ (j : ℕ). NodeGood M j (node_at (nodes_of p) n)) (omega arith) (nodes-good-from M p h i 0 n u)

-- "which is what the reader writes": the table of a rule with few enough nodes and atoms, and windows that are allowed, is good
pub rule-good : (M : ℕ) (p : Rule) → AtomsBelow M p → WindowsAllowed p → size p ≤ 128 → Good M (table_bytes (nodes_of p)) (nodes_of p)
rule-good M p h i k = record {
  records = refl;
  some = omega (arith, length-nodes_from 0 p, size-positive p);
  few = omega (arith, length-nodes_from 0 p);
  nodes = nodes-good M p h i;
}

-- ---- the root stands for the rule

-- ns has the nodes l from node k on
abbrev pub Has : List Node → ℕ → List Node → Type 0
Has ns k l = (i : ℕ) → i < length l → node_at ns (k + i) ≡ node_at l i

pub has_left : (ns : List Node) (k : ℕ) (a b : List Node) → Has ns k (a ++ b) → Has ns k a
has_left ns k a b h i u = h i (omega (arith, length-append a b)) ∙ get_or-append a b (Node.atom 0) i u

pub has_right : (ns : List Node) (k c : ℕ) (a b : List Node) → length a ≡ c → Has ns k (a ++ b) → Has ns (k + c) b
has_right ns k c a b e h i u =
    ap (node_at ns) (omega arith) ∙ h (length a + i) (omega (arith, length-append a b)) ∙ get_or-append-add a b i (Node.atom 0)

module _ (M : ℕ) (ns : List Node) (good : NodesGood M ns) where
  last-is : (k : ℕ) (nd : Node) → Has ns k (nd ∷ []) → k < length ns → rule_at ns k ≡ grow (rule_at ns) nd
  last-is k nd h u = rule_at-is M ns good k u ∙ ap (grow (rule_at ns)) (ap (node_at ns) (omega arith) ∙ h 0 (omega arith))

  pub stands : (p : Rule) (k : ℕ) → Has ns k (nodes_from k p) → k + size p ≤ length ns → rule_at ns (k + size p - 1) ≡ p
  stands (atom a) k h u = ap (rule_at ns) (omega arith) ∙ last-is k (Node.atom a) h (omega arith)
  stands (unary v p) k h u =
      let top = Node.unary v (k + size p - 1) in
      ap (rule_at ns) (omega arith)
      ∙ last-is (k + size p) top (has_right ns k (size p) (nodes_from k p) (top ∷ []) (length-nodes_from k p) h) (omega arith)
      ∙ ap (unary v) (stands p k (has_left ns k (nodes_from k p) (top ∷ []) h) (omega arith))
  stands (windowed w a b p) k h u =
      let top = Node.windowed w a b (k + size p - 1) in
      ap (rule_at ns) (omega arith)
      ∙ last-is (k + size p) top (has_right ns k (size p) (nodes_from k p) (top ∷ []) (length-nodes_from k p) h) (omega arith)
      ∙ ap (windowed w a b) (stands p k (has_left ns k (nodes_from k p) (top ∷ []) h) (omega arith))
  stands (binary o p q) k h u =
      let top = Node.binary o (k + size p - 1) (k + size p + size q - 1) in
      let behind = nodes_from (k + size p) q ++ (top ∷ []) in
      let right = has_right ns k (size p) (nodes_from k p) behind (length-nodes_from k p) h in
      ap (rule_at ns) (omega arith)
      ∙ last-is (k + size p + size q) top
      (has_right ns (k + size p) (size q) (nodes_from (k + size p) q) (top ∷ []) (length-nodes_from (k + size p) q) right) (omega arith)
      ∙ ap₂ (binary o) (stands p k (has_left ns k (nodes_from k p) behind h) (omega arith))
      (stands q (k + size p) (has_left ns (k + size p) (nodes_from (k + size p) q) (top ∷ []) right) (omega arith))

pub root_is : (M : ℕ) (p : Rule) → AtomsBelow M p → WindowsAllowed p → rule_at (nodes_of p) (root (nodes_of p)) ≡ p
root_is M p h i =
    ap (λ (n : ℕ). rule_at (nodes_of p) (n - 1)) (length-nodes_from 0 p) ∙ ap (rule_at (nodes_of p)) (omega arith)
    ∙ stands M (nodes_of p) (nodes-good M p h i) p 0 (λ i u. ap (node_at (nodes_of p)) (omega arith)) (omega (arith, length-nodes_from 0 p))
