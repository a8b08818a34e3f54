-- A node's height from those in its children's records.
use Rattle.std.specs.Prelude.{◌≡◌, refl, true, List, ℕ, ◌+◌, ◌≤◌, ◌<◌, max}
use Rattle.std.proofs.Common.{◌∙◌, arith}
use Rattle.rules.specs.Table.{Node, NodeGood, kind_of, left_of, right_of}
use Rattle.rules.specs.Table.Node.{atom, unary, binary, windowed}
use Rattle.rules.specs.TableTest.{byte_at, height_now, node_from, node_test}
use Rattle.rules.proofs.TableTest.{node_fields}

-- node 0 can only be an atom: by the time that a later node is looked at, its height is known to be 0
abbrev pub FirstLow : List ℕ → (n : ℕ) → Type 0
FirstLow table n = 1 ≤ n → byte_at table 0 7 ≡ 0

-- the children stand before node n, and its height follows from theirs: who has no right child has 0 for it
pub record Children (f : ℕ → ℕ) (n l r : ℕ) (nd : Node) : Type 0 where
  pub left_in : l < n
  pub right-in : r < n
  pub height-is : max (f l) (f r) + 1 ≡ height_now f nd

module _ (M n : ℕ) (f : ℕ → ℕ) (low : 1 ≤ n → f 0 ≡ 0) where
  one_child : (c : ℕ) → c < n → max (f c) (f 0) + 1 ≡ f c + 1
  one_child c h = let e = low (omega arith) in omega arith

  of_node : (nd : Node) → (kind_of nd ≡ 1 → ⊥) → NodeGood M n nd → Children f n (left_of nd) (right_of nd) nd
  of_node (atom a) k h = absurd (k refl)
  of_node (unary u c) k h = record { left_in = h; right-in = omega arith; height-is = one_child c h }
  of_node (binary o l r) k h = record { left_in = h.0; right-in = h.1; height-is = refl }
  of_node (windowed w a b c) k h = record { left_in = h.0; right-in = omega arith; height-is = one_child c h.0 }

by_fields : (f : ℕ → ℕ) (n l r : ℕ) (nd : Node) → l ≡ left_of nd → r ≡ right_of nd → Children f n (left_of nd) (right_of nd) nd → Children f n l r nd
by_fields f n l r nd x y h = rw (x, y) h

-- node n's children, as its record has them
abbrev pub ChildrenKnown : List ℕ → (n : ℕ) → Type 0
ChildrenKnown table n = Children (λ c. byte_at table c 7) n (byte_at table n 3) (byte_at table n 4) (node_from table n)

-- where the record is not an atom's and passed the test of its other bytes
pub children-known : (M : ℕ) (table : List ℕ) (n : ℕ) → (byte_at table n 2 ≡ 1 → ⊥) → node_test M table n ≡ true → FirstLow table n → ChildrenKnown table n
children-known M table n other e low =
    let x = node_fields M table n (rw e tt) in
    let f : ℕ → ℕ = λ c. byte_at table c 7 in
    by_fields f n (byte_at table n 3) (byte_at table n 4) (node_from table n) x.left_is x.right_is
    (of_node M n f low (node_from table n) (λ z. other (x.kind_is ∙ z)) x.good-node)
