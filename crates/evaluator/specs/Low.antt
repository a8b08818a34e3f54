-- "0 for an atom": a node of height 0 is an atom.
use Rattle.std.specs.Prelude.{◌≡◌, refl, List, ℕ, ◌<◌, length, get_or}
use Rattle.std.proofs.Common.{sym, ap, ◌∙◌, arith}
use Rattle.rules.specs.Rule.{Rule, height}
use Rattle.rules.specs.Table.{Node, NodeGood, left_of, rule_at, grow, node_at}
use Rattle.rules.specs.Table.Node.{atom, unary, binary, windowed}
use Rattle.rules.proofs.TableRules.{rule_at-is}
use Rattle.rules.specs.TableTest.{byte_at, record_count, nodes_in}
use Rattle.rules.proofs.TableTest.{good-sound, height-byte, length-nodes_in}
use Rattle.evaluator_words.specs.Words.{Word}
use Rattle.evaluator_atoms.specs.Columns.{Columns}
use Rattle.table.specs.Nodes.{node_by, node_of}
use Rattle.table.specs.declared.Kind.{Kind}
use Rattle.table.specs.declared.Kind.TheVariants.{Atom, Not, And, Or, Implies, Eventually, Always, Until, Within, Throughout}
use Rattle.table.specs.declared.Node.{Node as Read}
use Rattle.table.specs.Checks.{Ready}
use Rattle.evaluator.specs.Checks.{nodes-good}
use Rattle.evaluator.specs.Nodes.{node_at as word_at, Children}

abbrev pub IsAtom : Node → Type 0
IsAtom (atom a) = Unit {0}
IsAtom (unary u p) = ⊥
IsAtom (binary o p q) = ⊥
IsAtom (windowed w a b p) = ⊥

only-atoms : (rule : ℕ → Rule) (nd : Node) → height (grow rule nd) ≡ 0 → IsAtom nd
only-atoms rule (atom a) e = tt
only-atoms rule (unary u p) e = omega arith
only-atoms rule (binary o p q) e = omega arith
only-atoms rule (windowed w a b p) e = omega arith

-- what a node's record says of it
abbrev pub Low : (table : List ℕ) (n : ℕ) → Type 0
Low table n = byte_at table n 7 ≡ 0 → IsAtom (node_at (nodes_in table) n)

pub low-atom : {T M L : ℕ} {table : List ℕ} → Ready T M L table → (n : ℕ) → n < record_count table → Low table n
low-atom {M = M} {table = table} r n h low =
    let ns = nodes_in table in
    let l : n < length ns = omega (arith, length-nodes_in M table) in
    let e = good-sound M table (rw r.table-good tt) in
    only-atoms (rule_at ns) (node_at ns n) (ap height (sym (rule_at-is M ns (nodes-good r) n l)) ∙ sym (height-byte M table ns e n l) ∙ low)

-- an atom that was read has its number on the left
left_is : (k : Kind) (l r a b : ℕ) → left_of (node_by k l r a b) ≡ l
left_is Atom l r a b = refl
left_is Not l r a b = refl
left_is And l r a b = refl
left_is Or l r a b = refl
left_is Implies l r a b = refl
left_is Eventually l r a b = refl
left_is Always l r a b = refl
left_is Until l r a b = refl
left_is Within l r a b = refl
left_is Throughout l r a b = refl

module _ (T L M n r : ℕ) (run words cols : List ℕ) (nd : Read) where
  left-of : (x : Node) → node_of nd ≡ x → nd.left ≡ left_of x
  left-of x e = sym (left_is nd.kind nd.left nd.right nd.from nd.to) ∙ ap left_of e

  pub low_child : (x : Node) → node_of nd ≡ x → IsAtom x → Children T words x → nd.left < 16
  low_child (atom a) e i h = omega (arith, left-of (atom a) e)
  low_child (unary _ _) e i h = elim i [ ]
  low_child (binary _ _ _) e i h = elim i [ ]
  low_child (windowed _ a b child) e i h = elim i [ ]

  pub low_word : (x : Node) → node_of nd ≡ x → IsAtom x → NodeGood M n x → Columns T run M cols → r ≡ get_or cols nd.left 0 → Word T (word_at T L run words x) r
  low_word (atom a) e i good c is = rw (is ∙ ap (λ (k : ℕ). get_or cols k 0) (left-of (atom a) e)) (c a good)
  low_word (unary _ _) e i good c is = elim i [ ]
  low_word (binary _ _ _) e i good c is = elim i [ ]
  low_word (windowed _ a b child) e i good c is = elim i [ ]
