-- "Node table", with windows (request N4) and heights (request N6): the nodes of a rule, their records, and which byte strings are good tables.
use Rattle.std.specs.Prelude.{◌≡◌, List, [], ◌∷◌, ◌++◌, ℕ, zero, suc, ◌+◌, ◌-◌, ◌≤◌, ◌<◌, length, get_or}
use Rattle.rules.specs.Quantities.{node_limit, WindowAllowed}
use Rattle.rules.specs.Rule.{Unary, Binary, Window, Rule, size, height}
use Rattle.rules.specs.Rule.Unary.{not, eventually, always}
use Rattle.rules.specs.Rule.Binary.{and, or, implies, until}
use Rattle.rules.specs.Rule.Window.{within, throughout}

-- A node: an atom's number, or the numbers of its children, with the window a, b where it has one.
pub data Node : Type 0 where
  atom : ℕ → Node
  unary : Unary → ℕ → Node
  binary : Binary → ℕ → ℕ → Node
  windowed : Window → (a b child : ℕ) → Node

-- "Kinds: 1 atom, 2 not, 3 and, 4 or, 5 implies (>), 6 eventually (F), 7 always (G), 8 until (U)"
abbrev pub unary_kind : Unary → ℕ
unary_kind not = 2
unary_kind eventually = 6
unary_kind always = 7

abbrev pub binary_kind : Binary → ℕ
binary_kind and = 3
binary_kind or = 4
binary_kind implies = 5
binary_kind until = 8

-- "New kinds are 9 for F and 10 for G"
abbrev pub window_kind : Window → ℕ
window_kind within = 9
window_kind throughout = 10

abbrev pub kind_of : Node → ℕ
kind_of (atom a) = 1
kind_of (unary u c) = unary_kind u
kind_of (binary o l r) = binary_kind o
kind_of (windowed w a b c) = window_kind w

-- "For an atom, left is its number. For kinds 2, 6, 7, left is the child." For kinds 9 and 10, "left the child and right 0".
abbrev pub left_of : Node → ℕ
left_of (atom a) = a
left_of (unary u c) = c
left_of (binary o l r) = l
left_of (windowed w a b c) = c

-- "Right is 0 for kinds 1, 2, 6, 7."
abbrev pub right_of : Node → ℕ
right_of (atom a) = 0
right_of (unary u c) = 0
right_of (binary o l r) = r
right_of (windowed w a b c) = 0

-- "Every node record gains two bytes after right, a and then b, 0 in the other kinds."
abbrev pub from_of : Node → ℕ
from_of (atom a) = 0
from_of (unary u c) = 0
from_of (binary o l r) = 0
from_of (windowed w a b c) = a

abbrev pub to_of : Node → ℕ
to_of (atom a) = 0
to_of (unary u c) = 0
to_of (binary o l r) = 0
to_of (windowed w a b c) = b

-- "Nodes count from 0. The reader writes the left part, the right part, then the node": the nodes of a rule whose first node has the number k
abbrev pub nodes_from : ℕ → Rule → List Node
nodes_from k (Rule.atom a) = atom a ∷ []
nodes_from k (Rule.unary u p) = nodes_from k p ++ (unary u (k + size p - 1) ∷ [])
nodes_from k (Rule.binary o p q) =
    nodes_from k p ++ (nodes_from (k + size p) q ++ (binary o (k + size p - 1) (k + size p + size q - 1) ∷ []))
nodes_from k (Rule.windowed w a b p) = nodes_from k p ++ (windowed w a b (k + size p - 1) ∷ [])

abbrev pub nodes_of : Rule → List Node
nodes_of p = nodes_from 0 p

abbrev pub node_at : List Node → ℕ → Node
node_at ns n = get_or ns n (atom 0)

-- The rule that a node stands for, from those of its children.
abbrev pub grow : (ℕ → Rule) → Node → Rule
grow f (atom a) = Rule.atom a
grow f (unary u c) = Rule.unary u (f c)
grow f (binary o l r) = Rule.binary o (f l) (f r)
grow f (windowed w a b c) = Rule.windowed w a b (f c)

-- k levels deep; n + 1 levels are enough for node n, since children stand below their node
abbrev pub rule_to : List Node → ℕ → ℕ → Rule
rule_to ns zero n = Rule.atom 0
rule_to ns (suc k) n = grow (rule_to ns k) (node_at ns n)

abbrev pub rule_at : List Node → ℕ → Rule
rule_at ns n = rule_to ns (suc n) n

-- Request N6: "Write the height into every node record": node n has that of its rule.
abbrev pub height_at : List Node → ℕ → ℕ
height_at ns n = height (rule_at ns n)

-- "Each record begins with its two-byte mark, here hexadecimal 4E 44. Then kind, left, right", a and b (request N4), and the height "as one last byte"
-- (request N6): 8 bytes in all.
abbrev pub node_bytes : (height : ℕ) → Node → List ℕ
node_bytes h n = 0x4E ∷ 0x44 ∷ kind_of n ∷ left_of n ∷ right_of n ∷ from_of n ∷ to_of n ∷ h ∷ []

-- the records of a part of the table ns, its first node being node n
abbrev pub table_from : List Node → (n : ℕ) → List Node → List ℕ
table_from ns n [] = []
table_from ns n (nd ∷ l) = node_bytes (height_at ns n) nd ++ table_from ns (n + 1) l

abbrev pub table_bytes : List Node → List ℕ
table_bytes ns = table_from ns 0 ns

-- "each child number is below its own node's number, atoms are below M"; "not good when a is above b, b is above 63"
abbrev pub NodeGood : ℕ → ℕ → Node → Type 0
NodeGood M n (atom a) = a < M
NodeGood M n (unary u c) = c < n
NodeGood M n (binary o l r) = (l < n) × (r < n)
NodeGood M n (windowed w a b c) = (c < n) × WindowAllowed a b

-- "A table is good when it is 1 to 128 whole records, marks and kinds are as above, each child number is below its own node's number,
-- atoms are below M and unused rights are 0", "not good when .. another kind has a window" (request N4), and not "when a height is wrong" (request N6):
-- the bytes are the records of the nodes ns, and those are good.
pub record Good (M : ℕ) (bytes : List ℕ) (ns : List Node) : Type 0 where
  pub records : bytes ≡ table_bytes ns
  pub some : 1 ≤ length ns
  pub few : length ns ≤ node_limit
  pub nodes : (n : ℕ) → n < length ns → NodeGood M n (node_at ns n)

-- "the last node is the root"
abbrev pub root : List Node → ℕ
root ns = length ns - 1
