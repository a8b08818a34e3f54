-- Whether bytes are a good table, as a test of each record in turn, and the nodes that they are the records of.
use Rattle.std.specs.Prelude.{Bool, false, cond, ◌&&◌, List, ℕ, ◌+◌, ◌*◌, ◌/◌, max, ltb, eqb, get_or}
use Rattle.std.proofs.Math.Option.{Option, none, some}
use Rattle.std.proofs.Math.Dec.{leb}
use Rattle.std.proofs.Math.ListN.{length}
use Rattle.lists.specs.All.{all}
use Rattle.lists.specs.Tabulate.{tabulate}
use Rattle.rules.specs.Rule.Unary.{not, eventually, always}
use Rattle.rules.specs.Rule.Binary.{and, or, implies, until}
use Rattle.rules.specs.Rule.Window.{within, throughout}
use Rattle.rules.specs.Table.{Node}
use Rattle.rules.specs.Table.Node.{atom, unary, binary, windowed}

-- the node of a kind, left, right and window; a kind that is none of the ten has none
unfoldable pub node_in : (k l r a b : ℕ) → Option Node
node_in k l r a b =
    cond (eqb k 1) (some (atom l))
    (cond (eqb k 2) (some (unary not l))
    (cond (eqb k 3) (some (binary and l r))
    (cond (eqb k 4) (some (binary or l r))
    (cond (eqb k 5) (some (binary implies l r))
    (cond (eqb k 6) (some (unary eventually l))
    (cond (eqb k 7) (some (unary always l))
    (cond (eqb k 8) (some (binary until l r))
    (cond (eqb k 9) (some (windowed within a b l))
    (cond (eqb k 10) (some (windowed throughout a b l)) none)))))))))

-- "0 in the other kinds", of the window's two bytes
abbrev pub no_window : (a b : ℕ) → Bool
no_window a b = eqb a 0 && eqb b 0

abbrev pub window_good : (a b : ℕ) → Bool
window_good a b = leb a b && leb b 63

-- "each child number is below its own node's number, atoms are below M and unused rights are 0", and the window, of node n
abbrev pub node_good : (M n right from to : ℕ) → Node → Bool
node_good M n r i j (atom a) = (ltb a M && eqb r 0) && no_window i j
node_good M n r i j (unary u c) = (ltb c n && eqb r 0) && no_window i j
node_good M n r i j (binary o l x) = (ltb l n && ltb x n) && no_window i j
node_good M n r i j (windowed w a b c) = (ltb c n && eqb r 0) && window_good a b

abbrev pub some_good : (M n right from to : ℕ) → Option Node → Bool
some_good M n r i j none = false
some_good M n r i j (some nd) = node_good M n r i j nd

-- "0 for an atom, otherwise 1 more than the highest child", from the children's heights
abbrev pub height_now : (ℕ → ℕ) → Node → ℕ
height_now f (atom a) = 0
height_now f (unary u c) = f c + 1
height_now f (binary o l r) = max (f l) (f r) + 1
height_now f (windowed w a b c) = f c + 1

-- the record of eight bytes from place 8·n on
abbrev pub byte_at : List ℕ → (n i : ℕ) → ℕ
byte_at bytes n i = get_or bytes (8 * n + i) 0

abbrev pub or_atom : Option Node → Node
or_atom none = atom 0
or_atom (some nd) = nd

abbrev pub node_from : List ℕ → ℕ → Node
node_from bytes n = or_atom (node_in (byte_at bytes n 2) (byte_at bytes n 3) (byte_at bytes n 4) (byte_at bytes n 5) (byte_at bytes n 6))

abbrev pub marked : List ℕ → ℕ → Bool
marked bytes n = eqb (byte_at bytes n 0) 0x4E && eqb (byte_at bytes n 1) 0x44

-- mark, kind, left, right and window of record n are as they must be ..
abbrev pub node_test : ℕ → List ℕ → ℕ → Bool
node_test M bytes n =
    marked bytes n &&
    some_good M n (byte_at bytes n 4) (byte_at bytes n 5) (byte_at bytes n 6)
    (node_in (byte_at bytes n 2) (byte_at bytes n 3) (byte_at bytes n 4) (byte_at bytes n 5) (byte_at bytes n 6))

-- the height that the children's records give
abbrev pub height_in : List ℕ → Node → ℕ
height_in bytes nd = height_now (λ c. byte_at bytes c 7) nd

-- .. and its height is that of a node with such children
abbrev pub height_test : List ℕ → ℕ → Bool
height_test bytes n = eqb (byte_at bytes n 7) (height_in bytes (node_from bytes n))

unfoldable pub record_good : ℕ → List ℕ → ℕ → Bool
record_good M bytes n = node_test M bytes n && height_test bytes n

-- how many records there are, if they are whole
abbrev pub record_count : List ℕ → ℕ
record_count bytes = length bytes / 8

unfoldable pub good : ℕ → List ℕ → Bool
good M bytes =
    (eqb (8 * record_count bytes) (length bytes) && (leb 1 (record_count bytes) && leb (record_count bytes) 128)) && all (record_good M bytes) (record_count bytes)

-- all nodes
unfoldable pub nodes_in : List ℕ → List Node
nodes_in bytes = tabulate (record_count bytes) (node_from bytes)
