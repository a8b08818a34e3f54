-- The rows in which a variable stands: those of its own node and of its parents; a V's, those of its node.
use Rattle.std.specs.Prelude.{Bool, cond, ◌||◌, ◌&&◌, ℕ, ◌+◌, ◌*◌, eqb, length, take}
use mathlib.Core.List.{List, [], ◌∷◌, ◌++◌, flat_map}
use Rattle.lists.specs.Flat.{flat}
use Rattle.rules.specs.Table.{Node, node_at}
use Rattle.rules.specs.Table.Node.{atom, unary, binary, windowed}
use Rattle.rules.specs.Rows.{loops, looping, slack_rows, goal_row}
use Rattle.mps.specs.Page.{entry_line}
use Rattle.mps_row.specs.Laws.{node_text}

-- The variables come in parts of T: the M atoms', then the nodes', then their V's. Whether part x is node n's own, or one of its parts.
abbrev pub has_part : (M x n : ℕ) → Node → Bool
has_part M x n (atom a) = eqb x (M + n) || eqb x a
has_part M x n (unary u c) = eqb x (M + n) || eqb x (M + c)
has_part M x n (binary o l r) = eqb x (M + n) || (eqb x (M + l) || eqb x (M + r))
has_part M x n (windowed w a b c) = eqb x (M + n) || eqb x (M + c)

-- the part of node n's V
abbrev pub kept_part : (M : ℕ) → List Node → (n : ℕ) → ℕ
kept_part M ns n = M + (length ns + looping (take n ns))

-- whether part x stands in the rows of node n
abbrev pub uses : (M : ℕ) → List Node → (x n : ℕ) → Bool
uses M ns x n = has_part M x n (node_at ns n) || (loops (node_at ns n) && eqb x (kept_part M ns n))

-- node n, where part x stands in its rows
abbrev pub user_at : (M : ℕ) → List Node → (x n : ℕ) → List ℕ
user_at M ns x n = cond (uses M ns x n) (n ∷ []) []

unfoldable pub users : (M : ℕ) → List Node → (x : ℕ) → List ℕ
users M ns x = flat (user_at M ns x) (length ns)

module _ (T M L : ℕ) (ns : List Node) where
  -- the lines of variable v in the rows of node n
  abbrev pub user_text : (v n : ℕ) → List ℕ
  user_text v n = node_text T M L ns (entry_line v) n

  -- the lines of the variable of part x at slot s + 1
  unfoldable pub variable_text : (x s : ℕ) → List ℕ
  variable_text x s = flat_map (user_text (x * T + s)) (users M ns x) ++ entry_line (x * T + s) (length (slack_rows T M L ns)) (goal_row T M ns)
