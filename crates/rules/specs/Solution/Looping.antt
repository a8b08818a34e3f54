-- The nodes that have a V, counted in order: the j-th of them, and how many stand before node n.
use Rattle.std.specs.Prelude.{Bool, true, false, List, [], ◌∷◌, map, ℕ, zero, suc}
use Rattle.rules.specs.Table.{Node}
use Rattle.rules.specs.Rows.{loops}

-- the j-th of them
abbrev pub nth : List Bool → ℕ → ℕ
nth [] j = 0
nth (true ∷ l) zero = 0
nth (true ∷ l) (suc j) = suc (nth l j)
nth (false ∷ l) j = suc (nth l j)

-- ---- of nodes

abbrev pub marks : List Node → List Bool
marks ns = map loops ns

-- the number of the j-th node that has a V
abbrev pub looping_at : List Node → ℕ → ℕ
looping_at ns j = nth (marks ns) j
