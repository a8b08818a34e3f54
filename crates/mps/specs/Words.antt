-- The words of an MPS page: its sections, and the names and types that stand in its fields.
use Rattle.std.specs.Prelude.{List, [], ◌∷◌, ℕ}

-- "NAME, ROWS, COLUMNS, RHS, BOUNDS, ENDATA"
abbrev pub NAME : List ℕ
NAME = 78 ∷ 65 ∷ 77 ∷ 69 ∷ []

abbrev pub ROWS : List ℕ
ROWS = 82 ∷ 79 ∷ 87 ∷ 83 ∷ []

abbrev pub COLUMNS : List ℕ
COLUMNS = 67 ∷ 79 ∷ 76 ∷ 85 ∷ 77 ∷ 78 ∷ 83 ∷ []

abbrev pub RHS : List ℕ
RHS = 82 ∷ 72 ∷ 83 ∷ []

abbrev pub BOUNDS : List ℕ
BOUNDS = 66 ∷ 79 ∷ 85 ∷ 78 ∷ 68 ∷ 83 ∷ []

abbrev pub ENDATA : List ℕ
ENDATA = 69 ∷ 78 ∷ 68 ∷ 65 ∷ 84 ∷ 65 ∷ []

-- "A free row COST comes first, of type N"
abbrev pub COST : List ℕ
COST = 67 ∷ 79 ∷ 83 ∷ 84 ∷ []

-- "of type G for ≥ and E for ="
abbrev pub N : List ℕ
N = 78 ∷ []

abbrev pub G : List ℕ
G = 71 ∷ []

abbrev pub E : List ℕ
E = 69 ∷ []

-- "Bounds, under BND .., are BV for atoms and UP 1 for slacks"
abbrev pub BND : List ℕ
BND = 66 ∷ 78 ∷ 68 ∷ []

abbrev pub BV : List ℕ
BV = 66 ∷ 86 ∷ []

abbrev pub UP : List ℕ
UP = 85 ∷ 80 ∷ []

-- R, before a row's number, and X, before a variable's
abbrev pub R : ℕ
R = 82

abbrev pub X : ℕ
X = 88
