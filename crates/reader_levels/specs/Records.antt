-- What the scratch of the levels holds: a record for each node, with numbers cut to a byte.
use Rattle.std.specs.Prelude.{◌≡◌, refl, Bool, false, not, ◌||◌, List, [], ◌∷◌, ◌++◌, ℕ, ◌+◌, ◌-◌, ◌*◌, ◌%◌, min, max, ◌<◌, length}
use Rattle.std.proofs.Common.{arith, length-append}
use Rattle.rules.specs.Rule.{Rule, size, height}
use Rattle.rules.specs.Rule.Rule.{atom, unary, binary, windowed}
use Rattle.rules.specs.Table.{unary_kind, binary_kind, window_kind}
use Rattle.rules.specs.TableTest.{window_good}

-- the highest atom number of a rule, and 255 for all from there on
abbrev pub top : Rule → ℕ
top (atom a) = min 255 a
top (unary u p) = top p
top (binary o p q) = max (top p) (top q)
top (windowed w a b p) = top p

-- whether a window is not allowed, and whether a rule has such a window
abbrev pub window_flaw : (a b : ℕ) → Bool
window_flaw a b = not (window_good a b)

abbrev pub flaw : Rule → Bool
flaw (atom a) = false
flaw (unary u p) = flaw p
flaw (binary o p q) = flaw p || flaw q
flaw (windowed w a b p) = flaw p || window_flaw (min 255 a) (min 255 b)

-- a node's height is below its count of nodes
pub height-less : (p : Rule) → height p < size p
height-less (atom a) = omega arith
height-less (unary u p) = let h = height-less p in omega arith
height-less (binary o p q) = let h = height-less p in let k = height-less q in omega arith
height-less (windowed w a b p) = let h = height-less p in omega arith

abbrev pub entry : (kind left right from to high : ℕ) → List ℕ
entry k l r a b h = 0x4E ∷ 0x44 ∷ k ∷ l % 256 ∷ r % 256 ∷ a % 256 ∷ b % 256 ∷ h % 256 ∷ []

-- the records of a rule whose first node has the number n
unfoldable pub records : ℕ → Rule → List ℕ
records n (atom a) = entry 1 (min 255 a) 0 0 0 0
records n (unary u p) = records n p ++ entry (unary_kind u) (n + size p - 1) 0 0 0 (height p + 1)
records n (binary o p q) =
    records n p ++ (records (n + size p) q ++ entry (binary_kind o) (n + size p - 1) (n + size p + size q - 1) 0 0 (max (height p) (height q) + 1))
records n (windowed w a b p) = records n p ++ entry (window_kind w) (n + size p - 1) 0 (min 255 a) (min 255 b) (height p + 1)

pub length-records : (n : ℕ) (p : Rule) → length (records n p) ≡ 8 * size p
unfolding records
length-records n (atom a) = refl
length-records n (unary u p) =
    let h = length-records n p in
    simp length-append (omega arith)
length-records n (binary o p q) =
    let h = length-records n p in
    let k = length-records (n + size p) q in
    simp length-append (omega arith)
length-records n (windowed w a b p) =
    let h = length-records n p in
    simp length-append (omega arith)
