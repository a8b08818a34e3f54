-- Rules: formulas of linear temporal logic over the atoms a0, a1, .. (document 01 says "rule" for formula), with windows of request N4.
use Rattle.std.specs.Prelude.{ℕ, ◌+◌, ◌<◌, max}
use Rattle.rules.specs.Quantities.{WindowAllowed}

-- "! Single, or F Single, or G Single"
pub data Unary : Type 0 where
  not eventually always : Unary

-- "Or > Rule", "And | Or", "Until & And", "Single U Until"
pub data Binary : Type 0 where
  and or implies until : Binary

-- Request N4: "Add F[a,b] and G[a,b] before a Single": a part that holds within a window of slots, or throughout it
pub data Window : Type 0 where
  within throughout : Window

pub data Rule : Type 0 where
  atom : ℕ → Rule
  unary : Unary → Rule → Rule
  binary : Binary → Rule → Rule → Rule
  windowed : Window → (a b : ℕ) → Rule → Rule

-- How many nodes a rule has: "brackets make no node"; "Equal parts are not shared."
abbrev pub size : Rule → ℕ
size (atom a) = 1
size (unary u p) = size p + 1
size (binary o p q) = size p + size q + 1
size (windowed w a b p) = size p + 1

-- Request N6: "0 for an atom, otherwise 1 more than the highest child"
abbrev pub height : Rule → ℕ
height (atom a) = 0
height (unary u p) = height p + 1
height (binary o p q) = max (height p) (height q) + 1
height (windowed w a b p) = height p + 1

-- Every atom number is below M.
abbrev pub AtomsBelow : ℕ → Rule → Type 0
AtomsBelow M (atom a) = a < M
AtomsBelow M (unary u p) = AtomsBelow M p
AtomsBelow M (binary o p q) = AtomsBelow M p × AtomsBelow M q
AtomsBelow M (windowed w a b p) = AtomsBelow M p

-- Every window is allowed.
abbrev pub WindowsAllowed : Rule → Type 0
WindowsAllowed (atom a) = Unit {0}
WindowsAllowed (unary u p) = WindowsAllowed p
WindowsAllowed (binary o p q) = WindowsAllowed p × WindowsAllowed q
WindowsAllowed (windowed w a b p) = WindowAllowed a b × WindowsAllowed p
