-- "Quantities".
use Rattle.std.specs.Prelude.{Bool, true, false, List, ℕ, ◌-◌, ◌/◌, ◌%◌, ◌^◌, ◌≤◌, get_or}

-- "Horizon T: slots 1 to 64. Slot numbers start at 1." (A slot is a position of a trace, and the horizon its length.)
abbrev pub SlotsAllowed : ℕ → Type 0
SlotsAllowed T = (1 ≤ T) × (T ≤ 64)

-- Request N8: "a loop slot L from 1 to T"
abbrev pub LoopAllowed : (T L : ℕ) → Type 0
LoopAllowed T L = (1 ≤ L) × (L ≤ T)

-- "Atom count M: 1 to 16. Atoms are a0, a1 and so on (decimal)." (An atom is an atomic proposition.)
abbrev pub AtomsAllowed : ℕ → Type 0
AtomsAllowed M = (1 ≤ M) × (M ≤ 16)

-- "Text: at most 1,024 bytes. Nodes N: 1 to 128."
abbrev pub text_limit : ℕ
text_limit = 1024

abbrev pub node_limit : ℕ
node_limit = 128

-- Request N4: a window F[a,b] or G[a,b] is refused "when a is above b or b above 63".
abbrev pub WindowAllowed : (a b : ℕ) → Type 0
WindowAllowed a b = (a ≤ b) × (b ≤ 63)

-- "Run: T numbers of 16 bits, one per slot; bit a (value 2 to the power a) is the truth of atom a." (A run is a finite trace.)
abbrev pub bit_at : List ℕ → (t a : ℕ) → ℕ
bit_at run t a = get_or run (t - 1) 0 / 2 ^ a % 2

-- "Figures are signed 32-bit millionths: a value type in millionths with its own one, zero and conversion from a truth."
-- (A figure is the value that a solver gives a variable.)
abbrev pub one : ℕ
one = 1000000

abbrev pub zero : ℕ
zero = 0

abbrev pub of_truth : Bool → ℕ
of_truth true = one
of_truth false = zero

-- "Tolerance: 0 to 1,000 millionths."
abbrev pub tolerance_limit : ℕ
tolerance_limit = 1000
