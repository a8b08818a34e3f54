-- "Truth", over a run that loops (a lasso): after its last slot comes slot L again (request N8). With L equal to T the last slot is repeated for good.
use Rattle.std.specs.Prelude.{◌≡◌, ◌⊎◌, List, Bool, cond, ℕ, zero, suc, ◌+◌, ◌-◌, ◌/◌, ◌%◌, ◌^◌, ◌≤◌, ◌<◌, ltb, length, get_or}
use Rattle.rules.specs.Quantities.{bit_at}
use Rattle.rules.specs.Rule.{Unary, Binary, Window, Rule}
use Rattle.rules.specs.Rule.Unary.{not, eventually, always}
use Rattle.rules.specs.Rule.Binary.{and, or, implies, until}
use Rattle.rules.specs.Rule.Window.{within, throughout}
use Rattle.rules.specs.Rule.Rule.{atom, unary, binary, windowed}
use Rattle.rules.specs.Table.{Node, rule_at}

-- Request N8: "after T comes L again"
abbrev pub slot_after : (T L slot : ℕ) → ℕ
slot_after T L s = cond (ltb s T) (suc s) L

-- the slot of time k; the first T times are the slots
abbrev pub slot_of : (T L k : ℕ) → ℕ
slot_of T L zero = 0
slot_of T L (suc k) = slot_after T L (slot_of T L k)

-- An endless run: whether atom a is true at time k.
abbrev pub Endless : Type 1
Endless = ℕ → ℕ → Type 0

abbrev pub endless : (T L : ℕ) → List ℕ → Endless
endless T L run k a = bit_at run (slot_of T L k) a ≡ 1

-- "F p holds at t when p holds at some k ≥ t. G p: at every k ≥ t."
abbrev pub HoldsUnary : Unary → (ℕ → Type 0) → ℕ → Type 0
HoldsUnary not P t = P t → ⊥
HoldsUnary eventually P t = (k : ℕ) × (t ≤ k) × P k
HoldsUnary always P t = (k : ℕ) → t ≤ k → P k

-- "p U q: q holds at some k ≥ t and p at each j with t ≤ j < k. The rest as usual."
abbrev pub HoldsBinary : Binary → (ℕ → Type 0) → (ℕ → Type 0) → ℕ → Type 0
HoldsBinary and P Q t = P t × Q t
HoldsBinary or P Q t = P t ⊎ Q t
HoldsBinary implies P Q t = P t → Q t
HoldsBinary until P Q t = (k : ℕ) × (t ≤ k) × Q k × ((j : ℕ) → t ≤ j → j < k → P j)

-- Request N4: "They look at slots t + a to t + b, and a slot after T counts as T"; request N8: "Windows wrap the same way".
abbrev pub HoldsWindow : Window → (a b : ℕ) → (ℕ → Type 0) → ℕ → Type 0
HoldsWindow within a b P t = (k : ℕ) × (t + a ≤ k) × (k ≤ t + b) × P k
HoldsWindow throughout a b P t = (k : ℕ) → t + a ≤ k → k ≤ t + b → P k

abbrev pub Holds : Endless → Rule → ℕ → Type 0
Holds w (atom a) t = w t a
Holds w (unary u p) t = HoldsUnary u (Holds w p) t
Holds w (binary o p q) t = HoldsBinary o (Holds w p) (Holds w q) t
Holds w (windowed i a b p) t = HoldsWindow i a b (Holds w p) t

-- Request N8: "The truth of a V slack at t .. is that of its F, G or U with k kept to the slots t to T, its parts having their truth on the looped run."
-- Other kinds have no V.
abbrev pub KeptUnary : Unary → (T : ℕ) → (ℕ → Type 0) → ℕ → Type 0
KeptUnary not T P t = ⊥
KeptUnary eventually T P t = (k : ℕ) × (t ≤ k) × (k ≤ T) × P k
KeptUnary always T P t = (k : ℕ) → t ≤ k → k ≤ T → P k

abbrev pub KeptBinary : Binary → (T : ℕ) → (ℕ → Type 0) → (ℕ → Type 0) → ℕ → Type 0
KeptBinary and T P Q t = ⊥
KeptBinary or T P Q t = ⊥
KeptBinary implies T P Q t = ⊥
KeptBinary until T P Q t = (k : ℕ) × (t ≤ k) × (k ≤ T) × Q k × ((j : ℕ) → t ≤ j → j < k → P j)

abbrev pub HoldsKept : (T : ℕ) → Endless → Rule → ℕ → Type 0
HoldsKept T w (atom a) t = ⊥
HoldsKept T w (unary u p) t = KeptUnary u T (Holds w p) t
HoldsKept T w (binary o p q) t = KeptBinary o T (Holds w p) (Holds w q) t
HoldsKept T w (windowed i a b p) t = ⊥

-- b is the truth of P
abbrev pub TruthOf : Type 0 → (b : Bool) → Type 0
TruthOf P b = cond b P (P → ⊥)

-- 1 where P holds and 0 where not
pub data TruthBit (P : Type 0) : ℕ → Type 0 where
  true : P → TruthBit P 1
  false : (P → ⊥) → TruthBit P 0

-- Request N5: "Hold one 64-bit word per node, with bit t − 1 for slot t and zeros above."
abbrev pub slot_bit : (word t : ℕ) → ℕ
slot_bit word t = word / 2 ^ (t - 1) % 2

-- "The evaluator writes these words in node order"
pub record TruthWords (T L : ℕ) (run : List ℕ) (ns : List Node) (words : List ℕ) : Type 0 where
  pub count : length words ≡ length ns
  pub at : (n t : ℕ) → n < length ns → 1 ≤ t → t ≤ T → TruthBit (Holds (endless T L run) (rule_at ns n) t) (slot_bit (get_or words n 0) t)
  pub above : (n : ℕ) → n < length ns → get_or words n 0 < 2 ^ T

-- "A new call takes one word and gives the first slot with a set bit, or says that there is none."
abbrev pub SlotSet : (word t : ℕ) → Type 0
SlotSet word t = (1 ≤ t) × (slot_bit word t ≡ 1)
