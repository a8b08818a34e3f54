-- A node's word, from the words of the nodes below; after slot T comes slot L again.
use Rattle.std.specs.Prelude.{◌≡◌, Bool, not as notb, ◌&&◌, ◌||◌, List, ℕ, ◌^◌, ◌≤◌, ◌<◌, length, get_or}
use Rattle.std.proofs.Common.{subst}
use Rattle.rules.specs.Rule.{Unary, Binary, Window}
use Rattle.rules.specs.Rule.Unary.{not, eventually, always}
use Rattle.rules.specs.Rule.Binary.{and, or, implies, until}
use Rattle.rules.specs.Rule.Window.{within, throughout}
use Rattle.rules.specs.Table.{Node}
use Rattle.rules.specs.Table.Node.{atom, unary, binary, windowed}
use Rattle.evaluator_words.specs.Bits.{on}
use Rattle.evaluator_words.specs.Words.{Word, eventually_at, always_at, until_at, within_at, throughout_at}

abbrev pub unary_at : (T L : ℕ) → Unary → (ℕ → Bool) → ℕ → Bool
unary_at T L not p j = notb (p j)
unary_at T L eventually p j = eventually_at T L p j
unary_at T L always p j = always_at T L p j

abbrev pub binary_at : (T L : ℕ) → Binary → (p q : ℕ → Bool) → ℕ → Bool
binary_at T L and p q j = p j && q j
binary_at T L or p q j = p j || q j
binary_at T L implies p q j = notb (p j) || q j
binary_at T L until p q j = until_at T L p q j

abbrev pub window_at : (T L : ℕ) → Window → (a b : ℕ) → (ℕ → Bool) → ℕ → Bool
window_at T L within a b p j = within_at T L a b p j
window_at T L throughout a b p j = throughout_at T L a b p j

-- at slot j, which counts from 0
abbrev pub node_at : (T L : ℕ) (run words : List ℕ) → Node → ℕ → Bool
node_at T L run words (atom a) j = on (get_or run j 0) a
node_at T L run words (unary u p) j = unary_at T L u (on (get_or words p 0)) j
node_at T L run words (binary o p q) j = binary_at T L o (on (get_or words p 0)) (on (get_or words q 0)) j
node_at T L run words (windowed w a b p) j = window_at T L w a b (on (get_or words p 0)) j

-- the words of a node's children are there, and lie below the horizon
abbrev pub Child : (T : ℕ) (words : List ℕ) → ℕ → Type 0
Child T words c = (c < length words) × (get_or words c 0 < 2 ^ T)

abbrev pub Children : (T : ℕ) (words : List ℕ) → Node → Type 0
Children T words (atom a) = a < 16
Children T words (unary u p) = Child T words p
Children T words (binary o p q) = Child T words p × Child T words q
Children T words (windowed w a b p) = Child T words p × (a ≤ b) × (b < 64)

-- from the words that were read to the words of the nodes below
pub by_one : {T r x y : ℕ} (f : (ℕ → Bool) → ℕ → Bool) → x ≡ y → Word T (f (on x)) r → Word T (f (on y)) r
by_one {T} {r} f e d = subst (λ (z : ℕ). Word T (f (on z)) r) e d

pub by_two : {T r x y v w : ℕ} (f : (p q : ℕ → Bool) → ℕ → Bool) → x ≡ y → v ≡ w → Word T (f (on x) (on v)) r → Word T (f (on y) (on w)) r
by_two {T} {r} {x} {y} {v} {w} f e g d = subst (λ (z : ℕ). Word T (f (on y) (on z)) r) g (subst (λ (z : ℕ). Word T (f (on z) (on v)) r) e d)
