-- Truth words of request N5, computed: a word from its bits, its bits from the word, and its first set bit.
use Rattle.std.specs.Prelude.{Bool, ℕ, zero, suc, ◌+◌, ◌*◌, eqb}
use Rattle.std.proofs.Math.Option.{Option}
use Rattle.lists.specs.First.{first}
use Rattle.rules.specs.Truth.{slot_bit}
use Rattle.rules.specs.Evaluation.{bit_of}

-- the bits of k slots from slot t on, the first of them lowest
unfoldable pub word_from : (ℕ → Bool) → (k t : ℕ) → ℕ
word_from f zero t = 0
word_from f (suc k) t = bit_of (f t) + 2 * word_from f k (t + 1)

-- the word of T slots
abbrev pub word_of : (ℕ → Bool) → (T : ℕ) → ℕ
word_of f T = word_from f T 1

-- ---- the first slot with a set bit

unfoldable pub first_slot : ℕ → Option ℕ
first_slot word = first (λ t. eqb (slot_bit word t) 1) 64 1
