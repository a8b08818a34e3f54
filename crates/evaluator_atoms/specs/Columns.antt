-- The words of the atoms.
use Rattle.std.specs.Prelude.{◌≡◌, Bool, false, ◌&&◌, List, ℕ, ◌*◌, ◌/◌, ◌≤◌, ◌<◌, T as Is, length, get_or}
use Rattle.std.proofs.Common.{sym, ap, ap₂, subst, ◌∙◌, arith, lt-ltb, le-ltb, ltb-true}
use Rattle.std.proofs.Math.Decide.{dec_lt}
use Rattle.lists.specs.Tests.{is_true}
use Rattle.evaluator_words.specs.Bits.{on, on-above, on_below}
use Rattle.evaluator_words.specs.Words.{Word}
use Rattle.evaluator_atoms.specs.Turning.{Turned, slot_at, atom_at, need}
use Rattle.evaluator_atoms.specs.Packing.{taken, Width, Packed}

-- "bit a (value 2 to the power a) is the truth of atom a": bit a of the number at each slot, for the first m atoms
abbrev pub Columns : (T : ℕ) (run : List ℕ) (m : ℕ) → List ℕ → Type 0
Columns T run m cols = (a : ℕ) → a < m → Word T (λ j. on (get_or run j 0) a) (get_or cols a 0)

-- the words that the first m atoms need, in blocks of w
pub record Blocks (w : ℕ) (run : List ℕ) (t m : ℕ) (c : List ℕ) : Type 0 where
  pub long : length c ≡ 16
  pub at : (i : ℕ) → i < 16 → Is (need w m i) → Turned (taken run t) w i (get_or c i 0)

-- atoms that fit into one block need no other
pub one_block : (w : ℕ) (run : List ℕ) (t m : ℕ) (c : List ℕ) → Width w → m ≤ w → Packed w run t c → Blocks w run t m c
one_block w run t m c wide h p = record {
  long = p.long;
  at = λ i l n. p.at i (wide.first_block m i h (ltb-true (w * (i / w)) m (is_true (need w m i) n)));
}

-- the word of an atom is needed
need-own : (m i : ℕ) → i < m → Is (need 1 m i)
need-own m i l = subst Is (sym (lt-ltb (1 * (i / 1)) m (omega arith))) tt

pub columns_turned : (T : ℕ) (run : List ℕ) (m : ℕ) (cols : List ℕ) → m ≤ 16 → T ≤ 64 →
    Blocks 1 run T m cols → Columns T run m cols
columns_turned T run m cols few high blocks a l = record {
  at = λ j k. bit j (omega arith) ∙ ap (λ (b : Bool). b && on (get_or run j 0) a) (lt-ltb j T k);
  small = on_below T (get_or cols a 0) (λ j k. behind j k (dec_lt j 64));
}
  where
    bit : (j : ℕ) → j < 64 → on (get_or cols a 0) j ≡ taken run T j a
    bit j k =
        let slot : slot_at 1 a j ≡ j = omega arith in
        let atom : atom_at 1 a j ≡ a = omega arith in
        (blocks.at a (omega arith) (need-own m a l)).1 j k ∙ ap₂ (taken run T) slot atom

    behind : (j : ℕ) → T ≤ j → Dec (j < 64) → on (get_or cols a 0) j ≡ false
    behind j k (yes u) = bit j u ∙ ap (λ (b : Bool). b && on (get_or run j 0) a) (le-ltb j T k)
    behind j k (no u) = on-above 64 (get_or cols a 0) j (blocks.at a (omega arith) (need-own m a l)).0 (omega arith)
