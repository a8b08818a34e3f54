-- Numbers that all have bits below m alone: so has their union.
use Rattle.std.specs.Prelude.{◌≡◌, Bool, ◌&&◌, List, ℕ, ◌+◌, ◌^◌, ◌≤◌, ◌<◌, T as Is, ltb, get_or}
use Rattle.std.proofs.Common.{sym, ap, ◌∙◌, lt_of_le_of_lt, add-one, arith, ltb-true, lt-ltb, pow_pos}
use Rattle.std.specs.Int.Bits.{bit_or, or_add_and}
use Rattle.std.proofs.lemmas.Nat.{and_le_l, and_le_r, or_lt}
use Rattle.lists.specs.All.{all, all_none}
use Rattle.lists.specs.Tests.{and_left, and_right, and_both, is_true, same_tests}

-- the union of the first n numbers is seen
abbrev pub Seen : (m : ℕ) (run : List ℕ) (n seen : ℕ) → Type 0
Seen m run n seen = all (λ i. ltb (get_or run i 0) (2 ^ m)) n ≡ ltb seen (2 ^ m)

pub seen_none : (m : ℕ) (run : List ℕ) → Seen m run 0 0
seen_none m run = all_none _ ∙ sym (lt-ltb 0 (2 ^ m) (pow_pos m))

-- a union is at least each part
or_above : (a b : ℕ) → (a ≤ bit_or a b) × (b ≤ bit_or a b)
or_above a b = (omega (arith, or_add_and a b, and_le_r a b), omega (arith, or_add_and a b, and_le_l a b))

both_below : (m a b : ℕ) → (ltb a (2 ^ m) && ltb b (2 ^ m)) ≡ ltb (bit_or a b) (2 ^ m)
both_below m a b = same_tests (ltb a (2 ^ m) && ltb b (2 ^ m)) (ltb (bit_or a b) (2 ^ m)) (
  λ t.
      let x = ltb-true a (2 ^ m) (is_true (ltb a (2 ^ m)) (and_left (ltb a (2 ^ m)) (ltb b (2 ^ m)) t)) in
      let y = ltb-true b (2 ^ m) (is_true (ltb b (2 ^ m)) (and_right (ltb a (2 ^ m)) (ltb b (2 ^ m)) t)) in
      holds (bit_or a b) (or_lt m a b x y),
  λ t.
      let z = ltb-true (bit_or a b) (2 ^ m) (is_true (ltb (bit_or a b) (2 ^ m)) t) in
      and_both (ltb a (2 ^ m)) (ltb b (2 ^ m)) (holds a (lt_of_le_of_lt (or_above a b).0 z)) (holds b (lt_of_le_of_lt (or_above a b).1 z)),
)
  where
    holds : (x : ℕ) → x < 2 ^ m → Is (ltb x (2 ^ m))
    holds x l = rw (lt-ltb x (2 ^ m) l) tt

pub seen_more : (m : ℕ) (run : List ℕ) (n seen x : ℕ) → Seen m run n seen → x ≡ get_or run n 0 → Seen m run (n + 1) (bit_or seen x)
unfolding all
seen_more m run n seen x e is =
    rw add-one (ap (λ (b : Bool). b && ltb (get_or run n 0) (2 ^ m)) e ∙ ap (λ (y : ℕ). ltb seen (2 ^ m) && ltb y (2 ^ m)) (sym is) ∙ both_below m seen x)
