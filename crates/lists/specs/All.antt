-- `all f n`: the test f passes at 0, 1, .., n − 1.
use Rattle.std.specs.Prelude.{◌≡◌, refl, Bool, true, false, ◌&&◌, ◌↔◌, ℕ, zero, suc, ◌+◌, ◌<◌, T as Is}
use Rattle.std.proofs.Common.{⊎_elim, eq-or-lt_of_le, add-one, arith}
use Rattle.lists.specs.Tests.{and_left, and_right, and_both}

unfoldable pub all : (ℕ → Bool) → ℕ → Bool
all f zero = true
all f (suc n) = all f n && f n

pub all_none : (f : ℕ → Bool) → all f 0 ≡ true
unfolding all
all_none f = refl

pub all_more : (f : ℕ → Bool) (n : ℕ) → all f n ≡ true → f n ≡ true → all f (n + 1) ≡ true
unfolding all
all_more f n p q = rw (add-one, p, q)

-- the test passes at each
all-at : (f : ℕ → Bool) (n : ℕ) → Is (all f n) → (i : ℕ) → i < n → Is (f i)
unfolding all
all-at f zero t i h = absurd (omega arith)
all-at f (suc n) t i h =
    ⊎_elim (λ e. let z : i ≡ n = omega arith in rw z (and_right (all f n) (f n) t)) (λ l. all-at f n (and_left (all f n) (f n) t) i (omega arith))
    (eq-or-lt_of_le h)

at_all : (f : ℕ → Bool) (n : ℕ) → ((i : ℕ) → i < n → Is (f i)) → Is (all f n)
unfolding all
at_all f zero g = tt
at_all f (suc n) g = and_both (all f n) (f n) (at_all f n (λ i h. g i (omega arith))) (g n (omega arith))

pub all_iff : (f : ℕ → Bool) (n : ℕ) → Is (all f n) ↔ ((i : ℕ) → i < n → Is (f i))
all_iff f n = (all-at f n, at_all f n)

-- one failure refutes it
pub all-fails : (f : ℕ → Bool) (i n : ℕ) → i < n → f i ≡ false → all f n ≡ false
all-fails f i n h e = go (all f n) refl
  where
    go : (b : Bool) → all f n ≡ b → all f n ≡ false
    go false p = p
    go true p = absurd (rw e at ((all_iff f n).0 (rw p tt) i h))
