-- The first of n numbers from i on at which a test passes.
use Rattle.std.specs.Prelude.{◌≡◌, refl, Bool, true, false, cond, ℕ, zero, suc, ◌+◌, ◌≤◌, ◌<◌, T as Is}
use Rattle.std.proofs.Common.{⊎_elim, eq-or-lt_of_le, arith}
use Rattle.std.proofs.Math.Option.{Option, none, some}

unfoldable pub first : (ℕ → Bool) → (n i : ℕ) → Option ℕ
first f zero i = none
first f (suc n) i = cond (f i) (some i) (first f n (suc i))

-- what a search for the lowest finds
pub record FirstAt (f : ℕ → Bool) (n i k : ℕ) : Type 0 where
  pub above : i ≤ k
  pub within : k < i + n
  pub passes : Is (f k)
  pub earlier : (j : ℕ) → i ≤ j → j < k → Is (f j) → ⊥

abbrev pub Found : (ℕ → Bool) → (n i : ℕ) → Option ℕ → Type 0
Found f n i none = (j : ℕ) → i ≤ j → j < i + n → Is (f j) → ⊥
Found f n i (some k) = FirstAt f n i k

step-found : (f : ℕ → Bool) (n i : ℕ) (b : Bool) (o : Option ℕ) → f i ≡ b → Found f n (suc i) o → Found f (suc n) i (cond b (some i) o)
step-found f n i true o e h = record { above = omega arith; within = omega arith; passes = rw e tt; earlier = λ j u v. absurd (omega arith) }
step-found f n i false none e h = λ j u v t. ⊎_elim (λ z. rw (← z, e) at t) (λ z. h j z (omega arith) t) (eq-or-lt_of_le u)
step-found f n i false (some k) e h =
    record {
      above = omega (arith, h.above);
      within = omega (arith, h.within);
      passes = h.passes;
      earlier = λ j u v t. ⊎_elim (λ z. rw (← z, e) at t) (λ z. h.earlier j z v t) (eq-or-lt_of_le u);
    }

pub first_found : (f : ℕ → Bool) (n i : ℕ) → Found f n i (first f n i)
unfolding first
first_found f zero i = λ j u v. absurd (omega arith)
first_found f (suc n) i = step-found f n i (f i) (first f n (suc i)) refl (first_found f n (suc i))
