-- `any f n`: the test f passes at one of 0, 1, .., n − 1.
use Rattle.std.specs.Prelude.{◌≡◌, Bool, false, ◌||◌, ◌↔◌, ℕ, zero, suc, ◌<◌, T as Is}
use Rattle.std.proofs.Common.{⊎_elim, eq-or-lt_of_le, arith}
use Rattle.lists.specs.Tests.{or_cases, or_left, or_right}

unfoldable pub any : (ℕ → Bool) → ℕ → Bool
any f zero = false
any f (suc n) = any f n || f n

abbrev Some : (ℕ → Bool) → ℕ → Type 0
Some f n = (i : ℕ) × (i < n) × Is (f i)

any_at : (f : ℕ → Bool) (n : ℕ) → Is (any f n) → Some f n
unfolding any
any_at f zero t = absurd t
any_at f (suc n) t =
    ⊎_elim {C = Some f (suc n)} (λ s. let r = any_at f n s in (r.0, omega (arith, r.1), r.2)) (λ s. (n, omega arith, s)) (or_cases (any f n) (f n) t)

at-any : (f : ℕ → Bool) (n i : ℕ) → i < n → Is (f i) → Is (any f n)
unfolding any
at-any f zero i h t = absurd (omega arith)
at-any f (suc n) i h t =
    ⊎_elim (λ e. let z : i ≡ n = omega arith in or_right (any f n) (f n) (rw (← z) t)) (λ l. or_left (any f n) (f n) (at-any f n i (omega arith) t))
    (eq-or-lt_of_le h)

pub any_iff : (f : ℕ → Bool) (n : ℕ) → Is (any f n) ↔ Some f n
any_iff f n = (any_at f n, λ s. at-any f n s.0 s.1 s.2)
