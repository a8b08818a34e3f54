-- Sums over lists of numbers.
use Rattle.rules.specs.Errors.Sums.{sum_over}
use Rattle.std.specs.Prelude.{◌≡◌, refl, List, [], ◌∷◌, map, ℕ}
use Rattle.std.proofs.Common.{arith}
use Rattle.lists.specs.Every.{Every}

pub sum-map : (f v : ℕ → ℕ) (ss : List ℕ) → sum_over f (map v ss) ≡ sum_over (λ s. f (v s)) ss
sum-map f v [] = refl
sum-map f v (s ∷ ss) = omega (arith, sum-map f v ss)

pub sum_same : (f g : ℕ → ℕ) (ss : List ℕ) → Every (λ s. f s ≡ g s) ss → sum_over f ss ≡ sum_over g ss
sum_same f g [] h = refl
sum_same f g (s ∷ ss) h = omega (arith, h.0, sum_same f g ss h.1)
