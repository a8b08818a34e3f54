-- A property of every element of a list.
use Rattle.std.specs.Prelude.{◌↔◌, List, [], ◌∷◌, ◌++◌, ℕ, suc, ◌<◌, length, get_or}
use Rattle.std.proofs.Common.{arith}

abbrev pub Every {ℓ} : {A : Type ℓ} → (A → Type 0) → List A → Type 0
Every P [] = Unit {0}
Every P (a ∷ l) = P a × Every P l

module _ {ℓ} {A : Type ℓ} (P : A → Type 0) where
  pub every_append : (a b : List A) → Every P (a ++ b) ↔ (Every P a × Every P b)
  every_append [] b = (λ h. (tt, h), λ h. h.1)
  every_append (x ∷ a) b =
      (λ h. let r = (every_append a b).0 h.1 in ((h.0, r.0), r.1), λ h. (h.0.0, (every_append a b).1 (h.0.1, h.1)))

  -- by the index
  pub at_every : (d : A) (l : List A) → ((i : ℕ) → i < length l → P (get_or l i d)) → Every P l
  at_every d [] h = tt
  at_every d (a ∷ l) h = (h 0 (omega arith), at_every d l (λ i u. h (suc i) (omega arith)))
