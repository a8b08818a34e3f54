-- Stores one after the other, at the places at, at + 1, at + 2, .., as straight-line code makes them.
use Rattle.std.specs.Prelude.{◌≡◌, refl, List, [], ◌∷◌, ℕ, suc, ◌+◌, ◌≤◌, length, set}
use Rattle.std.proofs.Common.{ap, ◌∙◌, arith}
use Rattle.std.proofs.lemmas.List.Edits.{sets}
use Rattle.lists.specs.Splice.{splice, sets_splice}

-- the elements from place at + k on
abbrev stores : List ℕ → (at k : ℕ) → List ℕ → List ℕ
stores l at k [] = l
stores l at k (x ∷ xs) = stores (set l (at + k) x) at (k + 1) xs

stores_sets : (xs l : List ℕ) (at k : ℕ) → stores l at k xs ≡ sets l (at + k) xs
stores_sets [] l at k = refl
stores_sets (x ∷ xs) l at k =
    let e : at + (k + 1) ≡ suc (at + k) = omega arith in
    stores_sets xs (set l (at + k) x) at (k + 1) ∙ ap (λ (i : ℕ). sets (set l (at + k) x) i xs) e

pub stores-splice : (at x : ℕ) (xs l : List ℕ) → at + suc (length xs) ≤ length l → stores (set l at x) at 1 xs ≡ splice at (x ∷ xs) l
stores-splice at x xs l h =
    let e : at + 1 ≡ suc at = omega arith in
    stores_sets xs (set l at x) at 1 ∙ ap (λ (i : ℕ). sets (set l at x) i xs) e ∙ sets_splice at (x ∷ xs) l h
