-- Bytes written into a list from a place on.
use Rattle.std.specs.Prelude.{◌≡◌, refl, List, [], ◌∷◌, ◌++◌, ℕ, suc, ◌+◌, length, set}
use Rattle.std.proofs.Common.{ap, ◌∙◌, arith, length-append}
use Rattle.std.proofs.lemmas.List.Edits.{sets}

-- xs is written from `at` on, and `next` is the place past it
pub record Put (at : ℕ) (xs before after : List ℕ) (next : ℕ) : Type 0 where
  pub content : after ≡ sets before at xs
  pub ends : next ≡ at + length xs

pub sets_append : (l : List ℕ) (i : ℕ) (xs ys : List ℕ) → sets l i (xs ++ ys) ≡ sets (sets l i xs) (i + length xs) ys
sets_append l i [] ys = ap (λ (k : ℕ). sets l k ys) (omega arith)
sets_append l i (x ∷ xs) ys =
    sets_append (set l i x) (suc i) xs ys ∙ ap (λ (k : ℕ). sets (sets (set l i x) (suc i) xs) k ys) (omega arith)

-- nothing, one byte, and one text behind another
pub nothing : {l : List ℕ} (at : ℕ) → Put at [] l l at
nothing at = record { content = refl; ends = omega arith }

pub one : (l : List ℕ) (at b : ℕ) → Put at (b ∷ []) l (set l at b) (at + 1)
one l at b = record { content = refl; ends = omega arith }

pub also : {at k r : ℕ} {xs ys l m n : List ℕ} → Put at xs l m k → Put k ys m n r → Put at (xs ++ ys) l n r
also {at} {k} {r} {xs} {ys} {l} {m} {n} p q = record {
  content =
      q.content ∙ ap (λ (x : List ℕ). sets x k ys) p.content ∙ ap (λ (i : ℕ). sets (sets l at xs) i ys) p.ends
      ∙ rw sets_append refl;
  ends = omega (arith, p.ends, q.ends, length-append xs ys);
}
