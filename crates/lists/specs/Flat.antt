-- `flat f n` is f 0, f 1, .., f (n - 1), one after the other; and laws of `flat_map f l`, which is f x for each x of l, one after the other.
use Rattle.std.specs.Prelude.{◌≡◌}
use Rattle.std.proofs.Math.Path.{refl, sym, ap, ap₂}
use Rattle.std.proofs.Common.{◌∙◌, le_refl, suc-mul}
use mathlib.Core.List.{List, [], ◌∷◌, ◌++◌, append_assoc, append-nil, flat_map}
use Prim.Native.Nat.{ℕ, zero, suc, ◌+◌, ◌*◌, ◌≤◌, ◌<◌}
use Rattle.std.proofs.Math.Numerals.{add-one}
use Rattle.std.proofs.Math.Decide.{le_ind}
use native.Mathlib.Omega.{arith}
use Rattle.std.proofs.Math.ListN.{length, length-append}
use Rattle.lists.specs.Tabulate.{tabulate}

module _ {A : Type 0} where
  unfoldable pub flat : (ℕ → List A) → ℕ → List A
  flat f zero = []
  flat f (suc n) = flat f n ++ f n

  pub flat-zero : (f : ℕ → List A) → flat f 0 ≡ []
  unfolding flat
  flat-zero f = refl

  pub flat-more : (f : ℕ → List A) (n : ℕ) → flat f (n + 1) ≡ flat f n ++ f n
  unfolding flat
  flat-more f n = rw add-one

  pub length-flat_le : (f : ℕ → List A) (n m : ℕ) → n ≤ m → length (flat f n) ≤ length (flat f m)
  unfolding flat
  length-flat_le f n m h =
      le_ind (λ k. length (flat f n) ≤ length (flat f k)) (le_refl _) (λ (k : ℕ) (hk : n ≤ k) ih. simp length-append (omega arith)) m h

  -- the part that comes next has room in the whole
  pub length-flat-room : (f : ℕ → List A) (n m : ℕ) → n < m → length (flat f n) + length (f n) ≤ length (flat f m)
  length-flat-room f n m h =
      let r : length (flat f (n + 1)) ≤ length (flat f m) = length-flat_le f (n + 1) m (omega arith) in
      omega (arith, simp (flat-more, length-append) at r)

  -- parts of one length
  pub length-flat-even : (f : ℕ → List A) (k n : ℕ) → ((i : ℕ) → i < n → length (f i) ≡ k) → length (flat f n) ≡ n * k
  unfolding flat
  length-flat-even f k zero h = omega arith
  length-flat-even f k (suc n) h =
      simp (length-append, length-flat-even f k n (λ i g. h i (omega arith)), h n (omega arith), suc-mul)

  pub flat-same : (f g : ℕ → List A) (n : ℕ) → ((i : ℕ) → i < n → f i ≡ g i) → flat f n ≡ flat g n
  unfolding flat
  flat-same f g zero e = refl
  flat-same f g (suc n) e = ap₂ ◌++◌ (flat-same f g n (λ i h. e i (omega arith))) (e n (omega arith))

  -- by the first part
  pub flat-first : (f : ℕ → List A) (n : ℕ) → flat f (suc n) ≡ f 0 ++ flat (λ i. f (suc i)) n
  unfolding flat
  flat-first f zero = sym (append-nil (f 0))
  flat-first f (suc n) = ap (λ (l : List A). l ++ f (suc n)) (flat-first f n) ∙ append_assoc (f 0) (flat (λ i. f (suc i)) n) (f (suc n))

  -- parts of one element
  pub flat_singles : (f : ℕ → A) (n : ℕ) → flat (λ i. f i ∷ []) n ≡ tabulate n f
  flat_singles f zero = flat-zero (λ i. f i ∷ [])
  flat_singles f (suc n) = flat-first (λ i. f i ∷ []) n ∙ ap (λ (l : List A). f 0 ∷ l) (flat_singles (λ i. f (suc i)) n)

module _ {A B : Type 0} (f : A → List B) where
  pub flat_map_append : (a b : List A) → flat_map f (a ++ b) ≡ flat_map f a ++ flat_map f b
  unfolding flat_map
  flat_map_append [] b = refl
  flat_map_append (x ∷ a) b = ap (λ (l : List B). f x ++ l) (flat_map_append a b) ∙ sym (append_assoc (f x) (flat_map f a) (flat_map f b))

  pub flat_map_flat : (g : ℕ → List A) (n : ℕ) → flat_map f (flat g n) ≡ flat (λ i. flat_map f (g i)) n
  unfolding flat_map flat
  flat_map_flat g zero = refl
  flat_map_flat g (suc n) = flat_map_append (flat g n) (g n) ∙ ap (λ (l : List B). l ++ flat_map f (g n)) (flat_map_flat g n)
