-- A text that is mostly empty parts: the parts that are not.
use Rattle.std.specs.Prelude.{◌≡◌, Bool, length, get_or}
use Rattle.std.proofs.Math.Path.{refl, sym, ap, ap₂}
use Rattle.std.proofs.Common.{◌∙◌}
use Rattle.std.proofs.Math.Bool.{true, false, cond}
use mathlib.Core.List.{List, [], ◌∷◌, ◌++◌, append_assoc, append-nil, flat_map}
use Prim.Native.Nat.{ℕ, zero, suc, ◌+◌, ◌*◌, ◌<◌}
use Rattle.std.proofs.Math.Decide.{dec_lt}
use Rattle.std.proofs.Math.Nat.{suc-mul}
use native.Mathlib.Omega.{arith}
use Rattle.lists.specs.Flat.{flat, flat-zero, flat-first, flat_map_append}

-- ---- parts one after the other, most of them empty

module _ {A : Type 0} (f : ℕ → List A) where
  pub flat-none : (k : ℕ) → ((i : ℕ) → i < k → f i ≡ []) → flat f k ≡ []
  unfolding flat
  flat-none zero e = refl
  flat-none (suc k) e = ap₂ ◌++◌ (flat-none k (λ i h. e i (omega arith))) (e k (omega arith))

  -- the part before part s
  abbrev pub before : ℕ → List A
  before zero = []
  before (suc s) = f s

  flat-before : (s : ℕ) → ((i : ℕ) → i < s → (i + 1 ≡ s → ⊥) → f i ≡ []) → flat f s ≡ before s
  unfolding flat
  flat-before zero e = refl
  flat-before (suc s) e = ap (λ (l : List A). l ++ f s) (flat-none s (λ i h. e i (omega arith) (λ q. omega arith)))

  -- empty but for part s and the one before
  pub flat_around : (s k : ℕ) → s < k → ((i : ℕ) → i < k → (i ≡ s → ⊥) → (i + 1 ≡ s → ⊥) → f i ≡ []) → flat f k ≡ before s ++ f s
  unfolding flat
  flat_around s zero h e = absurd (omega arith)
  flat_around s (suc k) h e = go (dec_lt s k) (λ l. flat_around s k l (λ i g. e i (omega arith)))
    where
      go : Dec (s < k) → (s < k → flat f k ≡ before s ++ f s) → flat f (suc k) ≡ before s ++ f s
      go (yes l) shorter = ap₂ ◌++◌ (shorter l) (e k (omega arith) (λ q. omega arith) (λ q. omega arith)) ∙ append-nil (before s ++ f s)
      go (no l) shorter =
          let q : k ≡ s = omega arith in
          ap₂ ◌++◌ (ap (flat f) q ∙ flat-before s (λ i g. e i (omega arith) (λ p. omega arith))) (ap f q)

  -- empty but for part s
  pub flat-only : (s k : ℕ) → s < k → ((i : ℕ) → i < k → (i ≡ s → ⊥) → f i ≡ []) → flat f k ≡ f s
  unfolding flat
  flat-only s zero h e = absurd (omega arith)
  flat-only s (suc k) h e = go (dec_lt s k) (λ l. flat-only s k l (λ i g. e i (omega arith)))
    where
      go : Dec (s < k) → (s < k → flat f k ≡ f s) → flat f (suc k) ≡ f s
      go (yes l) shorter = ap₂ ◌++◌ (shorter l) (e k (omega arith) (λ q. omega arith)) ∙ append-nil (f s)
      go (no l) shorter =
          let q : k ≡ s = omega arith in
          ap₂ ◌++◌ (flat-none k (λ i g. e i (omega arith) (λ p. omega arith))) (ap f q)

-- ---- the parts of a list of numbers

pub gather_listed : (f : ℕ → List ℕ) (us : List ℕ) → flat_map f us ≡ flat (λ j. f (get_or us j 0)) (length us)
unfolding flat_map
gather_listed f [] = sym (flat-zero _)
gather_listed f (n ∷ us) = ap (λ (l : List ℕ). f n ++ l) (gather_listed f us) ∙ sym (flat-first (λ j. f (get_or (n ∷ us) j 0)) (length us))

-- parts that are empty where a test fails: those of the numbers that pass it
module _ (f : ℕ → List ℕ) (test : ℕ → Bool) where
  gather_one : (n : ℕ) (b : Bool) → (b ≡ false → f n ≡ []) → f n ≡ flat_map f (cond b (n ∷ []) [])
  unfolding flat_map
  gather_one n true e = sym (append-nil (f n))
  gather_one n false e = e refl

  pub gather_picked : (k : ℕ) → ((n : ℕ) → n < k → test n ≡ false → f n ≡ []) → flat f k ≡ flat_map f (flat (λ n. cond (test n) (n ∷ []) []) k)
  unfolding flat flat_map
  gather_picked zero e = refl
  gather_picked (suc k) e =
      let picked : ℕ → List ℕ = λ n. cond (test n) (n ∷ []) [] in
      ap₂ ◌++◌ (gather_picked k (λ n h. e n (omega arith))) (gather_one k (test k) (e k (omega arith)))
      ∙ sym (flat_map_append f (flat picked k) (picked k))

-- ---- parts of equal length

module _ {A : Type 0} (f : ℕ → List A) where
  pub flat-add : (a b : ℕ) → flat f (a + b) ≡ flat f a ++ flat (λ i. f (a + i)) b
  unfolding flat
  flat-add a zero = let e : a + 0 ≡ a = omega arith in ap (flat f) e ∙ sym (append-nil (flat f a))
  flat-add a (suc b) =
      let e : a + suc b ≡ suc (a + b) = omega arith in
      ap (flat f) e ∙ ap (λ (l : List A). l ++ f (a + b)) (flat-add a b) ∙ append_assoc (flat f a) (flat (λ i. f (a + i)) b) (f (a + b))

  -- k parts of T
  pub flat-parts : (T k : ℕ) → flat (λ x. flat (λ s. f (x * T + s)) T) k ≡ flat f (k * T)
  unfolding flat
  flat-parts T zero = let e : 0 ≡ 0 * T = omega arith in ap (flat f) e
  flat-parts T (suc k) =
      let e : k * T + T ≡ suc k * T = omega (arith, suc-mul k T) in
      ap (λ (l : List A). l ++ flat (λ s. f (k * T + s)) T) (flat-parts T k) ∙ sym (flat-add (k * T) T) ∙ ap (flat f) e
