-- The coefficient of a variable in a row, term by term; and a number that is 0.
use Rattle.std.specs.Prelude.{◌≡◌, true, false, cond, List, [], ℕ, zero, suc, eqb, ℤ, pos, negsuc, nat_abs}
use Rattle.std.proofs.Math.Path.{refl, sym}
use Rattle.std.proofs.Common.{ap₂, ◌∙◌, arith}
use Rattle.std.proofs.Math.IntN.{◌+ℤ◌, +ℤ_idr}
use Rattle.mps.specs.Merged.{coefficient, is_zero}
use Rattle.mps.specs.Page.{row_name, number_line, number_unless_zero}
use Rattle.row.specs.declared.Term.{Term}
use Rattle.row.specs.declared.Terms.{Terms}
use Rattle.row.specs.declared.Terms.TheVariants.{Single, Pair, Triple}
use Rattle.row.specs.Meaning.{terms_of}

-- z is what a term gives
abbrev Is : ℕ → ℤ → Term → Type 0
Is v z t = z ≡ cond (eqb t.variable v) t.coefficient (pos 0)

module _ (v : ℕ) (terms : Terms) where
  pub single_in : {a : Term} (x : ℤ) → terms ≡ Single a → Is v x a → x ≡ coefficient v (terms_of terms)
  unfolding coefficient
  single_in x t p = rw t (p ∙ sym (+ℤ_idr _))

  pub pair_in : {a b : Term} (x y : ℤ) → terms ≡ Pair a b → Is v x a → Is v y b → x +ℤ y ≡ coefficient v (terms_of terms)
  unfolding coefficient
  pair_in x y t p q = rw t (ap₂ ◌+ℤ◌ p (q ∙ sym (+ℤ_idr _)))

  pub triple_in : {a b c : Term} (x y z : ℤ) → terms ≡ Triple a b c → Is v x a → Is v y b → Is v z c → x +ℤ (y +ℤ z) ≡ coefficient v (terms_of terms)
  unfolding coefficient
  triple_in x y z t p q r = rw t (ap₂ ◌+ℤ◌ p (ap₂ ◌+ℤ◌ q (r ∙ sym (+ℤ_idr _))))

-- ---- a number by its size

zero-size : (c : ℤ) → nat_abs c ≡ 0 → is_zero c ≡ true
zero-size (pos zero) e = refl
zero-size (pos (suc n)) e = absurd (omega arith)
zero-size (negsuc n) e = absurd (omega arith)

some_size : (c : ℤ) → (nat_abs c ≡ 0 → ⊥) → is_zero c ≡ false
some_size (pos zero) h = absurd (h refl)
some_size (pos (suc n)) h = refl
some_size (negsuc n) h = refl

module _ (name : List ℕ) (i : ℕ) (c : ℤ) where
  pub no_line : nat_abs c ≡ 0 → [] ≡ number_unless_zero name i c
  unfolding number_unless_zero
  no_line e = rw (zero-size c e) refl

  pub some-line : (nat_abs c ≡ 0 → ⊥) → number_line name (row_name i) c ≡ number_unless_zero name i c
  unfolding number_unless_zero
  some-line h = rw (some_size c h) refl
