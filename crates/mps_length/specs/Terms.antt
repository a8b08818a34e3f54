-- How many bytes the lines of a row's terms have: a line for each variable whose coefficients do not cancel.
use Rattle.std.specs.Prelude.{◌≡◌, Bool, List, [], ◌∷◌, ℕ, ◌+◌, ◌<◌, ℤ, negsuc, ◌+ℤ◌, length}
use Rattle.std.proofs.Math.Path.{refl, sym, ap, subst}
use Rattle.std.proofs.Common.{◌∙◌, eqb-true}
use Rattle.std.proofs.Math.Bool.{true, false, cond}
use native.Mathlib.Omega.{arith}
use Rattle.std.proofs.Math.Dec.{eqb}
use Rattle.std.proofs.Math.IntN.{pos, +ℤ_idl, +ℤ_idr, +ℤ_assoc}
use Rattle.lists.specs.Every.{Every}
use Rattle.rules.specs.Rows.{Term}
use Rattle.text.specs.Decimal.{signed_text}
use Rattle.text.proofs.DecimalLaws.{length-low}
use Rattle.mps.specs.Merged.{coefficient, is_zero}
use Rattle.mps.specs.Page.{row_name, number_line, number_unless_zero}
use Rattle.mps_line.specs.declared.Name.{Name}
use Rattle.mps_line.specs.declared.Name.TheVariants.{Row}
use Rattle.mps_line.specs.Names.{name_text, NameFits, number-length}
use Rattle.mps_row.specs.Absent.{coefficient-none}
use Rattle.lists.specs.Sums.{sum_to, sum_same, sum-add, sum-even, pick, pick-once}

-- ---- the line of a number, and none of 0

unfoldable pub size : ℤ → ℕ
size c = cond (is_zero c) 0 (25 + length (signed_text c))

pub line-size : (name : Name) (i : ℕ) (c : ℤ) → NameFits name → i < 1000000 → length (number_unless_zero (name_text name) i c) ≡ size c
unfolding number_unless_zero size
line-size name i c h g = go (is_zero c)
  where
    go : (b : Bool) → length (cond b [] (number_line (name_text name) (row_name i) c)) ≡ cond b 0 (25 + length (signed_text c))
    go true = refl
    go false = number-length name (Row i) c h g

pub size-zero : size (pos 0) ≡ 0
unfolding size
size-zero = refl

pub size-one : size (pos 1) ≡ 26
unfolding size
size-one = omega (arith, length-low 1 (omega arith))

pub size-two : size (pos 2) ≡ 26
unfolding size
size-two = omega (arith, length-low 2 (omega arith))

pub size-less-one : size (negsuc 0) ≡ 27
unfolding size
size-less-one = omega (arith, length-low 1 (omega arith))

pub size-less-two : size (negsuc 1) ≡ 27
unfolding size
size-less-two = omega (arith, length-low 2 (omega arith))

-- ---- the lines of terms, with n variables

unfoldable pub total : (n : ℕ) → List Term → ℕ
total n ts = sum_to (λ v. size (coefficient v ts)) n

abbrev pub term : ℤ → ℕ → Term
term c a = record { coefficient = c; variable = a }

-- no other term has variable a
abbrev pub Others : (a : ℕ) → List Term → Type 0
Others a ts = Every (λ (t : Term). t.variable ≡ a → ⊥) ts

module _ (n : ℕ) where
  pub total-none : total n [] ≡ 0
  unfolding total coefficient
  total-none = sum-even (λ v. size (pos 0)) 0 n (λ v h. size-zero) ∙ omega arith

  at-variable : (c : ℤ) (a v : ℕ) (ts : List Term) → coefficient a ts ≡ pos 0 →
      size (coefficient v (term c a ∷ ts)) ≡ pick a (size c) v + size (coefficient v ts)
  unfolding coefficient
  at-variable c a v ts z = go (eqb a v) refl
    where
      go : (b : Bool) → eqb a v ≡ b → size (cond b c (pos 0) +ℤ coefficient v ts) ≡ cond b (size c) 0 + size (coefficient v ts)
      go true e =
          let y : coefficient v ts ≡ pos 0 = subst (λ (x : ℕ). coefficient x ts ≡ pos 0) (eqb-true a v e) z in
          rw y (ap size (+ℤ_idr c) ∙ omega (arith, size-zero))
      go false e = ap size (+ℤ_idl (coefficient v ts)) ∙ omega arith

  pub total-more : (c : ℤ) (a : ℕ) (ts : List Term) → a < n → Others a ts → total n (term c a ∷ ts) ≡ size c + total n ts
  unfolding total
  total-more c a ts h o =
      sum_same (λ v. size (coefficient v (term c a ∷ ts))) (λ v. pick a (size c) v + size (coefficient v ts)) n
      (λ v g. at-variable c a v ts (coefficient-none a ts o))
      ∙ sum-add (pick a (size c)) (λ v. size (coefficient v ts)) n
      ∙ ap (λ (k : ℕ). k + sum_to (λ v. size (coefficient v ts)) n) (pick-once a (size c) n h)

  -- "Equal variables in one row are added together"
  pub total-double : (c d : ℤ) (a : ℕ) (ts : List Term) → total n (term c a ∷ term d a ∷ ts) ≡ total n (term (c +ℤ d) a ∷ ts)
  unfolding total coefficient
  total-double c d a ts = sum_same _ _ n (λ v h. ap size (twice (eqb a v) (coefficient v ts)))
    where
      twice : (b : Bool) (x : ℤ) → cond b c (pos 0) +ℤ (cond b d (pos 0) +ℤ x) ≡ cond b (c +ℤ d) (pos 0) +ℤ x
      twice true x = sym (+ℤ_assoc c d x)
      twice false x = +ℤ_idl (pos 0 +ℤ x)

  -- ---- rows of one, two and three terms

  module _ (a : ℕ) (ha : a < n) where
    pub single : (c : ℤ) → total n (term c a ∷ []) ≡ size c
    single c = omega (arith, total-more c a [] ha tt, total-none)

    module _ (b : ℕ) (hb : b < n) (ne : b ≡ a → ⊥) where
      pub pair : (c d : ℤ) → total n (term c a ∷ term d b ∷ []) ≡ size c + size d
      pair c d = omega (arith, total-more c a (term d b ∷ []) ha (ne, tt), total-more d b [] hb tt, total-none)

      -- with the first term's variable twice, and with the last's
      pub first-double : (c d e : ℤ) → total n (term c a ∷ term d a ∷ term e b ∷ []) ≡ size (c +ℤ d) + size e
      first-double c d e = total-double c d a (term e b ∷ []) ∙ pair (c +ℤ d) e

      pub last-double : (c d e : ℤ) → total n (term c a ∷ term d b ∷ term e b ∷ []) ≡ size c + size (d +ℤ e)
      last-double c d e =
          let x = total-more c a (term d b ∷ term e b ∷ []) ha (ne, (ne, tt)) in
          let y = total-double d e b [] in
          omega (arith, total-more (d +ℤ e) b [] hb tt, total-none)

      module _ (k : ℕ) (hk : k < n) (nf : k ≡ a → ⊥) (ng : k ≡ b → ⊥) where
        pub triple : (c d e : ℤ) → total n (term c a ∷ term d b ∷ term e k ∷ []) ≡ size c + size d + size e
        triple c d e =
            let x = total-more c a (term d b ∷ term e k ∷ []) ha (ne, (nf, tt)) in
            omega (arith, total-more d b (term e k ∷ []) hb (ng, tt), total-more e k [] hk tt, total-none)
