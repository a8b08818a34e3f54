-- The row sum: of a few coefficients and figures, and of a row's terms.
use Rattle.std.specs.Prelude.{◌≡◌, refl, Bool, cond, List, [], ◌∷◌, ℕ, ◌+◌, ◌≤◌, ℤ, pos, nat_abs, ◌+ℤ◌, ◌*ℤ◌}
use Rattle.std.proofs.Common.{ap, ap₂, ◌∙◌, arith}
use Rattle.std.proofs.Math.IntN.{+ℤ_idr}
use Rattle.ints.specs.Magnitudes.{sum_magnitude}
use Rattle.rules.specs.Rows.{Term, value_at, sum_of}
use Rattle.rules.specs.RowSum as Definitions
use Rattle.rules.specs.RowSum.{row_sum}
use Rattle.rules.proofs.RowSumLaws.{sums_equal, whole_is}
use Rattle.row.specs.declared.Term as Row
use Rattle.row.specs.declared.Terms.{Terms}
use Rattle.row.specs.declared.Terms.TheVariants.{Single, Pair, Triple}
use Rattle.row.specs.Meaning.{term_of, terms_of}
use Rattle.millionths.specs.Bounds as Bounds
use Rattle.judge_sums.specs.declared.RowSum.{RowSum}
use Rattle.judge_sums.specs.Meaning.{row_sum_of}

-- a sum and one more term, if it is taken
abbrev pub added : (s : ℤ) (taken : Bool) (x : ℤ) → ℤ
added s taken x = cond taken (s +ℤ x) s

pub added-same : (taken : Bool) {s s' x x' : ℤ} → s ≡ s' → x ≡ x' → added s taken x ≡ added s' taken x'
added-same taken p q = ap₂ (λ (s x : ℤ). added s taken x) p q

-- a pass through three terms
abbrev pub passed : (s : ℤ) (p : Bool) (a : ℤ) (q : Bool) (b : ℤ) (r : Bool) (c : ℤ) → ℤ
passed s p a q b r c = added (added (added s p a) q b) r c

pub passed-same : {s s' a a' b b' c c' : ℤ} {p p' q q' r r' : Bool} → s ≡ s' → p ≡ p' → a ≡ a' → q ≡ q' → b ≡ b' → r ≡ r' → c ≡ c' →
    passed s p a q b r c ≡ passed s' p' a' q' b' r' c'
passed-same h i j k l m n = cc

-- a coefficient times a variable; the variables of a few figures count from 0
abbrev pub term : (coefficient : ℤ) (variable : ℕ) → Term
term c v = record { coefficient = c; variable = v }

-- the row sum of terms over figures, as the calls that make it ensure
pub record RowSumOf (xs : List ℤ) (ts : List Term) (r : RowSum) : Type 0 where
  pub is : row_sum_of r ≡ row_sum xs ts
  pub positive-small : nat_abs r.positive ≤ Bounds.row_sum
  pub whole-small : nat_abs r.whole ≤ Bounds.row_sum

-- the whole sum
pub whole_of : {xs : List ℤ} {ts : List Term} {r : RowSum} → RowSumOf xs ts r → r.whole ≡ sum_of xs ts
whole_of {xs} {ts} h = ap (λ (s : Definitions.RowSum). s.whole) h.is ∙ whole_is xs ts

pub sums_as : {xs ys : List ℤ} {ts us : List Term} {r : RowSum} → row_sum xs ts ≡ row_sum ys us → RowSumOf xs ts r → RowSumOf ys us r
sums_as e h = record { is = h.is ∙ e; positive-small = h.positive-small; whole-small = h.whole-small }

-- a last term that is zero adds nothing
zero_more : (s : Definitions.RowSum) → ◌≡◌ {A = Definitions.RowSum} (record { positive = s.positive; whole = s.whole +ℤ pos 0 }) s
zero_more s = sums_equal refl (+ℤ_idr s.whole)

pub third-zero : (j x k y : ℤ) → row_sum (x ∷ y ∷ pos 0 ∷ []) (term j 0 ∷ term k 1 ∷ term (pos 0) 2 ∷ []) ≡ row_sum (x ∷ y ∷ []) (term j 0 ∷ term k 1 ∷ [])
third-zero j x k y = zero_more (row_sum (x ∷ y ∷ []) (term j 0 ∷ term k 1 ∷ []))

-- ---- the row sum of a row's terms, from that of their coefficients and figures

module _ (xs : List ℤ) {terms : Terms} {r : RowSum} where
  pub single_sums : {a : Row.Term} {j x : ℤ} → terms ≡ Single a → j ≡ a.coefficient → x ≡ value_at xs a.variable →
      RowSumOf (x ∷ pos 0 ∷ []) (term j 0 ∷ term (pos 0) 1 ∷ []) r → RowSumOf xs (terms_of terms) r
  single_sums {a} t p q = sums_as (rw (p, q, t) (zero_more (row_sum xs (term_of a ∷ []))))

  pub pair_sums : {a b : Row.Term} {j x k y : ℤ} → terms ≡ Pair a b → j ≡ a.coefficient → x ≡ value_at xs a.variable →
      k ≡ b.coefficient → y ≡ value_at xs b.variable → RowSumOf (x ∷ y ∷ []) (term j 0 ∷ term k 1 ∷ []) r → RowSumOf xs (terms_of terms) r
  pair_sums t p q u v = sums_as (rw (p, q, u, v, t) refl)

  pub triple_sums : {a b c : Row.Term} {j x k y l z : ℤ} → terms ≡ Triple a b c → j ≡ a.coefficient → x ≡ value_at xs a.variable →
      k ≡ b.coefficient → y ≡ value_at xs b.variable → l ≡ c.coefficient → z ≡ value_at xs c.variable →
      RowSumOf (x ∷ y ∷ z ∷ []) (term j 0 ∷ term k 1 ∷ term l 2 ∷ []) r → RowSumOf xs (terms_of terms) r
  triple_sums t p q u v m n = sums_as (rw (p, q, u, v, m, n, t) refl)

-- ---- the sums of two and three terms over the figures of the variables

abbrev pub pair_of : (j x k y : ℤ) → ℤ
pair_of j x k y = sum_of (x ∷ y ∷ []) (term j 0 ∷ term k 1 ∷ [])

abbrev pub triple_of : (j x k y l z : ℤ) → ℤ
triple_of j x k y l z = sum_of (x ∷ y ∷ z ∷ []) (term j 0 ∷ term k 1 ∷ term l 2 ∷ [])

pub pair_same : {j j' x x' k k' y y' : ℤ} → j ≡ j' → x ≡ x' → k ≡ k' → y ≡ y' → pair_of j x k y ≡ pair_of j' x' k' y'
pair_same a b c d = cc

pub triple-same : {j j' x x' k k' y y' l l' z z' : ℤ} → j ≡ j' → x ≡ x' → k ≡ k' → y ≡ y' → l ≡ l' → z ≡ z' →
    triple_of j x k y l z ≡ triple_of j' x' k' y' l' z'
triple-same a b c d e f = cc

pub triple-size : (j x k y l z : ℤ) {b : ℕ} → nat_abs (j *ℤ x) ≤ b → nat_abs (k *ℤ y) ≤ b → nat_abs (l *ℤ z) ≤ b → nat_abs (triple_of j x k y l z) ≤ b + (b + b)
triple-size j x k y l z p q r =
    let last = ap nat_abs (+ℤ_idr (l *ℤ z)) in
    sum_magnitude (j *ℤ x) (k *ℤ y +ℤ (l *ℤ z +ℤ pos 0)) p (sum_magnitude (k *ℤ y) (l *ℤ z +ℤ pos 0) q (omega arith))
