-- The judge's own checks, after those of T, M, L and the table: the count of the figures, and the tolerance.
use Rattle.std.specs.Prelude.{◌≡◌, true, false, cond, List, ℕ, ◌+◌, ◌*◌, eqb, ltb, length, ℤ, pos, negsuc, nat_abs}
use Rattle.std.proofs.Math.Path.{refl}
use Rattle.std.proofs.Common.{ap, ap₂, ◌∙◌, add-mul, arith}
use borrow.Author.Tests.{ltb-true, ltb-false, lt-leb, le-leb, eq-eqb, ne_eqb}
use Rattle.std.specs.Int.Signed.{lt_z}
use Rattle.rules.specs.Quantities.{tolerance_limit}
use Rattle.rules.specs.Demands.{Answer}
use Rattle.rules.specs.Demands.Answer.{refused, answered}
use Rattle.rules.specs.Judge.{Verdict}
use Rattle.rules.specs.Rows.{looping, variable_count}
use Rattle.rules.specs.TableTest.{nodes_in}
use Rattle.rules.specs.Verdicts.{verdict}
use Rattle.rules.specs.Outcome.{require, with_tolerance, judge_outcome}
use Rattle.table.specs.Checks.{check_of, after_check, checked}

-- after the checks of T, M, L and the table, and after the count of the figures too
unfoldable pub tolerated : (T M L : ℕ) (table : List ℕ) (figures : List ℤ) (tolerance : ℤ) → Answer Verdict
tolerated T M L table figures tolerance = with_tolerance tolerance (λ e. answered (verdict T M L e (nodes_in table) figures))

unfoldable pub counted : (T M L : ℕ) (table : List ℕ) (figures : List ℤ) (tolerance : ℤ) → Answer Verdict
counted T M L table figures tolerance = require (eqb (length figures) (variable_count T M L (nodes_in table))) 9 (tolerated T M L table figures tolerance)

pub judge-checked : (T M L : ℕ) (table : List ℕ) (figures : List ℤ) (tolerance : ℤ) →
    judge_outcome T M L table figures tolerance ≡ after_check (check_of T M L table) (counted T M L table figures tolerance)
unfolding judge_outcome counted tolerated
judge-checked T M L table figures tolerance = checked T M L table _

-- the variables, of a table of n nodes, k of which have a V
pub variables-are : (T M L : ℕ) (table : List ℕ) {n k p : ℕ} → n ≡ length (nodes_in table) → k ≡ cond (ltb L T) (looping (nodes_in table)) 0 →
    p ≡ (M + (n + k)) * T →
    p ≡ variable_count T M L (nodes_in table)
variables-are T M L table {n} {k} e f g = g ∙ add-mul M (n + k) T ∙ ap (λ (i : ℕ). M * T + i * T) (ap₂ ◌+◌ e f)

-- ---- a tolerance that is passed as a whole number

module _ (T M L : ℕ) (table : List ℕ) (figures : List ℤ) where
  abbrev answer : ℤ → Answer Verdict
  answer z = tolerated T M L table figures z

  pub tolerance-below : (z : ℤ) → lt_z z (pos 0) ≡ true → refused 10 ≡ answer z
  unfolding tolerated
  tolerance-below (pos n) e = absurd (let h = ltb-true n 0 e in omega arith)
  tolerance-below (negsuc n) e = refl

  pub tolerance-above : (z : ℤ) → lt_z (pos tolerance_limit) z ≡ true → refused 10 ≡ answer z
  unfolding tolerated
  tolerance-above (pos n) e = rw (lt-leb n tolerance_limit (ltb-true tolerance_limit n e)) refl
  tolerance-above (negsuc n) e = refl

  pub tolerance-within : (z : ℤ) → lt_z z (pos 0) ≡ false → lt_z (pos tolerance_limit) z ≡ false → answered (verdict T M L (nat_abs z) (nodes_in table) figures) ≡ answer z
  unfolding tolerated
  tolerance-within (pos n) h e = rw (le-leb n tolerance_limit (ltb-false tolerance_limit n e)) refl
  tolerance-within (negsuc n) h e = absurd (cc)

  -- ---- the count of the figures

  module _ (z : ℤ) where
    pub miscounted : (length figures ≡ variable_count T M L (nodes_in table) → ⊥) → refused 9 ≡ counted T M L table figures z
    unfolding counted
    miscounted h = rw (ne_eqb (length figures) (variable_count T M L (nodes_in table)) h)

    pub well_counted : length figures ≡ variable_count T M L (nodes_in table) → tolerated T M L table figures z ≡ counted T M L table figures z
    unfolding counted
    well_counted h = rw (eq-eqb (length figures) (variable_count T M L (nodes_in table)) h)
