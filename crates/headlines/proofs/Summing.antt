-- Proofs of what the row sum gives, and that the judge does not alter.
use Rattle.std.specs.Prelude.{◌≡◌, List, ℕ, ℤ}
use Rattle.rules.specs.Rows.{Term}
use Rattle.rules.specs.Judge.{Verdict}
use Rattle.rules.specs.RowSum.{row_sum}
use Rattle.rules.proofs.RowSumLaws.{positive-is, whole_is, any_order}
use Rattle.rules.proofs.Unaltered.{same-broken, same-shortfall, judged_summed}
use Rattle.rules.specs.Demands.{Answer}
use Rattle.rules.specs.Outcome.{judge_outcome}
use Rattle.headlines.proofs.Answering.{judge-answers}
use Rattle.headlines.specs.RowSum.{PositiveFirst, AnyOrder, SameRow, SummedVerdict}

pub positive-first : (figures : List ℤ) (terms : List Term) → PositiveFirst figures terms (row_sum figures terms)
positive-first figures terms = (positive-is figures terms, whole_is figures terms)

pub in-any-order : AnyOrder
in-any-order figures terms others p = any_order figures p

pub same_row : SameRow
same_row e figures row = (same-broken e figures row, same-shortfall figures row)

module _ (t m l : ℕ) (table : List ℕ) (figures : List ℤ) (tolerance : ℤ) (ruling : Answer Verdict)
    (told : ruling ≡ judge_outcome t m l table figures tolerance) where
  pub summed-verdict : SummedVerdict t m l table figures tolerance ruling
  summed-verdict v =
      let same = judge-answers t m l table figures tolerance ruling told v in (
        λ f. let (none, (ns, e, good, tol, j)) = same.0 f in (none, (ns, e, good, tol, (judged_summed t m l e ns figures v).1 j)),
        λ x. let (none, (ns, e, good, tol, j)) = x in same.1 (none, (ns, e, good, tol, (judged_summed t m l e ns figures v).0 j)),
      )
