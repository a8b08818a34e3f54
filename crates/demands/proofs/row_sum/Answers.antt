-- `demands::row_sum` meets its contract, from the contract of `judge_sums::row_sum`.
use mathlib.Core.Path.{subst⁻¹}
use Rattle.row.specs.Meaning.{terms_of}
use Rattle.headlines.specs.RowSum.{PositiveFirst}
use Rattle.headlines.proofs.Summing.{positive-first}
use Rattle.demands.proofs.row_sum.Goals as goal

pub returns : goal.returns
returns c =
    let a = c.args in
    subst⁻¹ (PositiveFirst a.figures.now (terms_of a.terms)) c.row_sum.ensures.is (positive-first a.figures.now (terms_of a.terms))
