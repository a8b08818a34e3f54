-- What a row sum says (request N3).
use Rattle.rules.specs.RowSum as Definitions
use Rattle.judge_sums.specs.declared.RowSum.{RowSum}

abbrev pub row_sum_of : RowSum → Definitions.RowSum
row_sum_of r = record { positive = r.positive; whole = r.whole }
