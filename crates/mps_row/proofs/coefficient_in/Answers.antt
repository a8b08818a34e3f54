-- `mps_row::coefficient_in` meets its contract. By the number of terms. Assumes nothing.
use Rattle.std.proofs.Common.{◌∙◌, arith}
use Rattle.std.proofs.lemmas.Int.{ints}
use Rattle.mps_row.specs.Coefficients.{single_in, pair_in, triple_in}
use Rattle.mps_row.proofs.coefficient_in.Goals as goal

pub returns-in-Single : goal.returns-in-Single
returns-in-Single c =
    let a = c.term_in.ensures in
    (omega (arith, ints) ∙ single_in c.args.v c.args.terms c.term_in.result c.in-Single.is a.0, omega (arith, ints))

pub returns-in-Pair : goal.returns-in-Pair
returns-in-Pair c =
    let a = c.term_in-in-Pair in
    let b = c.term_in-in-Pair-2 in
    (omega (arith, ints) ∙ pair_in c.args.v c.args.terms a.result b.result c.in-Pair.is a.ensures.0 b.ensures.0, omega (arith, ints))

pub returns-in-Triple : goal.returns-in-Triple
returns-in-Triple c =
    let x = c.term_in-in-Triple in
    let y = c.term_in-in-Triple-2 in
    let z = c.term_in-in-Triple-3 in
    (omega (arith, ints) ∙ triple_in c.args.v c.args.terms x.result y.result z.result c.in-Triple.is x.ensures.0 y.ensures.0 z.ensures.0, omega (arith, ints))
