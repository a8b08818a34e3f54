-- `evaluator_words::until_kept` meets its contract. Assumes nothing.
use Rattle.evaluator_words.specs.Bits.{on}
use Rattle.evaluator_words.specs.Ahead.{doubled_one}
use Rattle.evaluator_words.specs.Words.{word-until}
use Rattle.evaluator_words.proofs.until_kept.Goals as goal

pub returns : goal.returns
returns c =
    let p = on c.args.p in
    let q = on c.args.q in
    let d =
    c.doubled-6.ensures p q
    (c.doubled-5.ensures p q
    (c.doubled-4.ensures p q (c.doubled-3.ensures p q (c.doubled-2.ensures p q (c.doubled.ensures p q (doubled_one c.args.p c.args.q)))))) in
    λ T h small. word-until T c.args.p c.args.q c.doubled-6.result.met c.doubled-6.result.held h small d
