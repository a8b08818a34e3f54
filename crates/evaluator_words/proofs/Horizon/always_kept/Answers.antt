-- `evaluator_words::Horizon::always_kept` meets its contract. Assumes nothing.
use Rattle.evaluator_words.specs.Words.{eventually_kept, kept_same, word-dual}
use Rattle.evaluator_words.proofs.Horizon.always_kept.Goals as goal

pub returns : goal.returns
returns c =
    let t = c.args.self.t in
    word-dual t c.args.p c.not.result c.eventually_kept.result c.not-2.result (eventually_kept t)
    (kept_same t) c.not.ensures (c.eventually_kept.ensures t c.not.ensures.small) c.not-2.ensures
