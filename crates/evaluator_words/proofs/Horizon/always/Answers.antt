-- `evaluator_words::Horizon::always` meets its contract. Assumes nothing.
use Rattle.evaluator_words.specs.Words.{eventually_at, eventually-same, word-dual}
use Rattle.evaluator_words.proofs.Horizon.always.Goals as goal

pub returns : goal.returns
returns c =
    let h = c.args.self in
    word-dual h.t c.args.p c.not.result c.eventually.result c.not-2.result (eventually_at h.t h.l)
    (eventually-same h.t h.l h.loop_slot) c.not.ensures c.eventually.ensures c.not-2.ensures
