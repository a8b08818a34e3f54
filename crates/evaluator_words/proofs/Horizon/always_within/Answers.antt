-- `evaluator_words::Horizon::always_within` meets its contract. Assumes nothing.
use Rattle.evaluator_words.specs.Words.{within_at, word-dual}
use Rattle.evaluator_words.specs.Windows.{within_same}
use Rattle.evaluator_words.proofs.Horizon.always_within.Goals as goal

pub returns : goal.returns
returns c =
    let a = c.args in
    let h = a.self in
    word-dual h.t a.p c.not.result c.eventually_within.result c.not-2.result (within_at h.t h.l a.a a.b)
    (within_same h.t h.l h.loop_slot a.a a.b) c.not.ensures c.eventually_within.ensures c.not-2.ensures
