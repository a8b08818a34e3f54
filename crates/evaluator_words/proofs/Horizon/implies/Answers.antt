-- `evaluator_words::Horizon::implies` meets its contract. Assumes nothing.
use mathlib.Core.Path.{ap}
use mathlib.Core.Bool.{Bool, ◌||◌}
use Rattle.evaluator_words.specs.Bits.{on}
use Rattle.evaluator_words.specs.Words.{word_same}
use Rattle.evaluator_words.proofs.Horizon.implies.Goals as goal

pub returns : goal.returns
returns c =
    let n = c.not.ensures in
    word_same (c.or.ensures c.args.self.t n.small c.requires) _ (λ j l. ap (λ (b : Bool). b || on c.args.q j) (n.at j l))
