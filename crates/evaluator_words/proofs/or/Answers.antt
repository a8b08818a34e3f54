-- `evaluator_words::or` meets its contract. Assumes nothing.
use Rattle.evaluator_words.specs.Words.{word-or}
use Rattle.evaluator_words.proofs.or.Goals as goal

pub returns : goal.returns
returns c = λ T h g. word-or T c.args.p c.args.q h g
