-- `evaluator_words::and` meets its contract. Assumes nothing.
use Rattle.evaluator_words.specs.Words.{word_and}
use Rattle.evaluator_words.proofs.and.Goals as goal

pub returns : goal.returns
returns c = λ T h. word_and T c.args.p c.args.q h
