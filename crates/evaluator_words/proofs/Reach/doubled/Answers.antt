-- `evaluator_words::Reach::doubled` meets its contract. Assumes nothing.
use Rattle.evaluator_words.specs.Ahead.{doubled_more}
use Rattle.evaluator_words.proofs.Reach.doubled.Goals as goal

pub returns : goal.returns
returns c = λ p q d. doubled_more p q c.args.k c.args.self.met c.args.self.held d
