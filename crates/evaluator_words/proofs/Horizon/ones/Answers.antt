-- `evaluator_words::Horizon::ones` meets its contract. Assumes nothing.
use Rattle.evaluator_words.specs.Bits.{ones_shr}
use Rattle.evaluator_words.proofs.Horizon.ones.Goals as goal

pub returns : goal.returns
returns c = ones_shr 64 c.args.self.t c.args.self.slots.1
