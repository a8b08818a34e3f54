-- `evaluator_words::without` meets its contract. Assumes nothing.
use Rattle.evaluator_words.specs.Bits.{on_without}
use Rattle.evaluator_words.proofs.without.Goals as goal

pub returns : goal.returns
returns c = λ j. on_without 64 c.args.a c.args.b j c.ranges.a.fits c.ranges.b.fits
