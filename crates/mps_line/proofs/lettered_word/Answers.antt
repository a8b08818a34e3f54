-- `mps_line::lettered_word` meets its contract. A letter, digits and spaces. Assumes nothing.
use Rattle.std.proofs.Common.{◌∙◌}
use Rattle.mps_line.specs.DigitWords.{letter-after}
use Rattle.mps_line.proofs.lettered_word.Goals as goal

pub returns : goal.returns
returns c = c.with_byte.ensures ∙ letter-after c.args.letter c.args.n _ c.requires c.with_digits.ensures
