-- `reader_lexer::number_at` meets its contract.
use Rattle.rules.specs.Reading.Lexer.{number_at}
use Rattle.reader_lexer.proofs.number_at.Goals as goal

pub returns : goal.returns
unfolding number_at
returns c = rw (← c.skip.ensures) c.numeral.ensures
