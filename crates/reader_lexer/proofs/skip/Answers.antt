-- `reader_lexer::skip` meets its contract: where no byte is left but spaces, they end where the text does.
use Rattle.std.proofs.Common.{arith}
use Rattle.reader_lexer.specs.Signs.{start_max}
use Rattle.reader_lexer.proofs.skip.Goals as goal

pub returns-in-None : goal.returns-in-None
returns-in-None c = omega (arith, c.max.ensures, c.in-None.ensures, start_max c.args.text.now c.args.at)
