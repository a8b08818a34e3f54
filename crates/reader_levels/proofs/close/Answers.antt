-- `reader_levels::close` meets its contract: the text is short.
use Rattle.std.proofs.Common.{arith}
use Rattle.reader_lexer.specs.Signs.{start_le}
use Rattle.reader_levels.proofs.close.Goals as goal

pub overflow_cast-next : goal.overflow_cast-next
overflow_cast-next c =
    omega (arith, c.requires, c.skip-next.ensures, start_le c.args.text.now c.in_ok-past.past c.in_ok-past.ensures.inside)
