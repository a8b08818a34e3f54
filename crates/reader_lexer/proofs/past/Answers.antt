-- `reader_lexer::past` meets its contract.
use Rattle.std.proofs.Common.{refl, add-one}
use Rattle.reader_lexer.specs.Signs.{sign-skipped}
use Rattle.reader_lexer.proofs.Laws.{sign-here}
use Rattle.reader_lexer.proofs.past.Goals as goal

pub returns-then-text-at : goal.returns-then-text-at
returns-then-text-at c =
    rw (sign-here c.args.text.now c.args.at c.args.byte c.requires c.if-byte-ne32.true c.if-at-text.true c.if-text-at.true, add-one) refl

pub returns : goal.returns
returns c = rw (← sign-skipped c.args.text.now c.args.at c.args.byte, ← c.skip.ensures) c.sign_at.ensures.past
