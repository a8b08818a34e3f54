-- `reader_lexer::sign_at` meets its contract.
use Rattle.std.proofs.Common.{refl, sym, ap, add-one}
use Rattle.reader_lexer.specs.Signs.{position_of}
use Rattle.reader_lexer.proofs.Laws.{byte-found, byte-other, byte-none}
use Rattle.reader_lexer.proofs.sign_at.Goals as goal
use Rattle.reader_lexer.proofs.sign_at.Goals.{else-at-text-via-then-at-text+else-text-at, else-at-text-via-else-at-text}

pub returns-then-text-at-clause-past : goal.returns-then-text-at-clause-past
returns-then-text-at-clause-past c =
    rw (byte-found c.args.text.now c.args.at c.args.byte c.requires c.if-at-text.true c.if-text-at.true, add-one) refl

pub returns-else-at-text-clause-past : goal.returns-else-at-text-clause-past
returns-else-at-text-clause-past c =
    elim c.else-at-text.branch [
      | else-at-text-via-then-at-text+else-text-at w ↦ sym (ap position_of (byte-other c.args.text.now c.args.at c.args.byte w.if-text-at.false))
      | else-at-text-via-else-at-text w ↦ sym (ap position_of (byte-none c.args.text.now c.args.at c.args.byte w.if-at-text.false))
    ]
