-- `reader_lexer::span_at` meets its contract: the window by its two numbers.
use Rattle.std.proofs.Common.{refl}
use Rattle.reader_lexer.specs.Spans.{span-cut}
use Rattle.reader_lexer.proofs.span_at.Goals as goal

pub returns-in_err-from : goal.returns-in_err-from
returns-in_err-from c = rw (span-cut c.args.text.now c.args.at, ← c.bound_at.ensures, c.in_err-from.was) c.from_residual.ensures

pub returns-in_err-to : goal.returns-in_err-to
returns-in_err-to c =
    rw (span-cut c.args.text.now c.args.at, ← c.bound_at.ensures, c.in_ok-from.was, ← c.bound_at-2.ensures, c.in_err-to.was) c.from_residual-in_err-to.ensures

pub returns : goal.returns
returns c =
    rw (span-cut c.args.text.now c.args.at, ← c.bound_at.ensures, c.in_ok-from.was, ← c.bound_at-2.ensures, c.in_ok-to.was) refl
