-- `reader_lexer::numeral` meets its contract: a law of the numbers for each return.
use Rattle.std.proofs.Common.{arith, drop, length-drop}
use Rattle.rules.proofs.Reading.Lexer.{digits_le}
use Rattle.reader_lexer.proofs.Laws.{no_digit, zero-first, number-found}
use Rattle.reader_lexer.proofs.numeral.Goals as goal
use Rattle.reader_lexer.proofs.numeral.Goals.{else-d-read-via-then-d-read+else-text-d-eq48, else-d-read-via-else-d-read}

pub returns-then-read-d : goal.returns-then-read-d
returns-then-read-d c =
    no_digit c.args.text.now c.args.d c.digits-read.result c.digits-read.ensures.next c.digits-read.ensures.value c.if-read-d.true

pub bounds-text-d : goal.bounds-text-d
bounds-text-d c =
    let s = drop c.args.d c.args.text.now in
    omega (arith, c.digits-read.ensures.next, digits_le s, length-drop c.args.d c.args.text.now)

pub returns-then-text-d-eq48 : goal.returns-then-text-d-eq48
returns-then-text-d-eq48 c =
    zero-first c.args.text.now c.args.d c.digits-read.result c.digits-read.ensures.next c.digits-read.ensures.value
    c.if-d-read.true c.if-text-d-eq48.true

pub returns : goal.returns
returns c =
    let s = c.args.text.now in
    let read = c.digits-read in
    elim c.else-d-read.branch [
      | else-d-read-via-then-d-read+else-text-d-eq48 w ↦ number-found s c.args.d read.result read.ensures.next read.ensures.value
          (record { one_up = omega (arith, read.ensures.next); no_zero = λ m. w.if-text-d-eq48.false })
      | else-d-read-via-else-d-read w ↦ number-found s c.args.d read.result read.ensures.next read.ensures.value
          (record { one_up = omega (arith, read.ensures.next); no_zero = λ m z. omega (arith, read.ensures.next, w.if-d-read.false) })
    ]
