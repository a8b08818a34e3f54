-- `reader_lexer::digits` meets its contract.
use Rattle.std.proofs.Common.{◌≡◌, arith, ap, sym, ◌∙◌, min, drop, get_or, ◌+◌, ◌*◌, ◌-◌}
use Rattle.rules.proofs.Reading.Lexer.{digits-end, digits_stop, digits_more}
use Rattle.reader_lexer.proofs.Laws.{value-capped, digit-test}
use Rattle.reader_lexer.proofs.digits.Goals as goal

pub loop-i-preserved : goal.loop-i-preserved
loop-i-preserved c =
    let l = c.loop-i in
    let s = c.args.text.now in
    let h = digits_more s l.i l.value c.loop-i-test.true (digit-test (get_or s l.i 0) ∙ sym c.if-not-is_ascii_digit.ensures.value) in
    let n : min 255 c.min-value.result ≡ min 255 (10 * l.value + (get_or s l.i 0 - 48)) = omega (arith, c.min-value.ensures) in
    record {
      count = omega (arith, h.count);
      number =
          value-capped (drop (l.i + 1) s) c.min-value.result (10 * l.value + (get_or s l.i 0 - 48)) n
          ∙ ap (min 255) (sym h.number) ∙ l.invariant.number;
      small = omega (arith, c.min-value.ensures);
      inside = omega arith;
    }

pub returns-then-not-is_ascii_digit : goal.returns-then-not-is_ascii_digit
returns-then-not-is_ascii_digit c =
    let s = c.args.text.now in
    let i = c.loop-i.i in
    let h = digits_stop s i c.loop-i.value c.loop-i-test.true (digit-test (get_or s i 0) ∙ sym c.if-not-is_ascii_digit.ensures.value) in
    record { next = omega (arith, h.count); value = omega (arith, h.number) }

pub returns : goal.returns
returns c =
    let h = digits-end c.args.text.now c.loop-i.i c.loop-i.value c.loop-i-test.false in
    record { next = omega (arith, h.count, c.max.ensures); value = omega (arith, h.number) }
