-- `reader_lexer::lead` meets its contract: the spaces from i on end where those from `at` on do.
use Rattle.std.proofs.Common.{◌≡◌, refl, arith}
use Rattle.rules.specs.Reading.Lexer.{start}
use Rattle.rules.proofs.Reading.Lexer.{spaces-end, spaces_stop, spaces-more}
use Rattle.reader_lexer.proofs.lead.Goals as goal

pub returns-then-text-at-ne32 : goal.returns-then-text-at-ne32
returns-then-text-at-ne32 c =
    let e : start c.args.text.now c.args.at ≡ c.args.at =
    omega (arith, spaces_stop c.args.text.now c.args.at c.if-at-text.true c.if-text-at-ne32.true) in
    rw e (c.if-at-text.true, refl)

pub returns-then-text-i-ne32 : goal.returns-then-text-i-ne32
returns-then-text-i-ne32 c =
    let e : start c.args.text.now c.args.at ≡ c.loop-i.i =
    omega (arith, spaces_stop c.args.text.now c.loop-i.i c.loop-i-test.true c.if-text-i-ne32.true) in
    rw e (c.loop-i-test.true, refl)

pub loop-i-preserved : goal.loop-i-preserved
loop-i-preserved c = record { spaces = omega (arith, spaces-more c.args.text.now c.loop-i.i c.loop-i-test.true c.if-text-i-ne32.false) }

pub returns : goal.returns
returns c = λ h. omega (arith, h, spaces-end c.args.text.now c.loop-i.i c.loop-i-test.false)
