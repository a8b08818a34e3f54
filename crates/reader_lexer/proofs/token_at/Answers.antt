-- `reader_lexer::token_at` meets its contract: a law of the lexer for each return.
use Rattle.std.proofs.Common.{◌+◌, arith, refl, sym, ap, ◌∙◌}
use Rattle.rules.specs.Reading.Lexer.{start}
use Rattle.rules.proofs.Reading.Lexer.{token_none, token_sign, token_letter}
use Rattle.reader_lexer.specs.Capped.{capped}
use Rattle.reader_lexer.specs.declared.First.{First}
use Rattle.reader_lexer.proofs.Laws.{capped-number}
use Rattle.reader_lexer.proofs.token_at.Goals as goal

pub returns-in_err-first : goal.returns-in_err-first
returns-in_err-first c =
    let s = c.args.text.now in
    rw (ap capped (token_none s c.args.at (start s c.args.at) refl (omega (arith, c.in_err-first.ensures)))) c.from_residual.ensures

pub returns-then-first-ne97 : goal.returns-then-first-ne97
returns-then-first-ne97 c =
    let s = c.args.text.now in
    let f = c.in_ok-first.ensures in
    let b = ap (λ (x : First). x.byte) f.1 in
    rw (ap capped (token_sign s c.args.at (start s c.args.at) refl f.0 (λ e. c.if-first-ne97.true (b ∙ e))), b, ap (λ (x : First). x.next) f.1) refl

pub returns-in_err-atom : goal.returns-in_err-atom
returns-in_err-atom c =
    let s = c.args.text.now in
    let p = start s c.args.at in
    let f = c.in_ok-first.ensures in
    let b = ap (λ (x : First). x.byte) f.1 in
    let n = ap (λ (x : First). x.next) f.1 in
    rw (token_letter s c.args.at p refl f.0 (sym b ∙ c.if-first-ne97.false), capped-number s (p + 1), ← (rw n at c.numeral.ensures), c.in_err-atom.was)
    c.from_residual-in_err-atom.ensures

pub returns : goal.returns
returns c =
    let s = c.args.text.now in
    let p = start s c.args.at in
    let f = c.in_ok-first.ensures in
    let b = ap (λ (x : First). x.byte) f.1 in
    let n = ap (λ (x : First). x.next) f.1 in
    rw (token_letter s c.args.at p refl f.0 (sym b ∙ c.if-first-ne97.false), capped-number s (p + 1), ← (rw n at c.numeral.ensures), c.in_ok-atom.was) refl
