-- `evaluator_words::Horizon::within_last` meets its contract. Assumes nothing.
use mathlib.Core.Path.{sym, ap, ◌∙◌}
use mathlib.Core.Bool.{not, ◌&&◌}
use Prim.Native.Nat.{ℕ, ◌+◌, ◌-◌, ◌/◌, ◌^◌}
use Rattle.evaluator_words.specs.Bits.{on}
use Rattle.evaluator_words.specs.Ahead.{some-shifted}
use Rattle.evaluator_words.specs.Windows.{last_yes, last_no}
use Rattle.evaluator_words.proofs.Horizon.within_last.Goals as goal

pub returns-then-is_on : goal.returns-then-is_on
returns-then-is_on c =
    let a = c.args in
    let near = c.some_ahead-near in
    last_yes a.self.t a.p a.a a.b near.result a.self.slots.0 c.requires.0 c.requires.1
    (some-shifted a.p near.result a.a (a.b - a.a + 1) near.ensures)
    c.without.result (λ j. c.without.ensures j ∙ ap (λ (w : ℕ). on w j && not (on (w / 2 ^ a.b) j)) c.ones-all.ensures)
    (sym c.is_on.ensures ∙ c.if-is_on.true)

pub returns : goal.returns
returns c =
    let a = c.args in
    let near = c.some_ahead-near in
    last_no a.self.t a.p a.a a.b near.result a.self.slots.0 c.requires.0 c.requires.1
    (some-shifted a.p near.result a.a (a.b - a.a + 1) near.ensures)
    (sym c.is_on.ensures ∙ c.if-is_on.false)
