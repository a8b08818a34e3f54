-- `evaluator_words::Horizon::until_again` meets its contract. Assumes nothing.
use mathlib.Core.Path.{sym, ◌∙◌}
use Rattle.evaluator_words.specs.Bits.{on}
use Rattle.evaluator_words.specs.Words.{until_yes, until_no}
use Rattle.evaluator_words.proofs.Horizon.until_again.Goals as goal

pub returns-then-is_on : goal.returns-then-is_on
returns-then-is_on c =
    let a = c.args in
    let h = a.self in
    λ q d. until_yes h.t h.l h.loop_slot (on a.p) q a.met d c.always_kept.result c.always_kept.ensures (sym c.is_on.ensures ∙ c.if-is_on.true)

pub returns : goal.returns
returns c =
    let a = c.args in
    let h = a.self in
    λ q d. until_no h.t h.l h.loop_slot (on a.p) q a.met d (sym c.is_on.ensures ∙ c.if-is_on.false)
