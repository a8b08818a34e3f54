-- `evaluator_words::Horizon::eventually_again` meets its contract. Assumes nothing.
use mathlib.Core.Path.{sym, ◌∙◌}
use Rattle.evaluator_words.specs.Words.{eventually_yes, eventually_no}
use Rattle.evaluator_words.proofs.Horizon.eventually_again.Goals as goal

pub returns-then-is_on : goal.returns-then-is_on
returns-then-is_on c =
    let h = c.args.self in
    λ q d. rw c.ones.ensures (eventually_yes h.t h.l h.loop_slot q c.args.kept d (sym c.is_on.ensures ∙ c.if-is_on.true))

pub returns : goal.returns
returns c =
    let h = c.args.self in
    λ q d. eventually_no h.t h.l h.loop_slot q c.args.kept d (sym c.is_on.ensures ∙ c.if-is_on.false)
