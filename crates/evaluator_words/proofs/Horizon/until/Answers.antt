-- `evaluator_words::Horizon::until` meets its contract. Assumes nothing.
use mathlib.Core.Path.{◌≡◌}
use native.Mathlib.Omega.{arith}
use Rattle.evaluator_words.specs.Bits.{on}
use Rattle.evaluator_words.specs.Words.{until-last, word_same}
use Rattle.evaluator_words.proofs.Horizon.until.Goals as goal

pub returns-then-self : goal.returns-then-self
returns-then-self c = c.until_again.ensures (on c.args.q) (c.until_kept-kept.ensures c.args.self.t c.args.self.slots.1 c.requires)

pub returns : goal.returns
returns c =
    let h = c.args.self in
    let z : h.l ≡ h.t = omega arith in
    rw z (word_same (c.until_kept-kept.ensures h.t h.slots.1 c.requires) _ (until-last h.t (on c.args.p) (on c.args.q)))
