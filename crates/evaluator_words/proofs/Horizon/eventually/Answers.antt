-- `evaluator_words::Horizon::eventually` meets its contract. Assumes nothing.
use mathlib.Core.Path.{◌≡◌}
use native.Mathlib.Omega.{arith}
use Rattle.evaluator_words.specs.Bits.{on}
use Rattle.evaluator_words.specs.Words.{eventually-last, word_same}
use Rattle.evaluator_words.proofs.Horizon.eventually.Goals as goal

pub returns-then-self : goal.returns-then-self
returns-then-self c = c.eventually_again.ensures (on c.args.q) (c.eventually_kept-kept.ensures c.args.self.t c.requires)

pub returns : goal.returns
returns c =
    let h = c.args.self in
    let z : h.l ≡ h.t = omega arith in
    rw z (word_same (c.eventually_kept-kept.ensures h.t c.requires) _ (eventually-last h.t (on c.args.q)))
