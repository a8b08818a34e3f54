-- `evaluator_words::Horizon::eventually_within` meets its contract. Assumes nothing.
use mathlib.Core.Path.{◌≡◌}
use native.Mathlib.Omega.{arith}
use Rattle.evaluator_words.specs.Windows.{within-later}
use Rattle.evaluator_words.proofs.Horizon.eventually_within.Goals as goal

pub returns-then-self : goal.returns-then-self
returns-then-self c =
    let a = c.args in
    let h = a.self in
    within-later h.t h.l h.loop_slot a.a a.b a.p c.later.result c.within_next.result c.requires.1 c.later.ensures c.within_next.ensures

pub returns : goal.returns
returns c =
    let z : c.args.self.l ≡ c.args.self.t = omega arith in
    rw z c.within_last.ensures
