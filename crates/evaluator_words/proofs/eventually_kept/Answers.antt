-- `evaluator_words::eventually_kept` meets its contract. Assumes nothing.
use mathlib.Core.Path.{◌≡◌}
use native.Mathlib.Omega.{arith}
use Rattle.evaluator_words.specs.Words.{eventually-none, word-eventually}
use Rattle.evaluator_words.proofs.eventually_kept.Goals as goal

pub returns-then-q-eq0 : goal.returns-then-q-eq0
returns-then-q-eq0 c =
    let z : c.args.q ≡ 0 = omega arith in
    λ T h. rw z (eventually-none T)

pub returns : goal.returns
returns c = λ T h. word-eventually T c.args.q (omega arith) c.ranges.q.fits h
