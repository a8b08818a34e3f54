-- `evaluator_words::Horizon::not` meets its contract. Assumes nothing.
use mathlib.Core.Path.{ap, ◌∙◌}
use mathlib.Core.Bool.{not as notb, ◌&&◌}
use Prim.Native.Nat.{ℕ}
use Rattle.evaluator_words.specs.Bits.{on}
use Rattle.evaluator_words.specs.Words.{word-not}
use Rattle.evaluator_words.proofs.Horizon.not.Goals as goal

pub returns : goal.returns
returns c =
    let p = c.args.p in
    word-not c.args.self.t p c.without.result (λ j. c.without.ensures j ∙ ap (λ (w : ℕ). on w j && notb (on p j)) c.ones.ensures)
