-- `evaluator_words::some_ahead` meets its contract: as many places as are seen are in the word. Assumes nothing.
use mathlib.Core.Path.{◌≡◌, ap, ◌∙◌}
use Prim.Native.Nat.{ℕ, ◌+◌, ◌-◌}
use native.Mathlib.Omega.{arith}
use Rattle.evaluator_words.specs.Bits.{on}
use Rattle.evaluator_words.specs.Ahead.{some, some_wider}
use Rattle.evaluator_words.proofs.some_ahead.Goals as goal

pub loop-seen-preserved : goal.loop-seen-preserved
loop-seen-preserved c =
    let l = c.loop-seen in
    (omega arith, omega arith, some_wider c.args.w l.seen l.seen l.x (omega arith) l.invariant.2)

pub returns : goal.returns
returns c =
    let l = c.loop-seen in
    let a = c.args in
    let z : l.seen + (a.n - l.seen) ≡ a.n = omega arith in
    λ j. some_wider a.w l.seen (a.n - l.seen) l.x (omega arith) l.invariant.2 j ∙ ap (λ (k : ℕ). some (on a.w) k j) z
