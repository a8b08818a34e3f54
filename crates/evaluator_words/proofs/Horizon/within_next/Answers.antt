-- `evaluator_words::Horizon::within_next` meets its contract. Assumes nothing.
use mathlib.Core.Path.{refl, ap₂, ◌∙◌}
use mathlib.Core.Bool.{not, ◌&&◌}
use Prim.Native.Nat.{ℕ, ◌-◌, ◌/◌, ◌^◌}
use lib.Count.{count_trailing_zeros}
use Rattle.evaluator_words.specs.Bits.{on}
use Rattle.evaluator_words.specs.Windows.{next-within}
use Rattle.evaluator_words.proofs.Horizon.within_next.Goals as goal

pub returns : goal.returns
returns c =
    let a = c.args in
    let h = a.self in
    let near = c.some_ahead-near in
    let first = count_trailing_zeros 64 (a.p / 2 ^ (h.l - 1)) in
    next-within h.t h.l a.p a.n near.result first c.without.result h.loop_slot c.requires.0 c.requires.1 near.ensures refl
    (λ j. c.without.ensures j ∙ ap₂ (λ (w k : ℕ). on w j && not (on (w / 2 ^ (a.n - k)) j)) c.ones-all.ensures c.min.ensures)
