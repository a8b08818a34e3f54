-- The extreme figure tells of all rows but the last.
use Rattle.std.proofs.Common.{pos, to_z, of_z, ℤ, sym, ap, ◌∙◌, rules}
use Rattle.std.proofs.lemmas.Int.{to_z-of_z}
use Rattle.std.specs.Int.{w64}
use Rattle.rules.specs.Judge.{shortfall}
use Rattle.rules.specs.Verdicts.{is_short}
use Rattle.judge_sums.specs.Laws.{short_of}
use Rattle.millionths.specs.declared.Millionths.{Millionths}
use Rattle.window.specs.Slots.{variables}
use Rattle.window.proofs.Slots.{length-variables}
use Rattle.judge_slot.specs.Windows.{slot_row, slot_sum, last_row, window-parts}
use Rattle.judge_slot.specs.Holding.{fails, held-last}
use Rattle.judge_slot.specs.Spreads.{passed-sum, extreme-tells}
use Rattle.judge_slot.proofs.LimitedTest.window_holds.Goals as goal

pub returns-then-not-is_short : goal.returns-then-not-is_short
returns-then-not-is_short c t =
    let a = c.args in
    let e = a.self.test.e in
    let xs = a.self.test.figures.now in
    let seen = c.window_spread-seen.ensures in
    let few = a.looks.few in
    let s = ap (λ (z : ℤ). to_z w64 (of_z w64 z)) c.from.ensures ∙ passed-sum xs a.looks a.p seen few in
    let last = to_z-of_z w64 c.last_short-last.result (search rules)
    ∙ c.last_short-last.ensures xs (variables a.looks a.p) a.node s c.figure-x.ensures (length-variables a.looks a.p) in
    let slots = to_z-of_z w64 c.slot_short-slots.result (search rules) ∙ c.slot_short-slots.ensures
    ∙ ap (λ (m : Millionths). short_of (pos 0) (slot_sum a.kind c.figure-x.result.value m.value)) c.extreme.ensures in
    let last-holds = sym (c.is_short-then-not-is_short.ensures ∙ ap (is_short e) last) ∙ fails c.is_short-then-not-is_short.result t in
    let extreme-holds = sym (c.is_short.ensures ∙ ap (is_short e) slots) ∙ c.if-not-is_short.true in
    held-last e (shortfall xs) (slot_row a.kind a.node a.looks a.p) a.looks.count (last_row a.kind a.node (variables a.looks a.p)) (window-parts a.kind a.node a.looks a.p)
    (extreme-tells e xs a.kind a.node a.looks a.p c.figure-x.ensures seen extreme-holds) last-holds
