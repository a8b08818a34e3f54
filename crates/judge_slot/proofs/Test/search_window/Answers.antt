-- One slot more; a search that is over passes the rest; and the last row.
use Rattle.std.proofs.Common.{◌≡◌, refl, List, [], ◌∷◌, ℕ, ℤ, ◌+◌, ◌≤◌, ◌*◌, Ok, Err, nat_abs, sym, ap, ◌∙◌, subst, arith, rules}
use Rattle.std.proofs.lemmas.Int.{to_z-of_z}
use Rattle.std.proofs.lemmas.Result.{err_from_is_err_and}
use Rattle.std.specs.Int.{w64}
use Rattle.lists.specs.Flat.{flat}
use Rattle.rules.specs.Rows.{Row, value_at}
use Rattle.rules.specs.Judge.{shortfall}
use Rattle.millionths.specs.Bounds as Bounds
use Rattle.window.specs.Slots.{variable_at, variables}
use Rattle.window.proofs.Slots.{length-variables}
use Rattle.judge_slot.specs.Searches.{Tested, tested, tested-start, tested-next, last-tested, over-rest, over_last}
use Rattle.judge_slot.specs.Windows.{slot_row, last_row, window-parts, slot_short-is, sum_to, sum-none, sum_more, sum-all}
use Rattle.judge_slot.proofs.Test.search_window.Goals as goal

pub loop-i-init : goal.loop-i-init
loop-i-init c = record { is = sym (tested-start _ _ _ _); sum_is = sym (sum-none _ _); small = omega arith; few = omega arith }

pub returns-in_err-done : goal.returns-in_err-done
returns-in_err-done c =
    let a = c.args in
    let l = c.loop-i in
    let f = shortfall a.self.figures.now in
    let p = err_from_is_err_and c.from_residual.result c.from_residual.ensures.1 in
    let y = c.figure-y.ensures ∙ ap (λ (n : ℕ). value_at a.self.figures.now (a.p + n)) c.nth.ensures.0 in
    let d = to_z-of_z w64 c.slot_short.result (search rules) ∙ c.slot_short.ensures
    ∙ slot_short-is a.self.figures.now a.kind a.node a.looks a.p l.i c.figure-x.ensures y in
    let o = c.in_err-done.ensures in
    let more = tested-next a.self.e f (slot_row a.kind a.node a.looks a.p) (Ok a.rows) l.i l.invariant.is d o in
    let each = over-rest a.self.e f (Ok a.rows) (λ j. slot_row a.kind a.node a.looks a.p j ∷ []) (l.i + 1) a.looks.count (omega arith) more refl in
    rw (p.1, p.2)
    (subst (λ (rs : List Row). Tested a.self.e f (Ok a.rows) rs (Err c.in_err-done.field-0.0)) (window-parts a.kind a.node a.looks a.p)
    (over_last a.self.e f _ (last_row a.kind a.node (variables a.looks a.p)) each refl (omega (arith, o.by_one))))

pub loop-i-preserved : goal.loop-i-preserved
loop-i-preserved c =
    let a = c.args in
    let l = c.loop-i in
    let y = c.figure-y.ensures ∙ ap (λ (n : ℕ). value_at a.self.figures.now (a.p + n)) c.nth.ensures.0 in
    let d = to_z-of_z w64 c.slot_short.result (search rules) ∙ c.slot_short.ensures
    ∙ slot_short-is a.self.figures.now a.kind a.node a.looks a.p l.i c.figure-x.ensures y in
    let g = c.grown-sum in
    let b = to_z-of_z w64 g.result (search rules) in
    record {
      is = tested-next a.self.e (shortfall a.self.figures.now) (slot_row a.kind a.node a.looks a.p) (Ok a.rows) l.i l.invariant.is d c.in_ok-done.ensures;
      sum_is = b ∙ g.ensures.0 ∙ sum_more a.self.figures.now (variable_at a.looks a.p) l.i l.invariant.sum_is y;
      small = subst (λ (z : ℤ). nat_abs z ≤ Bounds.figure * (l.i + 1)) (sym b) (omega (arith, g.ensures.1, l.invariant.small));
      few = omega (arith, c.in_ok-done.ensures.by_one);
    }

pub returns : goal.returns
returns c =
    let a = c.args in
    let l = c.loop-i in
    let f = shortfall a.self.figures.now in
    let k : l.i ≡ a.looks.count = omega arith in
    let s = l.invariant.sum_is ∙ ap (sum_to a.self.figures.now (variable_at a.looks a.p)) k ∙ sum-all a.self.figures.now a.looks a.p in
    let d = to_z-of_z w64 c.last_short.result (search rules)
    ∙ c.last_short.ensures a.self.figures.now (variables a.looks a.p) a.node s c.figure-x.ensures (length-variables a.looks a.p) in
    subst (λ (rs : List Row). Tested a.self.e f (Ok a.rows) rs c.step-2.result) (window-parts a.kind a.node a.looks a.p)
    (last-tested a.self.e f _ (last_row a.kind a.node (variables a.looks a.p))
    (l.invariant.is ∙ ap (λ (n : ℕ). tested a.self.e f (Ok a.rows) (flat (λ j. slot_row a.kind a.node a.looks a.p j ∷ []) n)) k)
    l.invariant.few (omega arith) d c.step-2.ensures)
