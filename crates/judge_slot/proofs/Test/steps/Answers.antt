-- One shortfall more; a search that is over passes the rest.
use Rattle.std.proofs.Common.{◌≡◌, refl, List, [], ℕ, ℤ, suc, ◌+◌, ◌<◌, Ok, pos, get_or, drop, length, sym, ap, ◌∙◌, arith, rules}
use Rattle.std.proofs.Common.{add-one, drop-cons, drop_of_length-le, le_refl}
use Rattle.std.proofs.lemmas.Result.{err_from_is_err_and}
use Rattle.std.specs.Int.{w64}
use Rattle.ints.specs.Stored.{told_back}
use Rattle.judge_slot.specs.Searches.{Search, steps, steps_more, steps-none, steps-stuck, stepped}
use Rattle.judge_slot.proofs.Test.steps.Goals as goal

-- the next of the shortfalls
here : (e : ℕ) (ds : List ℤ) (k : ℕ) (s : Search) → k < length ds → steps e (drop k ds) s ≡ steps e (drop (k + 1) ds) (stepped e (get_or ds k (pos 0)) s)
here e ds k s h = rw (add-one, drop-cons ds k (pos 0)) (steps_more e (get_or ds k (pos 0)) (drop (suc k) ds) s)

pub returns-in_err-rows : goal.returns-in_err-rows
returns-in_err-rows g c =
    let a = c.args in
    let p = err_from_is_err_and c.from_residual.result c.from_residual.ensures.1 in
    rw (p.1, p.2, c.in_err-rows.was) (record { is = sym (steps-stuck a.self.e a.shortfalls c.in_err-rows.field-0.0); by_each = omega arith })

pub loop-shortfall-init : goal.loop-shortfall-init
loop-shortfall-init g c = rw c.in_ok-rows.was (record { same = refl; few = omega arith })

pub returns-in_err-done : goal.returns-in_err-done
returns-in_err-done g c =
    let l = c.loop-shortfall in
    let a = c.args in
    let p = err_from_is_err_and c.from_residual-in_err-done.result c.from_residual-in_err-done.ensures.1 in
    let d = told_back w64 (get_or a.shortfalls l.shortfall-index (pos 0)) (search rules) in
    let within : l.shortfall-index < length a.shortfalls = search rules in
    rw (p.1, p.2) (record {
      is = sym (steps-stuck a.self.e (drop (l.shortfall-index + 1) a.shortfalls) c.in_err-done.field-0.0)
          ∙ ap (steps a.self.e (drop (l.shortfall-index + 1) a.shortfalls)) (c.in_err-done.ensures.is ∙ ap (λ (x : ℤ). stepped a.self.e x (Ok l.done)) d)
          ∙ sym (here a.self.e a.shortfalls l.shortfall-index (Ok l.done) within) ∙ l.invariant.same;
      by_each = omega (arith, c.in_err-done.ensures.by_one);
    })

pub loop-shortfall-preserved : goal.loop-shortfall-preserved
loop-shortfall-preserved g c =
    let l = c.loop-shortfall in
    let a = c.args in
    let d = told_back w64 (get_or a.shortfalls l.shortfall-index (pos 0)) (search rules) in
    let within : l.shortfall-index < length a.shortfalls = search rules in
    record {
      same = ap (steps a.self.e (drop (l.shortfall-index + 1) a.shortfalls)) (c.in_ok-done.ensures.is ∙ ap (λ (x : ℤ). stepped a.self.e x (Ok l.done)) d)
          ∙ sym (here a.self.e a.shortfalls l.shortfall-index (Ok l.done) within) ∙ l.invariant.same;
      few = omega (arith, c.in_ok-done.ensures.by_one);
    }

pub returns : goal.returns
returns g c =
    let l = c.loop-shortfall in
    let a = c.args in
    let over : l.shortfall-index ≡ length a.shortfalls = search rules in
    let none : drop l.shortfall-index a.shortfalls ≡ [] = rw over (drop_of_length-le a.shortfalls (le_refl _)) in
    record {
      is = sym (steps-none a.self.e (Ok l.done)) ∙ ap (λ (ds : List ℤ). steps a.self.e ds (Ok l.done)) (sym none) ∙ l.invariant.same;
      by_each = omega arith;
    }
