-- `evaluator::evaluate` meets its contract. Assumes nothing.
use mathlib.Core.Path.{◌≡◌, refl, sym, ap}
use mathlib.Core.List.{List}
use Prim.Native.Nat.{ℕ, ◌-◌, ◌%◌, ◌≤◌}
use native.Mathlib.Omega.{arith}
use lib.ListN.{length, get_or}
use Rattle.std.proofs.lemmas.Result.{err_from_is_err_and}
use Rattle.rules.specs.Demands.Answer.{answered}
use Rattle.rules.specs.Table.{root}
use Rattle.rules.specs.TableTest.{nodes_in}
use Rattle.rules.proofs.TableTest.{length-nodes_in}
use Rattle.rules.specs.Outcome.{returned}
use Rattle.table.specs.Checks.{passed}
use Rattle.table.specs.Plans.{as_checked}
use Rattle.evaluator.specs.Checks.{own_check, evaluated, nodes-good, workable, outcome_is}
use Rattle.evaluator.specs.Truths.{filled_all, root-bit}
use Rattle.evaluator.proofs.evaluate.Goals as goal

pub returns-in_err-plan-clause-r_value : goal.returns-in_err-plan-clause-r_value
returns-in_err-plan-clause-r_value c =
    let e = err_from_is_err_and c.from_residual.result c.from_residual.ensures.1 in
    rw (outcome_is _ _ _ _ _ _, c.in_err-plan.ensures, e.1, e.2) refl

pub returns-in_err-plan-clause-out_after : goal.returns-in_err-plan-clause-out_after
returns-in_err-plan-clause-out_after c = rw (outcome_is _ _ _ _ _ _, c.in_err-plan.ensures) refl

pub returns-in_err-own_check-clause-r_value : goal.returns-in_err-own_check-clause-r_value
returns-in_err-own_check-clause-r_value c =
    let e = err_from_is_err_and c.from_residual-in_err-own_check.result c.from_residual-in_err-own_check.ensures.1 in
    let h = c.in_ok-plan.ensures in
    rw (outcome_is _ _ _ _ _ _, h.passed, sym h.same_t, sym h.same_m, sym h.same_table, sym c.in_err-own_check.ensures, e.1, e.2) refl

pub returns-in_err-own_check-clause-out_after : goal.returns-in_err-own_check-clause-out_after
returns-in_err-own_check-clause-out_after c =
    let h = c.in_ok-plan.ensures in
    rw (outcome_is _ _ _ _ _ _, h.passed, sym h.same_t, sym h.same_m, sym h.same_table, sym c.in_err-own_check.ensures) refl

pub work-requires : goal.work-requires
work-requires c =
    let p = c.in_ok-plan.plan in
    workable p.t p.m p.table.now c.args.run.now (length c.args.out.now) (sym c.in_ok-own_check.ensures)

pub bounds-out-plan : goal.bounds-out-plan
bounds-out-plan c =
    let p = c.in_ok-plan.plan in
    let w = workable p.t p.m p.table.now c.args.run.now (length c.args.out.now) (sym c.in_ok-own_check.ensures) in
    omega (arith, c.work.ensures.same)

pub returns-clause-r_value : goal.returns-clause-r_value
returns-clause-r_value c =
    let p = c.in_ok-plan.plan in
    let h = c.in_ok-plan.ensures in
    let ns = nodes_in p.table.now in
    let n = length-nodes_in p.m p.table.now in
    let last : p.nodes - 1 ≡ root ns = omega arith in
    let bit = root-bit p.t p.l (p.ready.loop-low, p.ready.loop-high) p.m c.args.run.now ns (nodes-good p.ready) c.args.out.now _ c.work.ensures _ (omega arith) last in
    let said = λ (T M L : ℕ) (table : List ℕ). answered (get_or c.work.new.out (p.nodes - 1) 0 % 2) ≡ returned (evaluated T L table c.args.run.now) in
    rw (outcome_is _ _ _ _ _ _, h.passed, as_checked (λ T M L table. own_check T M table c.args.run.now (length c.args.out.now) ≡ passed) h (sym c.in_ok-own_check.ensures))
    (as_checked said h (ap answered bit))

pub returns-clause-out_after : goal.returns-clause-out_after
returns-clause-out_after c =
    let p = c.in_ok-plan.plan in
    let h = c.in_ok-plan.ensures in
    let w = workable p.t p.m p.table.now c.args.run.now (length c.args.out.now) (sym c.in_ok-own_check.ensures) in
    let ns = nodes_in p.table.now in
    let room : length ns ≤ length c.args.out.now = omega (arith, length-nodes_in p.m p.table.now) in
    rw (outcome_is _ _ _ _ _ _, h.passed, sym h.same_t, sym h.same_m, sym h.same_l, sym h.same_table, sym c.in_ok-own_check.ensures)
    (filled_all p.t p.l (p.ready.loop-low, p.ready.loop-high) p.m c.args.run.now ns (nodes-good p.ready) c.args.out.now _ c.work.ensures room)
