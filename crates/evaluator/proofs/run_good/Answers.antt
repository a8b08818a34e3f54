-- `evaluator::run_good` meets its contract. Assumes nothing.
use mathlib.Core.Path.{◌≡◌, refl, sym, ap₂, ◌∙◌}
use Prim.Native.Nat.{◌*◌, ◌%◌, ◌^◌, ◌≤◌}
use native.Mathlib.Nat.{one-mul, mod-eq_of_lt, pow-le-pow_right}
use native.Mathlib.Omega.{arith}
use borrow.Author.Tests.{eq-eqb, ne_eqb}
use lib.Dec.{ltb}
use lib.ListN.{length}
use Rattle.rules.specs.Outcome.{run_good}
use Rattle.evaluator.specs.Runs.{seen_none, seen_more}
use Rattle.evaluator.proofs.run_good.Goals as goal

pub returns-then-run-t : goal.returns-then-run-t
unfolding run_good
returns-then-run-t c = simp (ne_eqb _ _ c.if-run-t.true)

pub loop-number-init : goal.loop-number-init
loop-number-init c = seen_none c.args.m c.args.run.now

pub loop-number-preserved : goal.loop-number-preserved
loop-number-preserved c =
    let l = c.loop-number in
    seen_more c.args.m c.args.run.now l.number-index l.seen _ l.invariant refl

pub returns : goal.returns
unfolding run_good
returns c =
    let l = c.loop-number in
    let small : 2 ^ c.args.m ≤ 65536 = pow-le-pow_right (omega arith) c.requires in
    let limit : 1 * 2 ^ c.args.m % 4294967296 ≡ 2 ^ c.args.m = rw one-mul (mod-eq_of_lt (omega arith)) in
    let z : l.number-index ≡ length c.args.run.now = omega arith in
    ap₂ ltb c.from.ensures limit ∙ sym (simp (eq-eqb _ _ c.if-run-t.false) (rw z at l.invariant))
