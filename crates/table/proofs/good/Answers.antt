-- `table::good` meets its contract: the records passed are good. Assumes nothing.
use Rattle.std.proofs.Common.{◌≡◌, sym, ◌∙◌, ◌<◌, arith}
use mathlib.Core.Bool.{and-false}
use Rattle.lists.specs.All.{all_iff, all_none, all_more, all-fails}
use Rattle.rules.specs.TableTest.{record_good, record_count, good}
use Rattle.rules.proofs.TableTest.{first-height}
use Rattle.table.proofs.good.Goals as goal

pub returns-then-not-size_good : goal.returns-then-not-size_good
unfolding good
returns-then-not-size_good c = rw (sym c.size_good.ensures ∙ c.if-not-size_good.true)

pub loop-n-init : goal.loop-n-init
loop-n-init c = all_none _

pub record_good-requires-clause-first_low : goal.record_good-requires-clause-first_low
record_good-requires-clause-first_low c h =
    let a = c.args in
    first-height a.m a.table.now ((all_iff (record_good a.m a.table.now) c.loop-n.n).0 (rw c.loop-n.invariant tt) 0 (omega arith))

pub returns-then-not-record_good : goal.returns-then-not-record_good
unfolding good
returns-then-not-record_good c =
    let a = c.args in
    let e = (sym c.record_good.ensures ∙ c.if-not-record_good.true) in
    let h : c.loop-n.n < record_count a.table.now = omega arith in
    simp (all-fails (record_good a.m a.table.now) _ _ h e, and-false)

pub loop-n-preserved : goal.loop-n-preserved
loop-n-preserved c = all_more _ _ c.loop-n.invariant (sym c.record_good.ensures ∙ c.if-not-record_good.false)

pub returns : goal.returns
unfolding good
returns c =
    let q : c.loop-n.n ≡ record_count c.args.table.now = omega arith in
    simp ((sym c.size_good.ensures ∙ c.if-not-size_good.false), rw q at c.loop-n.invariant)
