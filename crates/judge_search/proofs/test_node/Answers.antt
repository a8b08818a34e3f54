-- One block more; a search that is over passes the rest.
use Rattle.std.proofs.Common.{◌≡◌, refl, ℕ, Ok, subst, arith}
use Rattle.std.proofs.lemmas.Result.{err_from_is_err_and}
use Rattle.rules.specs.Judge.{shortfall}
use Rattle.judge_search.specs.Blocks.{nth-ready, Testing, testing_start, testing_more, testing_none, testing_over, part-tested}
use Rattle.judge_search.proofs.test_node.Goals as goal
use Rattle.judge_search.proofs.test_node.Goals.{in-Some+in_ok-rows, in_default}

pub loop-i-init : goal.loop-i-init
loop-i-init c = testing_start _ _ _ _ _ _ _

pub test_block-requires : goal.test_block-requires
test_block-requires c = (nth-ready c.requires.0 (omega arith) c.in-Some.ensures, omega (arith, c.requires.1, c.loop-i.invariant.few))

pub returns-in_err-rows : goal.returns-in_err-rows
returns-in_err-rows c =
    let a = c.args in
    let e = a.test.test.e in
    let f = shortfall a.test.test.figures.now in
    let l = c.loop-i in
    let p = err_from_is_err_and c.from_residual.result c.from_residual.ensures.1 in
    let o = c.in_err-rows.ensures in
    let more = testing_more a.t a.l a.block a.v e f (Ok a.count) l.i (omega arith) l.invariant c.in-Some.ensures o.is o.few in
    let all = testing_over a.t a.l a.block a.v e f (Ok a.count) l.i (omega arith) more refl in
    rw (p.1, p.2) (record { is = λ m n ns own. part-tested a.t m a.l ns n a.v a.block own e f (Ok a.count) all; few = omega (arith, all.few) })

pub loop-i-preserved : goal.loop-i-preserved
loop-i-preserved c =
    let a = c.args in
    let e = a.test.test.e in
    let f = shortfall a.test.test.figures.now in
    let l = c.loop-i in
    elim c.match-nth_block.branch [
      | in-Some+in_ok-rows w ↦ rw w.rows-is (testing_more a.t a.l a.block a.v e f (Ok a.count) l.i (omega arith) l.invariant w.in-Some.ensures
          w.in_ok-rows.ensures.is w.in_ok-rows.ensures.few)
      | in_default w ↦ rw w.rows-is (testing_none a.t a.l a.block a.v e f (Ok a.count) l.i l.invariant (rw w.in_default.is at c.nth_block.ensures))
    ]

pub returns : goal.returns
returns c =
    let a = c.args in
    let e = a.test.test.e in
    let f = shortfall a.test.test.figures.now in
    let l = c.loop-i in
    let end : l.i ≡ 2 = omega arith in
    let all = subst (λ (i : ℕ). Testing a.t a.l a.block a.v e f (Ok a.count) i (Ok l.rows)) end l.invariant in
    record { is = λ m n ns own. part-tested a.t m a.l ns n a.v a.block own e f (Ok a.count) all; few = omega (arith, all.few) }
