-- The slots that another follows, and the last.
use Rattle.std.proofs.Common.{◌≡◌, refl, List, ℕ, ◌+◌, ◌-◌, ◌≤◌, is_some, unwrap_or, ap, subst, arith, rules}
use Rattle.std.proofs.lemmas.Result.{err_from_is_err_and}
use Rattle.rules.specs.Rows.{Row}
use Rattle.rules.specs.Judge.{shortfall}
use Rattle.row.specs.Placed.{variable_limit}
use Rattle.row.specs.NodeRows.{next_of, block_on}
use Rattle.judge_slot.specs.Searches.{over-tested}
use Rattle.judge_search.specs.Slots.{block_last}
use Rattle.judge_search.proofs.followed.Goals as goal

pub returns-in_err-rows : goal.returns-in_err-rows
returns-in_err-rows g c =
    let a = c.args in
    let b = a.block in
    let f = shortfall a.test.figures.now in
    let p = err_from_is_err_and c.from_residual.result c.from_residual.ensures.1 in
    λ l h tests by.
    let rows : ℕ → List Row = λ s. h s (b.own + s + 1) in
    let passing = c.in_err-rows.ensures.passing a.test.e f rows (λ r s x k q. tests r s (b.own + s + 1) x (omega arith) (search rules)) in
    rw (p.1, p.2) (block_last b a.t l c.requires.room.3.0 rows c.requires.room.2 by.inner passing refl (over-tested a.test.e f c.in_err-rows.field-0.0 _))

pub inner-requires : goal.inner-requires
inner-requires g c =
    let next : c.in-Some.next ≤ variable_limit = rw c.in-Some.is at c.requires.room.0.next_low in
    search (rules, c.requires.callable c.in_ok-rows.rows (c.args.t - 1) c.in-Some.next (omega (arith, c.in_ok-rows.ensures.low, c.requires.room.3)) (omega arith) next)

pub test_same-requires : goal.test_same-requires
test_same-requires g c = omega (arith, c.in_ok-rows.ensures.low, c.requires.room.3)

pub returns-in-Some : goal.returns-in-Some
returns-in-Some g c =
    let a = c.args in
    let b = a.block in
    let f = shortfall a.test.figures.now in
    λ l h tests by.
    let rows : ℕ → List Row = λ s. h s (b.own + s + 1) in
    let passing = c.in_ok-rows.ensures.passing a.test.e f rows (λ r s x k q. tests r s (b.own + s + 1) x (omega arith) (search rules)) in
    let next : next_of b ≡ c.in-Some.next = ap (λ o. unwrap_or o 0) c.in-Some.is in
    let last = subst (λ (n : ℕ). h (a.t - 1) n ≡ block_on b a.t l (a.t - 1)) next (by.loops (ap is_some c.in-Some.is)) in
    block_last b a.t l c.requires.room.3.0 rows c.requires.room.2 by.inner passing last (tests _ _ _ _ (omega arith) c.inner.ensures)

pub returns : goal.returns
returns g c =
    let a = c.args in
    let b = a.block in
    let f = shortfall a.test.figures.now in
    λ l h tests by.
    let rows : ℕ → List Row = λ s. h s (b.own + s + 1) in
    let passing = c.in_ok-rows.ensures.passing a.test.e f rows (λ r s x k q. tests r s (b.own + s + 1) x (omega arith) (search rules)) in
    block_last b a.t l c.requires.room.3.0 rows c.requires.room.2 by.inner passing (by.ends (ap is_some c.in-None.is)) c.test_same.ensures
