-- `mps_entry::put_implies` meets its contract. By what the variable is. Assumes nothing.
use Rattle.std.proofs.Common.{arith}
use Rattle.mps_line.specs.Emitted.{emitted-none, emitted_as}
use Rattle.mps_entry.specs.Roles.{implies_own, implies_both, implies_first, implies_second, implies_none}
use Rattle.mps_entry.proofs.put_implies.Goals as goal

pub returns-then-v-from : goal.returns-then-v-from
returns-then-v-from c =
    let a = c.args in
    let p = c.put_three.ensures in
    (emitted_as (implies_own a.v a.i a.spot.own a.spot.left a.spot.right (omega arith) (λ e. omega arith) (λ e. omega arith)) p.0, omega (arith, p.1))

pub returns-then-v-q : goal.returns-then-v-q
returns-then-v-q c =
    let a = c.args in
    let p = c.put_two.ensures in
    (emitted_as (implies_both a.v a.i a.spot.own a.spot.left a.spot.right (λ e. omega arith) (omega arith) (omega arith)) p.0, omega (arith, p.1))

pub returns-then-v-from-2 : goal.returns-then-v-from-2
returns-then-v-from-2 c =
    let a = c.args in
    let p = c.put_two-then-v-from-2.ensures in
    (emitted_as (implies_first a.v a.i a.spot.own a.spot.left a.spot.right (λ e. omega arith) (omega arith) (λ e. omega arith)) p.0, omega (arith, p.1))

pub returns-then-v-q-2 : goal.returns-then-v-q-2
returns-then-v-q-2 c =
    let a = c.args in
    let p = c.put_two-then-v-q-2.ensures in
    (emitted_as (implies_second a.v a.i a.spot.own a.spot.left a.spot.right (λ e. omega arith) (λ e. omega arith) (omega arith)) p.0, omega (arith, p.1))

pub returns : goal.returns
returns c =
    let a = c.args in
    (emitted_as (implies_none a.v a.i a.spot.own a.spot.left a.spot.right (λ e. omega arith) (λ e. omega arith) (λ e. omega arith)) (emitted-none _), omega arith)
