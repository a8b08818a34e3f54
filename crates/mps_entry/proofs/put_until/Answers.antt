-- `mps_entry::put_until` meets its contract. By what the variable is. Assumes nothing.
use Rattle.std.proofs.Common.{arith}
use Rattle.mps_line.specs.Emitted.{emitted-none, emitted_as}
use Rattle.mps_entry.specs.Roles.{until-own, until-next, until-both, until-first, until-second, until_none}
use Rattle.mps_entry.proofs.put_until.Goals as goal

pub returns-then-v-from : goal.returns-then-v-from
returns-then-v-from c =
    let a = c.args in
    let p = c.put_own_until.ensures in
    (emitted_as (until-own a.v a.i a.spot.own a.spot.left a.spot.right a.next (omega arith) (λ e. omega arith) (λ e. omega arith) (λ e. omega arith)) p.0, omega (arith, p.1))

pub returns-then-v-from-2 : goal.returns-then-v-from-2
returns-then-v-from-2 c =
    let a = c.args in
    let p = c.put_two.ensures in
    (emitted_as (until-next a.v a.i a.spot.own a.spot.left a.spot.right a.next (λ e. omega arith) (λ e. omega arith) (λ e. omega arith) (omega arith)) p.0, omega (arith, p.1))

pub returns-then-v-q : goal.returns-then-v-q
returns-then-v-q c =
    let a = c.args in
    let p = c.put_both_until.ensures in
    (emitted_as (until-both a.v a.i a.spot.own a.spot.left a.spot.right a.next (λ e. omega arith) (omega arith) (omega arith) (λ e. omega arith)) p.0, omega (arith, p.1))

pub returns-then-v-from-3 : goal.returns-then-v-from-3
returns-then-v-from-3 c =
    let a = c.args in
    let p = c.put_two-then-v-from-3.ensures in
    (emitted_as (until-first a.v a.i a.spot.own a.spot.left a.spot.right a.next (λ e. omega arith) (omega arith) (λ e. omega arith) (λ e. omega arith)) p.0, omega (arith, p.1))

pub returns-then-v-q-2 : goal.returns-then-v-q-2
returns-then-v-q-2 c =
    let a = c.args in
    let p = c.put_three.ensures in
    (emitted_as (until-second a.v a.i a.spot.own a.spot.left a.spot.right a.next (λ e. omega arith) (λ e. omega arith) (omega arith) (λ e. omega arith)) p.0, omega (arith, p.1))

pub returns : goal.returns
returns c =
    let a = c.args in
    (emitted_as (until_none a.v a.i a.spot.own a.spot.left a.spot.right a.next (λ e. omega arith) (λ e. omega arith) (λ e. omega arith) (λ e. omega arith)) (emitted-none _), omega arith)
