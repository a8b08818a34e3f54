-- `mps_entry::put_joined` meets its contract. By what the variable is. Assumes nothing.
use Rattle.std.proofs.Common.{arith}
use Rattle.mps_line.specs.Emitted.{emitted-none, emitted_as}
use Rattle.mps_entry.specs.Roles.{join-own, join-both, join_first, join-second, join-none}
use Rattle.mps_entry.proofs.put_joined.Goals as goal

pub returns-then-v-from : goal.returns-then-v-from
returns-then-v-from c =
    let a = c.args in
    let p = c.put_three.ensures in
    (emitted_as (join-own a.v a.i a.spot.own a.spot.left a.q a.up (omega arith) (λ e. omega arith) (λ e. omega arith)) p.0, omega (arith, p.1))

pub returns-then-v-from-3 : goal.returns-then-v-from-3
returns-then-v-from-3 c =
    let a = c.args in
    let p = c.put_both.ensures in
    (emitted_as (join-both a.v a.i a.spot.own a.spot.left a.q a.up (λ e. omega arith) (omega arith) (omega arith)) p.0, omega (arith, p.1))

pub returns-then-v-from-2 : goal.returns-then-v-from-2
returns-then-v-from-2 c =
    let a = c.args in
    let p = c.put_two.ensures in
    (emitted_as (join_first a.v a.i a.spot.own a.spot.left a.q a.up (λ e. omega arith) (omega arith) (λ e. omega arith)) p.0, omega (arith, p.1))

pub returns-then-v-from-4 : goal.returns-then-v-from-4
returns-then-v-from-4 c =
    let a = c.args in
    let p = c.put_two-then-v-from-4.ensures in
    (emitted_as (join-second a.v a.i a.spot.own a.spot.left a.q a.up (λ e. omega arith) (λ e. omega arith) (omega arith)) p.0, omega (arith, p.1))

pub returns : goal.returns
returns c =
    let a = c.args in
    (emitted_as (join-none a.v a.i a.spot.own a.spot.left a.q a.up (λ e. omega arith) (λ e. omega arith) (λ e. omega arith)) (emitted-none _), omega arith)
