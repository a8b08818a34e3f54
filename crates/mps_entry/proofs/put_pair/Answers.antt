-- `mps_entry::put_pair` meets its contract. By what the variable is. Assumes nothing.
use Rattle.std.proofs.Common.{arith}
use Rattle.mps_line.specs.Emitted.{emitted-none, emitted_as}
use Rattle.mps_entry.specs.Roles.{pair-own, pair-part, pair-none}
use Rattle.mps_entry.proofs.put_pair.Goals as goal

pub returns-then-v-from : goal.returns-then-v-from
returns-then-v-from c =
    let a = c.args in
    let p = c.put_unit.ensures in
    (emitted_as (pair-own a.v a.i a.node a.p a.up (omega arith) (λ e. omega arith)) p.0, omega (arith, p.1))

pub returns-then-v-from-2 : goal.returns-then-v-from-2
returns-then-v-from-2 c =
    let a = c.args in
    let p = c.put_unit-then-v-from-2.ensures in
    (emitted_as (pair-part a.v a.i a.node a.p a.up (λ e. omega arith) (omega arith)) p.0, omega (arith, p.1))

pub returns : goal.returns
returns c =
    let a = c.args in
    (emitted_as (pair-none a.v a.i a.node a.p a.up (λ e. omega arith) (λ e. omega arith)) (emitted-none _), omega arith)
