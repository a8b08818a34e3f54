-- `mps_columns::put_users` meets its contract. The loop's invariant: the lines of the users passed are put. Assumes nothing.
use Rattle.std.proofs.Common.{◌≡◌, ap, length, get_or, arith}
use Rattle.rules.proofs.TableTest.{length-nodes_in}
use Rattle.mps_line.specs.Emitted.{emitted_as}
use Rattle.mps_line.specs.Turns.{turns_none, turns_more, turns_all}
use Rattle.mps_columns.specs.Plans.{planned_user}
use Rattle.mps_columns.proofs.put_users.Goals as goal

pub loop-user-init : goal.loop-user-init
loop-user-init c = record { put = turns_none _ _; end = omega arith }

pub put_user-requires : goal.put_user-requires
put_user-requires c =
    let p = c.args.part.columns.now.plan in
    let long = length-nodes_in p.m p.table.now in
    let low = c.args.part.found.low c.loop-user.user-index c.loop-user-test.true in
    (omega (arith, c.args.part.found.few), c.requires.1, omega (arith, low, long, c.from.ensures, p.counted))

pub loop-user-preserved : goal.loop-user-preserved
loop-user-preserved c =
    let a = c.args in
    let q = c.put_user.ensures in
    let user = emitted_as (ap (planned_user a.part.columns.now.plan a.variable.v) c.from.ensures) q.0 in
    record {
      put = turns_more (λ j. planned_user a.part.columns.now.plan a.variable.v (get_or a.part.users.now j 0)) _ c.loop-user.invariant.put user;
      end = omega (arith, q.1);
    }

pub returns : goal.returns
returns c =
    let e : c.loop-user.user-index ≡ length c.args.part.users.now = omega arith in
    (turns_all _ _ e c.loop-user.invariant.put, omega (arith, c.args.part.found.few))
