-- `mps_users::find_users` meets its contract. The loop's invariant: the users among the nodes passed are written and counted. Assumes nothing.
use Rattle.std.proofs.Common.{◌≡◌, sym, ap, ◌∙◌, arith}
use Rattle.rules.specs.TableTest.{nodes_in}
use Rattle.rules.proofs.TableTest.{length-nodes_in}
use Rattle.mps_users.specs.Users.{has_part, uses}
use Rattle.mps_users.specs.Finding.{found_none, found-more, found-same, found_all, uses-part}
use Rattle.mps_users.proofs.find_users.Goals as goal
use Rattle.mps_users.proofs.find_users.Goals.{then-is_used, else-is_used}

pub loop-i-init : goal.loop-i-init
loop-i-init c = found_none _ _ _ _

pub loop-i-preserved : goal.loop-i-preserved
loop-i-preserved c =
    let p = c.args.plan in
    let i = c.loop-i.i in
    let d = c.loop-i.invariant in
    let long = length-nodes_in p.m p.table.now in
    let e : c.is_used.result ≡ uses p.m (nodes_in p.table.now) c.args.x i =
    c.is_used.ensures ∙ ap (has_part p.m c.args.x i) c.node.ensures.is ∙ sym (uses-part p.m (nodes_in p.table.now) c.args.x i (omega (arith, long))) in
    elim c.if-is_used.branch [
      | then-is_used w ↦ found-more d (sym e ∙ w.if-is_used.true) (omega arith) w.users-is w.count-is
      | else-is_used w ↦ found-same d (sym e ∙ w.if-is_used.false) w.users-is w.count-is
    ]

pub returns : goal.returns
returns c =
    let long = length-nodes_in c.args.plan.m c.args.plan.table.now in
    found_all c.loop-i.invariant (omega arith) (omega arith)
