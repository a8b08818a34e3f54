-- `table::looping` meets its contract: what is found is how many of the nodes passed loop. Assumes nothing.
use Rattle.std.proofs.Common.{◌≡◌, ap, ap₂, sym, ◌∙◌, Bool, cond, ℕ, ◌+◌, length, arith}
use Rattle.rules.specs.TableTest.{nodes_in}
use Rattle.rules.proofs.TableTest.{length-nodes_in}
use Rattle.table.specs.Looping.{looping_to, looping-more, looping-few, looping-all}
use Rattle.table.proofs.looping.Goals as goal

pub one_more-found-requires : goal.one_more-found-requires
one_more-found-requires c = omega (arith, looping-few (nodes_in c.args.table.now) c.loop-n.n, c.loop-n.invariant)

pub loop-n-preserved : goal.loop-n-preserved
loop-n-preserved c =
    let ns = nodes_in c.args.table.now in
    let n = length-nodes_in 0 c.args.table.now in
    let more = looping-more ns c.loop-n.n (omega arith) in
    c.one_more-found.ensures ∙ ap₂ (λ (b : Bool) (k : ℕ). cond b (k + 1) k) c.loops_at.ensures c.loop-n.invariant ∙ sym more

pub returns : goal.returns
returns c =
    let ns = nodes_in c.args.table.now in
    let n = length-nodes_in 0 c.args.table.now in
    let k : c.loop-n.n ≡ length ns = omega arith in
    (c.loop-n.invariant ∙ ap (looping_to ns) k ∙ looping-all ns, omega (arith, looping-few ns c.loop-n.n, c.loop-n.invariant))
