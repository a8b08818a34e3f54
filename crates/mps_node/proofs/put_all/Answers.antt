-- `mps_node::put_all` meets its contract. The lines of the nodes passed are put; the goal row's comes last. Assumes nothing.
use Rattle.std.proofs.Common.{◌≡◌, refl, sym, ap, ap₂, ◌∙◌, Bool, cond, ℕ, ◌+◌, ◌*◌, ◌≤◌, length, arith}
use Rattle.rules.specs.TableTest.{nodes_in}
use Rattle.rules.proofs.TableTest.{length-nodes_in}
use Rattle.mps.specs.Page.{each_row}
use Rattle.table.specs.Looping.{looping_to, looping-more, looping-few}
use Rattle.table.specs.declared.plan.Plan.{Plan}
use Rattle.row.specs.NodeRows.{rows_to, goal-is}
use Rattle.mps_line.specs.Bounds.{row_limit}
use Rattle.mps_line.specs.Emitted.{emitted_as}
use Rattle.mps_row.specs.Texts.{line_of}
use Rattle.mps_row.specs.Laws.{start_small}
use Rattle.mps_node.specs.Turns.{no_nodes, one-node, all-nodes, blocks-rows, node-count}
use Rattle.mps_node.proofs.put_all.Goals as goal

-- how far the numbers of the rows go
rows-few : (p : Plan) (n : ℕ) → n ≤ p.nodes → length (rows_to p.t p.m p.l (nodes_in p.table.now) n) ≤ row_limit
rows-few p n h = start_small p.t p.m p.l (nodes_in p.table.now) n p.ready.slots-high (omega (arith, h, p.counted, p.ready.few-nodes))

pub loop-n-init : goal.loop-n-init
loop-n-init c =
    let p = c.args.plan in
    (omega arith, refl, no_nodes p.t p.m p.l (nodes_in p.table.now) (line_of c.args.text) c.args.page.now)

pub overflow_add-plan-in-loop-n : goal.overflow_add-plan-in-loop-n
overflow_add-plan-in-loop-n c =
    record { fits = omega (arith, looping-few (nodes_in c.args.plan.table.now) c.loop-n.n, c.args.plan.ready.few-nodes, c.args.plan.ready.atoms-high) }

pub first_variable-v-requires : goal.first_variable-v-requires
first_variable-v-requires c =
    let r = c.args.plan.ready in
    (omega (arith, looping-few (nodes_in c.args.plan.table.now) c.loop-n.n, r.few-nodes, r.atoms-high), r.slots-high)

pub blocks_at-blocks-requires : goal.blocks_at-blocks-requires
blocks_at-blocks-requires c =
    let p = c.args.plan in
    let ns = nodes_in p.table.now in
    let e : p.m + p.nodes + c.loop-n.looping ≡ p.m + (length ns + looping_to ns c.loop-n.n) =
    omega (arith, length-nodes_in p.m p.table.now, p.counted, c.loop-n.invariant.1) in
    (omega arith, c.first_variable-v.ensures.0 ∙ ap (λ (x : ℕ). x * p.t) e)

pub put_node-requires : goal.put_node-requires
put_node-requires c =
    let r = c.args.plan.ready in
    let b = c.blocks_at-blocks.ensures in (
      omega (arith, r.few-nodes),
      c.requires.1,
      omega (arith, rows-few c.args.plan c.loop-n.n (omega arith), c.loop-n.invariant.2.numbered),
      r.loop-low,
      r.loop-high,
      r.slots-high,
      b.own-fit,
      b.kept-fit,
    )

pub overflow_add-first : goal.overflow_add-first
overflow_add-first c =
    let few = rows-few c.args.plan c.loop-n.n (omega arith) in
    record { fits = omega (arith, few, c.loop-n.invariant.2.numbered, c.node_count-first.ensures.1, c.args.plan.ready.slots-high) }

pub one_more-looping-requires : goal.one_more-looping-requires
one_more-looping-requires c =
    omega (arith, looping-few (nodes_in c.args.plan.table.now) c.loop-n.n, c.args.plan.ready.few-nodes)

pub loop-n-preserved : goal.loop-n-preserved
loop-n-preserved c =
    let l = c.loop-n in
    let a = c.args.plan in
    let ns = nodes_in a.table.now in
    let b = c.blocks_at-blocks.ensures in
    let p = c.put_node.ensures in
    let line = line_of c.args.text in
    let low = a.ready.slots-low in
    let more = looping-more ns l.n (omega (arith, length-nodes_in a.m a.table.now, a.counted)) in
    let rows = ap (each_row line l.first) (blocks-rows a.t a.m a.l ns line c.args.page.now b low) in
    let long = c.node_count-first.ensures.0 ∙ sym (node-count a.t a.m a.l ns line c.args.page.now b low) in (
      omega (arith, p.1),
      c.one_more-looping.ensures ∙ ap₂ (λ (x : Bool) (k : ℕ). cond x (k + 1) k) c.loops.ensures l.invariant.1 ∙ sym more,
      one-node a.t a.m a.l ns line c.args.page.now l.n l.invariant.2 (emitted_as rows p.0) (ap (λ (x : ℕ). l.first + x) long),
    )

pub put_row-requires : goal.put_row-requires
put_row-requires c =
    (omega (arith, c.args.plan.ready.few-nodes), c.requires.1, omega (arith, rows-few c.args.plan c.loop-n.n (omega arith), c.loop-n.invariant.2.numbered))

pub returns : goal.returns
returns c =
    let a = c.args.plan in
    let ns = nodes_in a.table.now in
    let e : length ns ≡ a.nodes = length-nodes_in a.m a.table.now ∙ sym a.counted in
    let n : c.loop-n.n ≡ a.nodes = omega arith in
    let goal = c.goal-goal.ensures ∙ goal-is a.t a.m a.l ns a.nodes e c.slack.ensures in
    let p = c.put_row.ensures in (
      all-nodes a.t a.m a.l ns (line_of c.args.text) c.args.page.now e (rw n at c.loop-n.invariant.2) goal p.0,
      omega (arith, p.1, a.ready.few-nodes),
    )
