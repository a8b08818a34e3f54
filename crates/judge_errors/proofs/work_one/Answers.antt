-- By what the kind counts.
use Rattle.std.proofs.Common.{◌≡◌, List, ℕ, ◌+◌, ◌*◌, ◌≤◌, ◌<◌, length, sym, ap, ◌∙◌, arith}
use Rattle.rules.specs.Table.{Node, NodeGood, node_at}
use Rattle.rules.specs.TableTest.{record_count, nodes_in}
use Rattle.rules.proofs.TableTest.{length-nodes_in}
use Rattle.table.specs.declared.Node as Declared
use Rattle.table.specs.declared.plan.Plan.{Plan}
use Rattle.table.specs.Nodes.{node_of}
use Rattle.judge_errors.specs.declared.Parts.{Parts}
use Rattle.judge_errors.specs.declared.Counting.{Counting}
use Rattle.judge_errors.specs.declared.Counting.TheVariants.{Atom, Here, Later, Window}
use Rattle.judge_errors.specs.Worked.{Room, worked_as}
use Rattle.judge_errors.specs.Count.{counting_of, parts_of, figure_now, figure_by, GoodBy, good-found, figure-found}
use Rattle.judge_errors.specs.Known.{countable}
use Rattle.judge_errors.proofs.work_one.Goals as goal

-- its places
room : (plan : Plan) {n : ℕ} {m : List ℕ} → n < record_count plan.table.now → n * plan.t + plan.t ≤ length m → Room plan.t n m
room plan h i = record { inside = i; nodes = omega (arith, plan.ready.few-nodes); slots = plan.ready.slots-high }

-- node nd, as it was read; k is what it counts, and p its parts
module _ (plan : Plan) (nd : Declared.Node) (k : Counting) {c : Counting} {p : Parts} (told : c ≡ k) (is : c ≡ counting_of nd.kind)
    (at : p ≡ parts_of nd.kind nd.left nd.right) (n : ℕ) (read : node_of nd ≡ node_at (nodes_in plan.table.now) n) where
  -- what it counts is there
  good : n < record_count plan.table.now → GoodBy k n p nd.from nd.to
  good h =
      let inside : n < length (nodes_in plan.table.now) = omega (arith, length-nodes_in 16 plan.table.now) in
      let node-good : NodeGood 16 n (node_of nd) = rw read ((countable plan.t plan.m plan.l plan.table.now plan.ready).good n inside) in
      good-found nd.kind k p nd.left nd.right nd.from nd.to (sym told ∙ is) at 16 n node-good

  -- and comes to the node's error figure
  figure : (e : ℕ) (m : List ℕ) (s x : ℕ) → figure_by k plan.t plan.l e m p nd.from nd.to s x ≡ figure_now plan.t plan.l e m (node_at (nodes_in plan.table.now) n) s x
  figure e m s x =
      figure-found nd.kind k p nd.left nd.right nd.from nd.to (sym told ∙ is) at plan.t plan.l e m s x
      ∙ ap (λ (y : Node). figure_now plan.t plan.l e m y s x) read

pub work_here-requires : goal.work_here-requires
work_here-requires c =
    let a = c.args in
    let nd = c.node-node in
    let g = good a.plan nd.result Here c.in-Here.is c.counted_by.ensures c.parts_of-parts.ensures a.n nd.ensures.is c.requires.0 in
    (room a.plan c.requires.0 c.requires.1, c.requires.2, g)

pub work_later-requires : goal.work_later-requires
work_later-requires c =
    let a = c.args in
    let nd = c.node-node in
    let g = good a.plan nd.result Later c.in-Later.is c.counted_by.ensures c.parts_of-parts.ensures a.n nd.ensures.is c.requires.0 in
    (room a.plan c.requires.0 c.requires.1, c.requires.2, g, (a.plan.ready.loop-low, a.plan.ready.loop-high))

pub work_window-requires : goal.work_window-requires
work_window-requires c =
    let a = c.args in
    let nd = c.node-node in
    let g = good a.plan nd.result Window c.in-Window.is c.counted_by.ensures c.parts_of-parts.ensures a.n nd.ensures.is c.requires.0 in
    (room a.plan c.requires.0 c.requires.1, c.requires.2, g.0, g.1, (a.plan.ready.loop-low, a.plan.ready.loop-high))

pub returns-in-Atom : goal.returns-in-Atom
returns-in-Atom c =
    let a = c.args in
    let nd = c.node-node in
    let w = c.work_atom.ensures in
    (worked_as (figure a.plan nd.result Atom c.in-Atom.is c.counted_by.ensures c.parts_of-parts.ensures a.n nd.ensures.is a.e a.figures.now) w.0, w.1)

pub returns-in-Here : goal.returns-in-Here
returns-in-Here c =
    let a = c.args in
    let nd = c.node-node in
    let w = c.work_here.ensures in
    (worked_as (figure a.plan nd.result Here c.in-Here.is c.counted_by.ensures c.parts_of-parts.ensures a.n nd.ensures.is a.e a.figures.now) w.0, w.1)

pub returns-in-Later : goal.returns-in-Later
returns-in-Later c =
    let a = c.args in
    let nd = c.node-node in
    let w = c.work_later.ensures in
    (worked_as (figure a.plan nd.result Later c.in-Later.is c.counted_by.ensures c.parts_of-parts.ensures a.n nd.ensures.is a.e a.figures.now) w.0, w.1)

pub returns-in-Window : goal.returns-in-Window
returns-in-Window c =
    let a = c.args in
    let nd = c.node-node in
    let w = c.work_window.ensures in
    (worked_as (figure a.plan nd.result Window c.in-Window.is c.counted_by.ensures c.parts_of-parts.ensures a.n nd.ensures.is a.e a.figures.now) w.0, w.1)
