-- `evaluator::word_at` meets its contract. Assumes nothing.
use mathlib.Core.Path.{◌≡◌, refl, sym, ◌∙◌}
use mathlib.Core.List.{[]}
use Prim.Native.Nat.{◌<◌}
use native.Mathlib.Omega.{arith}
use Rattle.rules.specs.Table.{node_at}
use Rattle.rules.specs.TableTest.{nodes_in, record_count}
use Rattle.evaluator.specs.Low.{low-atom, low_child, low_word}
use Rattle.evaluator.proofs.word_at.Goals as goal

pub bounds-cols-node : goal.bounds-cols-node
bounds-cols-node c =
    let p = c.args.plan in
    let node = c.node-node in
    let h : c.args.n < record_count p.table.now = omega arith in
    let z : c.height.result ≡ 0 = omega arith in
    low_child p.t 0 0 0 0 [] c.args.words.now [] node.result (node_at (nodes_in p.table.now) c.args.n) node.ensures.is
    (low-atom p.ready c.args.n h (sym c.height.ensures.0 ∙ z)) c.requires.children

pub returns-then-height-eq0 : goal.returns-then-height-eq0
returns-then-height-eq0 c =
    let p = c.args.plan in
    let node = c.node-node in
    let h : c.args.n < record_count p.table.now = omega arith in
    let z : c.height.result ≡ 0 = omega arith in
    λ run m k good cols.
    low_word p.t p.l m k _ run c.args.words.now c.args.cols.now node.result (node_at (nodes_in p.table.now) c.args.n)
    node.ensures.is (low-atom p.ready c.args.n h (sym c.height.ensures.0 ∙ z)) good cols refl

pub returns : goal.returns
returns c =
    let is = c.node-node.ensures.is in
    λ run m k good cols. rw is at (c.node_word.ensures run m k (rw is good) cols)
