-- `printer::print` meets its contract: a law of the outcome for each return. Assumes nothing.
use mathlib.Core.Path.{refl, sym, subst, ◌∙◌}
use Prim.Native.Nat.{◌-◌, ◌≤◌}
use native.Mathlib.Omega.{arith}
use lib.ListN.{length}
use Rattle.std.proofs.Common.{rules}
use Rattle.printer_node.specs.Shapes.{node_text}
use Rattle.printer.proofs.Outcomes.{atoms-refused, table-refused, some-nodes, printable, long-refused, room-refused, putting, text-printed}
use Rattle.printer.proofs.print.Goals as goal

pub returns-then-not-within : goal.returns-then-not-within
returns-then-not-within c =
    atoms-refused c.args.m c.args.table.now c.args.out.now (sym c.within.ensures ∙ c.if-not-within.true)

pub returns-then-not-good : goal.returns-then-not-good
returns-then-not-good c =
    let m = (sym c.within.ensures ∙ c.if-not-within.false) in
    table-refused c.args.m c.args.table.now c.args.out.now m (sym c.good.ensures ∙ c.if-not-good.true)

pub overflow_sub-root : goal.overflow_sub-root
overflow_sub-root c =
    let m = (sym c.within.ensures ∙ c.if-not-within.false) in
    let g = (sym c.good.ensures ∙ c.if-not-good.false) in
    omega (arith, c.count-root.ensures, some-nodes c.args.m c.args.table.now c.args.out.now m g)

pub spend-requires : goal.spend-requires
spend-requires c =
    let m = (sym c.within.ensures ∙ c.if-not-within.false) in
    let g = (sym c.good.ensures ∙ c.if-not-good.false) in
    (printable c.args.m c.args.table.now c.args.out.now m g, omega (arith, c.count-root.ensures, some-nodes c.args.m c.args.table.now c.args.out.now m g))

pub returns-in_default : goal.returns-in_default
returns-in_default c =
    let m = (sym c.within.ensures ∙ c.if-not-within.false) in
    let g = (sym c.good.ensures ∙ c.if-not-good.false) in
    long-refused c.args.m c.args.table.now c.args.out.now m g c.count-root.result c.count-root.ensures
    (subst (λ k. length (node_text c.args.table.now (c.count-root.result - 1) k) ≤ 1024 → ⊥) c.grade-rule.ensures c.in_default.ensures)

pub returns-then-out-length : goal.returns-then-out-length
returns-then-out-length c =
    let m = (sym c.within.ensures ∙ c.if-not-within.false) in
    let g = (sym c.good.ensures ∙ c.if-not-good.false) in
    room-refused c.args.m c.args.table.now c.args.out.now m g c.count-root.result c.count-root.ensures c.in-Some.rest
    (rw c.grade-rule.ensures at c.in-Some.ensures) _ refl c.if-out-length.true

pub put_node-requires : goal.put_node-requires
put_node-requires c =
    let m = (sym c.within.ensures ∙ c.if-not-within.false) in
    let g = (sym c.good.ensures ∙ c.if-not-good.false) in
    rw c.grade-rule.ensures (putting c.args.m c.args.table.now c.args.out.now m g c.count-root.result c.count-root.ensures c.in-Some.rest
    (rw c.grade-rule.ensures at c.in-Some.ensures) _ refl (omega (arith, c.if-out-length.false)) _ refl refl)

pub returns : goal.returns
returns c =
    let m = (sym c.within.ensures ∙ c.if-not-within.false) in
    let g = (sym c.good.ensures ∙ c.if-not-good.false) in
    let p =
    text-printed c.args.m c.args.table.now c.args.out.now m g c.count-root.result c.count-root.ensures c.in-Some.rest
    (rw c.grade-rule.ensures at c.in-Some.ensures) _ refl (omega (arith, c.if-out-length.false)) (rw c.grade-rule.ensures at c.put_node.ensures).put in
    record { r_value = p.r_value; out_after = search (rules, p.out_after) }
