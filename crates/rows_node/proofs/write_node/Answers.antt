-- `rows_node::write_node` meets its contract: by the kind.
use Rattle.std.proofs.Common.{◌≡◌, true, refl, sym, rules, arith}
use Rattle.table.specs.Ends.{has_window}
use Rattle.table.specs.declared.Kind.TheVariants.{Atom, Not, And, Or, Implies, Eventually, Always, Until}
use Rattle.cursor.specs.Puts.{said}
use Rattle.rows_family.specs.Put.{one-room}
use Rattle.rows_node.specs.Blocks.{family, node-plain, node-all, node-window}
use Rattle.rows_node.proofs.write_node.Goals as goal

pub write_slots-requires-clause-puts : goal.write_slots-requires-clause-puts
write_slots-requires-clause-puts c =
    let a = c.args in
    let is = node-plain a.t a.l a.v a.own c.in-Atom.is refl (λ inner P p q P' P'' vs. refl) in
    (family Atom, search rules, one-room a.out.now is c.requires.own_in_bounds)

pub returns-in-Atom : goal.returns-in-Atom
returns-in-Atom c =
    let a = c.args in
    let is = node-plain a.t a.l a.v a.own c.in-Atom.is refl (λ inner P p q P' P'' vs. refl) in
    said (sym is) (c.write_slots.ensures (family Atom) (search rules) (one-room a.out.now is c.requires.own_in_bounds))

pub write_slots-requires-in-Not-clause-puts : goal.write_slots-requires-in-Not-clause-puts
write_slots-requires-in-Not-clause-puts c =
    let a = c.args in
    let is = node-plain a.t a.l a.v a.own c.in-Not.is refl (λ inner P p q P' P'' vs. refl) in
    (family Not, search rules, one-room a.out.now is c.requires.own_in_bounds)

pub returns-in-Not : goal.returns-in-Not
returns-in-Not c =
    let a = c.args in
    let is = node-plain a.t a.l a.v a.own c.in-Not.is refl (λ inner P p q P' P'' vs. refl) in
    said (sym is) (c.write_slots-in-Not.ensures (family Not) (search rules) (one-room a.out.now is c.requires.own_in_bounds))

pub write_slots-requires-in-And-clause-puts : goal.write_slots-requires-in-And-clause-puts
write_slots-requires-in-And-clause-puts c =
    let a = c.args in
    let is = node-plain a.t a.l a.v a.own c.in-And.is refl (λ inner P p q P' P'' vs. refl) in
    (family And, search rules, one-room a.out.now is c.requires.own_in_bounds)

pub returns-in-And : goal.returns-in-And
returns-in-And c =
    let a = c.args in
    let is = node-plain a.t a.l a.v a.own c.in-And.is refl (λ inner P p q P' P'' vs. refl) in
    said (sym is) (c.write_slots-in-And.ensures (family And) (search rules) (one-room a.out.now is c.requires.own_in_bounds))

pub write_slots-requires-in-Or-clause-puts : goal.write_slots-requires-in-Or-clause-puts
write_slots-requires-in-Or-clause-puts c =
    let a = c.args in
    let is = node-plain a.t a.l a.v a.own c.in-Or.is refl (λ inner P p q P' P'' vs. refl) in
    (family Or, search rules, one-room a.out.now is c.requires.own_in_bounds)

pub returns-in-Or : goal.returns-in-Or
returns-in-Or c =
    let a = c.args in
    let is = node-plain a.t a.l a.v a.own c.in-Or.is refl (λ inner P p q P' P'' vs. refl) in
    said (sym is) (c.write_slots-in-Or.ensures (family Or) (search rules) (one-room a.out.now is c.requires.own_in_bounds))

pub write_slots-requires-in-Implies-clause-puts : goal.write_slots-requires-in-Implies-clause-puts
write_slots-requires-in-Implies-clause-puts c =
    let a = c.args in
    let is = node-plain a.t a.l a.v a.own c.in-Implies.is refl (λ inner P p q P' P'' vs. refl) in
    (family Implies, search rules, one-room a.out.now is c.requires.own_in_bounds)

pub returns-in-Implies : goal.returns-in-Implies
returns-in-Implies c =
    let a = c.args in
    let is = node-plain a.t a.l a.v a.own c.in-Implies.is refl (λ inner P p q P' P'' vs. refl) in
    said (sym is) (c.write_slots-in-Implies.ensures (family Implies) (search rules) (one-room a.out.now is c.requires.own_in_bounds))

pub write_both-requires-clause-puts : goal.write_both-requires-clause-puts
write_both-requires-clause-puts c =
    let a = c.args in
    let is = node-all a.t a.l a.v a.own (omega arith) a.own.left c.in-Eventually.is refl (λ P p q P' vs. refl) (λ P P' vs. refl) in
    (family Eventually, search rules, one-room a.out.now is c.requires.own_in_bounds)

pub returns-in-Eventually : goal.returns-in-Eventually
returns-in-Eventually c =
    let a = c.args in
    let is = node-all a.t a.l a.v a.own (omega arith) a.own.left c.in-Eventually.is refl (λ P p q P' vs. refl) (λ P P' vs. refl) in
    said (sym is) (c.write_both.ensures (family Eventually) (search rules) (one-room a.out.now is c.requires.own_in_bounds))

pub write_both-requires-in-Always-clause-puts : goal.write_both-requires-in-Always-clause-puts
write_both-requires-in-Always-clause-puts c =
    let a = c.args in
    let is = node-all a.t a.l a.v a.own (omega arith) a.own.left c.in-Always.is refl (λ P p q P' vs. refl) (λ P P' vs. refl) in
    (family Always, search rules, one-room a.out.now is c.requires.own_in_bounds)

pub returns-in-Always : goal.returns-in-Always
returns-in-Always c =
    let a = c.args in
    let is = node-all a.t a.l a.v a.own (omega arith) a.own.left c.in-Always.is refl (λ P p q P' vs. refl) (λ P P' vs. refl) in
    said (sym is) (c.write_both-in-Always.ensures (family Always) (search rules) (one-room a.out.now is c.requires.own_in_bounds))

pub write_both-requires-in-Until-clause-puts : goal.write_both-requires-in-Until-clause-puts
write_both-requires-in-Until-clause-puts c =
    let a = c.args in
    let is = node-all a.t a.l a.v a.own (omega arith) a.own.right c.in-Until.is refl (λ P p q P' vs. refl) (λ P P' vs. refl) in
    (family Until, search rules, one-room a.out.now is c.requires.own_in_bounds)

pub returns-in-Until : goal.returns-in-Until
returns-in-Until c =
    let a = c.args in
    let is = node-all a.t a.l a.v a.own (omega arith) a.own.right c.in-Until.is refl (λ P p q P' vs. refl) (λ P P' vs. refl) in
    said (sym is) (c.write_both-in-Until.ensures (family Until) (search rules) (one-room a.out.now is c.requires.own_in_bounds))

pub write_windows-requires-clause-block_in_bounds : goal.write_windows-requires-clause-block_in_bounds
write_windows-requires-clause-block_in_bounds c =
    let a = c.args in
    let w : has_window a.own.kind ≡ true = search rules in
    one-room a.out.now (node-window a.t a.l a.v a.own w) c.requires.own_in_bounds

pub returns-in-Within : goal.returns-in-Within
returns-in-Within c =
    let a = c.args in
    let w : has_window a.own.kind ≡ true = search rules in
    said (sym (node-window a.t a.l a.v a.own w)) c.write_windows.ensures
