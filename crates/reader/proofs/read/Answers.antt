-- `reader::read` meets its contract: a law of the outcome for each return.
use Rattle.std.proofs.Common.{◌≡◌, arith, refl, sym, ◌∙◌, true}
use Rattle.std.proofs.lemmas.List.{length-take-le}
use Rattle.rules.specs.Outcome.{between}
use Rattle.reader.proofs.Outcomes.{range-test, atoms-refused, too_long, no_rule, more-text, atom_too_high, window-refused, many_nodes}
use Rattle.reader.proofs.Outcomes.{small-buffer, part_length, all_read}
use Rattle.reader.proofs.read.Goals as goal

pub returns-then-not-contains : goal.returns-then-not-contains
returns-then-not-contains c =
    let n = c.new.ensures in
    atoms-refused c.args.m c.args.text.now c.args.out.now
    (sym (range-test 1 16 c.args.m) ∙ sym (rw (n.start, n.end, n.exhausted) at c.if-not-contains.ensures.value))

pub returns-then-text-gt1024 : goal.returns-then-text-gt1024
returns-then-text-gt1024 c =
    let n = c.new.ensures in
    let m : between 1 16 c.args.m ≡ true = sym (range-test 1 16 c.args.m) ∙ sym (rw (n.start, n.end, n.exhausted) at c.if-not-contains.ensures.value) in
    too_long c.args.m c.args.text.now c.args.out.now m c.if-text-gt1024.true

pub returns-in_default : goal.returns-in_default
returns-in_default c =
    let n = c.new.ensures in
    let m : between 1 16 c.args.m ≡ true = sym (range-test 1 16 c.args.m) ∙ sym (rw (n.start, n.end, n.exhausted) at c.if-not-contains.ensures.value) in
    no_rule c.args.m c.args.text.now c.args.out.now m c.if-text-gt1024.false _ c.whole.new.out c.in_default.ensures

pub returns-then-from-text : goal.returns-then-from-text
returns-then-from-text c =
    let n = c.new.ensures in
    let m : between 1 16 c.args.m ≡ true = sym (range-test 1 16 c.args.m) ∙ sym (rw (n.start, n.end, n.exhausted) at c.if-not-contains.ensures.value) in
    more-text c.args.m c.args.text.now c.args.out.now m c.if-text-gt1024.false _ c.whole.new.out _ c.in-Some.ensures (rw (c.from.ensures, c.next.ensures) at c.if-from-text.true)

pub returns-then-m-from : goal.returns-then-m-from
returns-then-m-from c =
    let n = c.new.ensures in
    let m : between 1 16 c.args.m ≡ true = sym (range-test 1 16 c.args.m) ∙ sym (rw (n.start, n.end, n.exhausted) at c.if-not-contains.ensures.value) in
    atom_too_high c.args.m c.args.text.now c.args.out.now m c.if-text-gt1024.false _ c.whole.new.out _ c.in-Some.ensures (rw (c.from.ensures, c.next.ensures) at c.if-from-text.false) (rw (c.from-2.ensures, c.top.ensures) at c.if-m-from.true)

pub returns-then-flaw : goal.returns-then-flaw
returns-then-flaw c =
    let n = c.new.ensures in
    let m : between 1 16 c.args.m ≡ true = sym (range-test 1 16 c.args.m) ∙ sym (rw (n.start, n.end, n.exhausted) at c.if-not-contains.ensures.value) in
    window-refused c.args.m c.args.text.now c.args.out.now m c.if-text-gt1024.false _ c.whole.new.out _ c.in-Some.ensures
    (rw (c.from.ensures, c.next.ensures) at c.if-from-text.false) (rw (c.from-2.ensures, c.top.ensures) at c.if-m-from.false) (sym c.flaw.ensures ∙ c.if-flaw.true)

pub returns-then-nodes-gt128 : goal.returns-then-nodes-gt128
returns-then-nodes-gt128 c =
    let n = c.new.ensures in
    let m : between 1 16 c.args.m ≡ true = sym (range-test 1 16 c.args.m) ∙ sym (rw (n.start, n.end, n.exhausted) at c.if-not-contains.ensures.value) in
    many_nodes c.args.m c.args.text.now c.args.out.now m c.if-text-gt1024.false _ c.whole.new.out _ c.in-Some.ensures
    (rw (c.from.ensures, c.next.ensures) at c.if-from-text.false) (rw (c.from-2.ensures, c.top.ensures) at c.if-m-from.false) (sym c.flaw.ensures ∙ c.if-flaw.false) (rw (c.from-nodes.ensures, c.nodes.ensures) at c.if-nodes-gt128.true)

pub returns-then-out-k : goal.returns-then-out-k
returns-then-out-k c =
    let n = c.new.ensures in
    let m : between 1 16 c.args.m ≡ true = sym (range-test 1 16 c.args.m) ∙ sym (rw (n.start, n.end, n.exhausted) at c.if-not-contains.ensures.value) in
    small-buffer c.args.m c.args.text.now c.args.out.now m c.if-text-gt1024.false _ c.whole.new.out _ c.in-Some.ensures
    (rw (c.from.ensures, c.next.ensures) at c.if-from-text.false) (rw (c.from-2.ensures, c.top.ensures) at c.if-m-from.false) (sym c.flaw.ensures ∙ c.if-flaw.false) (rw (c.from-nodes.ensures, c.nodes.ensures) at c.if-nodes-gt128.false) (rw (c.from-nodes.ensures, c.nodes.ensures) at c.if-out-k.true)

pub copy_from_slice-requires : goal.copy_from_slice-requires
copy_from_slice-requires c =
    let n = c.new.ensures in
    let m : between 1 16 c.args.m ≡ true = sym (range-test 1 16 c.args.m) ∙ sym (rw (n.start, n.end, n.exhausted) at c.if-not-contains.ensures.value) in
    length-take-le _ c.args.out.now c.if-out-k.false
    ∙ rw (c.from-nodes.ensures, c.nodes.ensures)
    (part_length c.args.m c.args.text.now c.args.out.now m c.if-text-gt1024.false _ c.whole.new.out _ c.in-Some.ensures
    (rw (c.from.ensures, c.next.ensures) at c.if-from-text.false) (rw (c.from-2.ensures, c.top.ensures) at c.if-m-from.false) (sym c.flaw.ensures ∙ c.if-flaw.false) (rw (c.from-nodes.ensures, c.nodes.ensures) at c.if-nodes-gt128.false)
    (rw (c.from-nodes.ensures, c.nodes.ensures) at c.if-out-k.false) refl)

pub returns : goal.returns
returns c =
    let n = c.new.ensures in
    let m : between 1 16 c.args.m ≡ true = sym (range-test 1 16 c.args.m) ∙ sym (rw (n.start, n.end, n.exhausted) at c.if-not-contains.ensures.value) in
    rw (c.from-nodes.ensures, c.nodes.ensures)
    (all_read c.args.m c.args.text.now c.args.out.now m c.if-text-gt1024.false _ c.whole.new.out _ c.in-Some.ensures
    (rw (c.from.ensures, c.next.ensures) at c.if-from-text.false) (rw (c.from-2.ensures, c.top.ensures) at c.if-m-from.false) (sym c.flaw.ensures ∙ c.if-flaw.false) (rw (c.from-nodes.ensures, c.nodes.ensures) at c.if-nodes-gt128.false)
    (rw (c.from-nodes.ensures, c.nodes.ensures) at c.if-out-k.false) refl
    c.copy_from_slice.new.self (rw (c.from-nodes.ensures, c.nodes.ensures) at c.copy_from_slice.ensures.after))
