-- The five levels meet their contracts, in one proof of their cycle of calls. What falls at each call is the bytes left, six times, and the level's rank.
use Rattle.std.proofs.Common.{arith}
use Rattle.rules.specs.Rule.Binary.{or as disjunction, implies as implication, and as conjunction, until as untils}
use Rattle.reader_levels.specs.Steps.{single_level}
use Rattle.reader_levels.proofs.Laws.{same-place}
use Rattle.reader_levels.proofs.Laws.{level_fail, level_alone, level_next, level_half, level_room, level_joined, single-none, atom-ends, atom-start, single-atom}
use Rattle.reader_levels.proofs.Laws.{sign-inside, sign-next, inner_room, bracket_half, single-bracket, single-fail, prefix_half, single-prefix}
use Rattle.reader_levels.proofs.Laws.{window-fail, window-next, window_half, window-room, single-window}
use Rattle.reader_levels.proofs.+and_or_rule_single_until.Goals as goal

pub and-returns-in_err-left : goal.and-returns-in_err-left
and-returns-in_err-left t c = rw c.from_residual.ensures (level_fail conjunction _ _ _ _ _ c.in_err-left.ensures)

pub and-returns-in_default : goal.and-returns-in_default
and-returns-in_default t c = level_alone conjunction _ _ _ _ _ _ c.in_ok-left.ensures (rw (c.from.ensures, c.next.ensures) at c.in_default.ensures.past)

pub and-and-requires : goal.and-and-requires
and-and-requires t c =
    let m = same-place _ _ c.moved.ensures in
    let h = level_next conjunction _ _ _ _ _ _ c.in_ok-left.ensures _ (rw (c.from.ensures, c.next.ensures) at c.in-Some.ensures.past) c.requires in
    rw (m.0, m.1) (omega (arith, h.0, c.decreases), h.1)

pub and-returns-in_err-right : goal.and-returns-in_err-right
and-returns-in_err-right t c =
    let m = same-place _ _ c.moved.ensures in
    rw c.from_residual-in_err-right.ensures
    (level_half conjunction _ _ _ _ _ _ c.in_ok-left.ensures _ (rw (c.from.ensures, c.next.ensures) at c.in-Some.ensures.past) _ (rw (m.0, m.1) at c.in_err-right.ensures))

pub and-join-requires : goal.and-join-requires
and-join-requires t c =
    let m = same-place _ _ c.moved.ensures in
    level_room conjunction _ _ _ _ _ _ c.in_ok-left.ensures _ (rw (c.from.ensures, c.next.ensures) at c.in-Some.ensures.past) _ _ (rw (m.0, m.1) at c.in_ok-right.ensures) c.requires

pub and-returns : goal.and-returns
and-returns t c =
    let m = same-place _ _ c.moved.ensures in
    rw c.join.ensures.part
    (level_joined conjunction _ _ _ _ _ _ c.in_ok-left.ensures _ (rw (c.from.ensures, c.next.ensures) at c.in-Some.ensures.past) _ _ (rw (m.0, m.1) at c.in_ok-right.ensures) _ c.join.ensures.wrote)

pub or-returns-in_err-left : goal.or-returns-in_err-left
or-returns-in_err-left t c = rw c.from_residual.ensures (level_fail disjunction _ _ _ _ _ c.in_err-left.ensures)

pub or-returns-in_default : goal.or-returns-in_default
or-returns-in_default t c = level_alone disjunction _ _ _ _ _ _ c.in_ok-left.ensures (rw (c.from.ensures, c.next.ensures) at c.in_default.ensures.past)

pub or-or-requires : goal.or-or-requires
or-or-requires t c =
    let m = same-place _ _ c.moved.ensures in
    let h = level_next disjunction _ _ _ _ _ _ c.in_ok-left.ensures _ (rw (c.from.ensures, c.next.ensures) at c.in-Some.ensures.past) c.requires in
    rw (m.0, m.1) (omega (arith, h.0, c.decreases), h.1)

pub or-returns-in_err-right : goal.or-returns-in_err-right
or-returns-in_err-right t c =
    let m = same-place _ _ c.moved.ensures in
    rw c.from_residual-in_err-right.ensures
    (level_half disjunction _ _ _ _ _ _ c.in_ok-left.ensures _ (rw (c.from.ensures, c.next.ensures) at c.in-Some.ensures.past) _ (rw (m.0, m.1) at c.in_err-right.ensures))

pub or-join-requires : goal.or-join-requires
or-join-requires t c =
    let m = same-place _ _ c.moved.ensures in
    level_room disjunction _ _ _ _ _ _ c.in_ok-left.ensures _ (rw (c.from.ensures, c.next.ensures) at c.in-Some.ensures.past) _ _ (rw (m.0, m.1) at c.in_ok-right.ensures) c.requires

pub or-returns : goal.or-returns
or-returns t c =
    let m = same-place _ _ c.moved.ensures in
    rw c.join.ensures.part
    (level_joined disjunction _ _ _ _ _ _ c.in_ok-left.ensures _ (rw (c.from.ensures, c.next.ensures) at c.in-Some.ensures.past) _ _ (rw (m.0, m.1) at c.in_ok-right.ensures) _ c.join.ensures.wrote)

pub rule-returns-in_err-left : goal.rule-returns-in_err-left
rule-returns-in_err-left t c = rw c.from_residual.ensures (level_fail implication _ _ _ _ _ c.in_err-left.ensures)

pub rule-returns-in_default : goal.rule-returns-in_default
rule-returns-in_default t c = level_alone implication _ _ _ _ _ _ c.in_ok-left.ensures (rw (c.from.ensures, c.next.ensures) at c.in_default.ensures.past)

pub rule-rule-requires : goal.rule-rule-requires
rule-rule-requires t c =
    let m = same-place _ _ c.moved.ensures in
    let h = level_next implication _ _ _ _ _ _ c.in_ok-left.ensures _ (rw (c.from.ensures, c.next.ensures) at c.in-Some.ensures.past) c.requires in
    rw (m.0, m.1) (omega (arith, h.0, c.decreases), h.1)

pub rule-returns-in_err-right : goal.rule-returns-in_err-right
rule-returns-in_err-right t c =
    let m = same-place _ _ c.moved.ensures in
    rw c.from_residual-in_err-right.ensures
    (level_half implication _ _ _ _ _ _ c.in_ok-left.ensures _ (rw (c.from.ensures, c.next.ensures) at c.in-Some.ensures.past) _ (rw (m.0, m.1) at c.in_err-right.ensures))

pub rule-join-requires : goal.rule-join-requires
rule-join-requires t c =
    let m = same-place _ _ c.moved.ensures in
    level_room implication _ _ _ _ _ _ c.in_ok-left.ensures _ (rw (c.from.ensures, c.next.ensures) at c.in-Some.ensures.past) _ _ (rw (m.0, m.1) at c.in_ok-right.ensures) c.requires

pub rule-returns : goal.rule-returns
rule-returns t c =
    let m = same-place _ _ c.moved.ensures in
    rw c.join.ensures.part
    (level_joined implication _ _ _ _ _ _ c.in_ok-left.ensures _ (rw (c.from.ensures, c.next.ensures) at c.in-Some.ensures.past) _ _ (rw (m.0, m.1) at c.in_ok-right.ensures) _ c.join.ensures.wrote)

pub until-returns-in_err-left : goal.until-returns-in_err-left
until-returns-in_err-left t c =
    let told = rw (c.from-at.ensures, c.next.ensures, c.nodes-n.ensures) at c.in_err-left.ensures in
    rw c.from_residual.ensures (level_fail untils _ _ _ _ _ told)

pub until-returns-in_default : goal.until-returns-in_default
until-returns-in_default t c =
    let told = rw (c.from-at.ensures, c.next.ensures, c.nodes-n.ensures) at c.in_ok-left.ensures in
    level_alone untils _ _ _ _ _ _ told (rw (c.from.ensures, c.next-2.ensures) at c.in_default.ensures.past)

pub until-until-requires : goal.until-until-requires
until-until-requires t c =
    let m = same-place _ _ c.moved.ensures in
    let told = rw (c.from-at.ensures, c.next.ensures, c.nodes-n.ensures) at c.in_ok-left.ensures in
    let sign = rw (c.from.ensures, c.next-2.ensures) at c.in-Some.ensures.past in
    let h = level_next untils _ _ _ _ _ _ told _ sign c.requires in
    rw (m.0, m.1) (omega (arith, h.0, c.decreases), h.1)

pub until-returns-in_err-right : goal.until-returns-in_err-right
until-returns-in_err-right t c =
    let m = same-place _ _ c.moved.ensures in
    let told = rw (c.from-at.ensures, c.next.ensures, c.nodes-n.ensures) at c.in_ok-left.ensures in
    let sign = rw (c.from.ensures, c.next-2.ensures) at c.in-Some.ensures.past in
    rw c.from_residual-in_err-right.ensures (level_half untils _ _ _ _ _ _ told _ sign _ (rw (m.0, m.1) at c.in_err-right.ensures))

pub until-join-requires : goal.until-join-requires
until-join-requires t c =
    let m = same-place _ _ c.moved.ensures in
    let told = rw (c.from-at.ensures, c.next.ensures, c.nodes-n.ensures) at c.in_ok-left.ensures in
    let sign = rw (c.from.ensures, c.next-2.ensures) at c.in-Some.ensures.past in
    level_room untils _ _ _ _ _ _ told _ sign _ _ (rw (m.0, m.1) at c.in_ok-right.ensures) c.requires

pub until-returns : goal.until-returns
until-returns t c =
    let m = same-place _ _ c.moved.ensures in
    let told = rw (c.from-at.ensures, c.next.ensures, c.nodes-n.ensures) at c.in_ok-left.ensures in
    let sign = rw (c.from.ensures, c.next-2.ensures) at c.in-Some.ensures.past in
    rw c.join.ensures.part (level_joined untils _ _ _ _ _ _ told _ sign _ _ (rw (m.0, m.1) at c.in_ok-right.ensures) _ c.join.ensures.wrote)

pub single-returns-in_err-token : goal.single-returns-in_err-token
single-returns-in_err-token t c = rw c.from_residual.ensures (single-none _ _ _ _ c.in_err-token.ensures)

pub single-overflow_cast-end : goal.single-overflow_cast-end
single-overflow_cast-end t c =
    omega (arith, c.requires.short, c.skip-end.ensures, atom-start _ _ c.args.n _ _ (rw c.in-Atom.is at c.in_ok-token.ensures))

pub single-overflow_add-n : goal.single-overflow_add-n
single-overflow_add-n t c =
    omega (arith, c.requires.short, c.requires.few, atom-ends _ _ c.args.n _ _ (rw c.in-Atom.is at c.in_ok-token.ensures))

pub single-returns-in-Atom : goal.single-returns-in-Atom
single-returns-in-Atom t c =
    rw c.new.ensures (single-atom _ _ c.args.n _ _ (rw c.in-Atom.is at c.in_ok-token.ensures) _ _ _ c.skip-end.ensures c.put_atom.ensures)

pub single-overflow_cast-next : goal.single-overflow_cast-next
single-overflow_cast-next t c =
    omega (arith, c.requires.short, sign-inside _ _ c.args.n c.args.out.now _ _ (rw c.in-Sign.is at c.in_ok-token.ensures))

pub single-rule-requires : goal.single-rule-requires
single-rule-requires t c =
    let m = same-place _ _ c.new-then-byte-eq40.ensures in
    let h = sign-next _ _ _ c.args.out.now _ _ (rw c.in-Sign.is at c.in_ok-token.ensures) c.requires in
    rw (m.0, m.1) (omega (arith, h.0, c.decreases), h.1)

pub single-returns-in_err-inner-in-Sign : goal.single-returns-in_err-inner-in-Sign
single-returns-in_err-inner-in-Sign t c =
    let m = same-place _ _ c.new-then-byte-eq40.ensures in
    rw c.from_residual-in_err-inner-in-Sign.ensures
    (bracket_half _ _ _ _ _ _ (rw c.in-Sign.is at c.in_ok-token.ensures) c.if-byte-eq40.true _ (rw (m.0, m.1) at c.in_err-inner-in-Sign.ensures))

pub single-returns-then-byte-eq40 : goal.single-returns-then-byte-eq40
single-returns-then-byte-eq40 t c =
    let m = same-place _ _ c.new-then-byte-eq40.ensures in
    rw c.close.ensures
    (single-bracket _ _ _ _ _ _ (rw c.in-Sign.is at c.in_ok-token.ensures) c.if-byte-eq40.true _ _ (rw (m.0, m.1) at c.in_ok-inner-in-Sign.ensures))

pub single-returns-in_err-kind-in-Sign : goal.single-returns-in_err-kind-in-Sign
single-returns-in_err-kind-in-Sign t c =
    rw c.from_residual-in_err-kind-in-Sign.ensures
    (single-fail _ _ _ _ _ _ (rw c.in-Sign.is at c.in_ok-token.ensures) c.if-byte-eq40.false c.in_err-kind-in-Sign.ensures)

pub single-single-requires : goal.single-single-requires
single-single-requires t c =
    let h = sign-next _ _ _ c.args.out.now _ _ (rw c.in-Sign.is at c.in_ok-token.ensures) c.requires in
    (omega (arith, h.0, c.decreases), h.1)

pub single-returns-in_err-inner-in-Sign-2 : goal.single-returns-in_err-inner-in-Sign-2
single-returns-in_err-inner-in-Sign-2 t c =
    rw c.from_residual-in_err-inner-in-Sign-2.ensures
    (prefix_half _ _ _ _ _ _ (rw c.in-Sign.is at c.in_ok-token.ensures) c.if-byte-eq40.false _ c.in_ok-kind-in-Sign.ensures
    c.in_default.ensures _ c.in_err-inner-in-Sign-2.ensures)

pub single-cap-requires : goal.single-cap-requires
single-cap-requires t c =
    inner_room _ _ _ c.args.out.now _ _ (rw c.in-Sign.is at c.in_ok-token.ensures) single_level c.requires _ _ c.in_ok-inner-in-Sign-2.ensures

pub single-returns-in_default : goal.single-returns-in_default
single-returns-in_default t c =
    rw c.cap.ensures.part
    (single-prefix _ _ _ _ _ _ (rw c.in-Sign.is at c.in_ok-token.ensures) c.if-byte-eq40.false _ c.in_ok-kind-in-Sign.ensures
    c.in_default.ensures _ _ c.in_ok-inner-in-Sign-2.ensures _ c.cap.ensures.wrote)

pub single-returns-in_err-window-in-Sign : goal.single-returns-in_err-window-in-Sign
single-returns-in_err-window-in-Sign t c =
    rw c.from_residual-in_err-window-in-Sign.ensures
    (window-fail _ _ _ _ _ _ (rw c.in-Sign.is at c.in_ok-token.ensures) c.if-byte-eq40.false _ c.in_ok-kind-in-Sign.ensures _ c.in-Some.ensures
    c.in_err-window-in-Sign.ensures)

pub single-single-requires-in-Sign : goal.single-single-requires-in-Sign
single-single-requires-in-Sign t c =
    let h =
    window-next _ _ _ c.args.out.now _ _ (rw c.in-Sign.is at c.in_ok-token.ensures) c.if-byte-eq40.false _ c.in_ok-kind-in-Sign.ensures _
    c.in-Some.ensures _ c.in_ok-window-in-Sign.ensures c.requires in
    (omega (arith, h.0, c.decreases), h.1)

pub single-returns-in_err-inner-in-Sign-3 : goal.single-returns-in_err-inner-in-Sign-3
single-returns-in_err-inner-in-Sign-3 t c =
    rw c.from_residual-in_err-inner-in-Sign-3.ensures
    (window_half _ _ _ _ _ _ (rw c.in-Sign.is at c.in_ok-token.ensures) c.if-byte-eq40.false _ c.in_ok-kind-in-Sign.ensures _
    c.in-Some.ensures _ c.in_ok-window-in-Sign.ensures _ c.in_err-inner-in-Sign-3.ensures)

pub single-cap-requires-in-Sign : goal.single-cap-requires-in-Sign
single-cap-requires-in-Sign t c =
    window-room _ _ _ c.args.out.now _ _ (rw c.in-Sign.is at c.in_ok-token.ensures) c.if-byte-eq40.false _ c.in_ok-kind-in-Sign.ensures _
    c.in-Some.ensures _ c.in_ok-window-in-Sign.ensures _ _ c.in_ok-inner-in-Sign-3.ensures c.requires

pub single-returns-in_ok-inner-in-Sign-3 : goal.single-returns-in_ok-inner-in-Sign-3
single-returns-in_ok-inner-in-Sign-3 t c =
    rw c.cap-in-Sign.ensures.part
    (single-window _ _ _ _ _ _ (rw c.in-Sign.is at c.in_ok-token.ensures) c.if-byte-eq40.false _ c.in_ok-kind-in-Sign.ensures _
    c.in-Some.ensures _ c.in_ok-window-in-Sign.ensures _ _ c.in_ok-inner-in-Sign-3.ensures _
    (rw c.windowed.ensures at c.cap-in-Sign.ensures.wrote))
