-- `mps_columns::put_kept_parts` meets its contract. The loop's invariant: the V's of the nodes passed are counted, and their lines are put.
-- Assumes nothing.
use Rattle.std.proofs.Common.{◌≡◌, refl, sym, ap, ◌∙◌, ◌+◌, ◌<◌, length, arith}
use Rattle.rules.specs.TableTest.{nodes_in}
use Rattle.rules.proofs.TableTest.{length-nodes_in}
use Rattle.table.specs.Looping.{looping_to, looping-more, looping-all}
use Rattle.mps_line.specs.Turns.{turns_none, turns_all}
use Rattle.mps_columns.specs.Parts.{kept_turn, kept-none, kept-some}
use Rattle.mps_columns.specs.Plans.{planned_part}
use Rattle.mps_columns.proofs.put_kept_parts.Goals as goal
use Rattle.mps_columns.proofs.put_kept_parts.Goals.{then-loops, else-loops}

pub loop-n-init : goal.loop-n-init
loop-n-init c = record { before = refl; few = omega arith; put = turns_none _ _; end = omega arith }

pub put_kept-requires-clause-kept : goal.put_kept-requires-clause-kept
put_kept-requires-clause-kept c =
    let p = c.args.columns.now.plan in
    (omega (arith, length-nodes_in p.m p.table.now), sym c.loops.ensures ∙ c.if-loops.true)

pub loop-n-preserved : goal.loop-n-preserved
loop-n-preserved c =
    let p = c.args.columns.now.plan in
    let n = c.loop-n.n in
    let ns = nodes_in p.table.now in
    let v = c.loop-n.invariant in
    let low : n < length ns = omega (arith, length-nodes_in p.m p.table.now) in
    let more = looping-more ns n low in
    let counted : c.if-loops.found ≡ looping_to ns (n + 1) =
    elim c.if-loops.branch [
      | then-loops w ↦ omega (arith, rw (sym c.loops.ensures ∙ w.if-loops.true) at more)
      | else-loops w ↦ omega (arith, rw (sym c.loops.ensures ∙ w.if-loops.false) at more)
    ] in
    record {
      before = counted;
      few = elim c.if-loops.branch [ then-loops w ↦ omega arith | else-loops w ↦ omega arith ];
      put = elim c.if-loops.branch [
        | then-loops w ↦ rw w.page-is
            (kept_turn (planned_part p) (p.m + p.nodes) ns n low v.before counted refl v.put
            (kept-some (sym c.loops.ensures ∙ w.if-loops.true) w.put_kept.ensures.0))
        | else-loops w ↦ rw w.page-is
            (kept_turn (planned_part p) (p.m + p.nodes) ns n low v.before counted refl v.put
            (kept-none _ (sym c.loops.ensures ∙ w.if-loops.false)))
      ];
      end = elim c.if-loops.branch [ then-loops w ↦ rw w.page-is (omega (arith, w.put_kept.ensures.1)) | else-loops w ↦ rw w.page-is (omega arith) ];
    }

pub returns : goal.returns
returns c =
    let p = c.args.columns.now.plan in
    let ns = nodes_in p.table.now in
    let all : c.loop-n.n ≡ length ns = omega (arith, length-nodes_in p.m p.table.now) in
    (turns_all _ _ (c.loop-n.invariant.before ∙ ap (looping_to ns) all ∙ looping-all ns) c.loop-n.invariant.put, omega (arith, p.ready.few-nodes))
