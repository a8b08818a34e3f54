-- `mps_window::put_right` meets its contract. F, G with one slot, and G with more. Assumes nothing.
use Rattle.std.proofs.Common.{ap, ◌∙◌, arith}
use Rattle.std.proofs.lemmas.Int.{ints}
use Rattle.mps.specs.Words.{RHS}
use Rattle.mps.specs.Page.{row_name, number_line}
use Rattle.mps_line.specs.Emitted.{emitted-none, emitted_as}
use Rattle.mps_window.specs.Over.{no_right, right-one, right-more}
use Rattle.mps_window.proofs.put_right.Goals as goal
use Rattle.mps_window.proofs.put_right.Goals.{then-over-via-then-over, then-over-via-else-over+then-count-eq1}

pub returns-then-over : goal.returns-then-over
returns-then-over c =
    let o = c.args.over in
    elim c.then-over.branch [
      | then-over-via-then-over w ↦ (emitted_as (no_right c.args.i o.looks.count o.within w.if-over.true) (emitted-none _), omega arith)
      | then-over-via-else-over+then-count-eq1 w ↦
          (emitted_as (right-one c.args.i o.looks.count o.within w.if-count-eq1.true) (emitted-none _), omega arith)
    ]

pub returns : goal.returns
returns c =
    let o = c.args.over in
    let p = c.put_number_line.ensures in
    let more = right-more c.args.i o.looks.count o.within c.if-over.false (omega (arith, o.looks.some)) in
    (emitted_as (ap (number_line RHS (row_name c.args.i)) (omega (arith, ints)) ∙ more) p.0, p.1)
