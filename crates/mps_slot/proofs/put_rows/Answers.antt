-- `mps_slot::put_rows` meets its contract. The lines of the rows passed are put. Assumes nothing.
use Rattle.std.proofs.Common.{arith}
use Rattle.mps.specs.Page.{each_row}
use Rattle.row.specs.Meaning.{row_of}
use Rattle.mps_line.specs.Emitted.{emitted-none, emitted-also, emitted_as}
use Rattle.mps_row.specs.Texts.{line_of}
use Rattle.mps_slot.specs.Each.{each_more}
use Rattle.mps_slot.proofs.put_rows.Goals as goal

pub loop-j-init : goal.loop-j-init
unfolding each_row
loop-j-init c = (emitted-none _, omega arith)

pub loop-j-preserved : goal.loop-j-preserved
loop-j-preserved c =
    let p = c.put_row.ensures in
    let more = each_more (line_of c.args.text) c.args.i row_of c.args.rows.now c.loop-j.j _ c.loop-j-test.true in
    (emitted_as more (emitted-also c.loop-j.invariant.0 p.0), omega (arith, p.1))
