-- `mps_window::put_types` meets its contract. The lines of the rows passed are put. Assumes nothing.
use Rattle.std.proofs.Common.{◌+◌, ℕ, List, arith}
use Rattle.mps.specs.Words.{G}
use Rattle.mps.specs.Page.{row_name, type_line}
use Rattle.mps_line.specs.Turns.{turns_none, turns_more}
use Rattle.mps_window.proofs.put_types.Goals as goal

abbrev line : (i j : ℕ) → List ℕ
line i j = type_line G (row_name (i + j))

pub loop-j-init : goal.loop-j-init
loop-j-init c = (turns_none (line c.args.i) c.args.page.now, omega arith)

pub loop-j-preserved : goal.loop-j-preserved
loop-j-preserved c =
    let p = c.put_type_line.ensures in
    (turns_more (line c.args.i) c.args.page.now c.loop-j.invariant.0 p.0, omega (arith, p.1))
