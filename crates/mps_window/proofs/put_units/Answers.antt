-- `mps_window::put_units` meets its contract. The lines of the rows passed are put. Assumes nothing.
use Rattle.std.proofs.Common.{◌+◌, ℕ, Bool, List, arith}
use Rattle.mps_line.specs.Units.{unit_line}
use Rattle.mps_line.specs.Turns.{turns_none, turns_more}
use Rattle.mps_window.proofs.put_units.Goals as goal

abbrev line : (v i : ℕ) (up : Bool) (j : ℕ) → List ℕ
line v i up j = unit_line v (i + j) up

pub loop-j-init : goal.loop-j-init
loop-j-init c = (turns_none (line c.args.v c.args.i c.args.up) c.args.page.now, omega arith)

pub loop-j-preserved : goal.loop-j-preserved
loop-j-preserved c =
    let p = c.put_unit.ensures in
    (turns_more (line c.args.v c.args.i c.args.up) c.args.page.now c.loop-j.invariant.0 p.0, omega (arith, p.1))
