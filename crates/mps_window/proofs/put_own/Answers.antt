-- `mps_window::put_own` meets its contract. Assumes nothing.
use Rattle.std.proofs.Common.{arith}
use Rattle.mps_line.specs.Emitted.{emitted-also}
use Rattle.mps_window.proofs.put_own.Goals as goal

pub returns : goal.returns
returns c =
    let p = c.put_units.ensures in
    let q = c.put_unit.ensures in
    (rw c.from-count.ensures at (emitted-also p.0 q.0), omega (arith, p.1, q.1, c.args.over.looks.few))
