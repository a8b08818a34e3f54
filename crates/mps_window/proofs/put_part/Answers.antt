-- `mps_window::put_part` meets its contract. Assumes nothing.
use Rattle.std.proofs.Common.{arith}
use Rattle.mps_line.specs.Emitted.{emitted-also}
use Rattle.mps_window.proofs.put_part.Goals as goal

pub returns : goal.returns
returns c =
    let p = c.put_unit.ensures in
    let q = c.put_unit-2.ensures in
    (rw c.from.ensures at (emitted-also p.0 q.0), omega (arith, p.1, q.1))
