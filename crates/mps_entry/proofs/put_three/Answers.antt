-- `mps_entry::put_three` meets its contract. One line, and two behind it. Assumes nothing.
use native.Mathlib.Omega.{arith}
use Rattle.mps_line.specs.Emitted.{emitted-also}
use Rattle.mps_entry.proofs.put_three.Goals as goal

pub returns : goal.returns
returns c =
    let q = c.put_two.ensures in
    let p = c.put_unit.ensures in
    (emitted-also p.0 q.0, omega (arith, p.1, q.1))
