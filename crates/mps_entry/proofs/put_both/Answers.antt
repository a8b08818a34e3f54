-- `mps_entry::put_both` meets its contract. Three lines. Assumes nothing.
use native.Mathlib.Omega.{arith}
use Rattle.mps_line.specs.Emitted.{emitted-also}
use Rattle.mps_entry.proofs.put_both.Goals as goal

pub returns : goal.returns
returns c =
    let r = c.put_double.ensures in
    let q = c.put_unit-2.ensures in
    let p = c.put_unit.ensures in
    (emitted-also p.0 (emitted-also q.0 r.0), omega (arith, p.1, q.1, r.1))
