-- `mps_sections::put_rights` meets its contract. A word and the lines of the right sides. Assumes nothing.
use native.Mathlib.Omega.{arith}
use Rattle.mps.specs.Page.{right_section}
use Rattle.mps_line.specs.Emitted.{emitted-also}
use Rattle.mps_sections.proofs.put_rights.Goals as goal

pub returns : goal.returns
unfolding right_section
returns c =
    let a = c.put_text.ensures in
    let b = c.put_all.ensures in
    (emitted-also a.0 b.0, omega (arith, a.1, b.1))
