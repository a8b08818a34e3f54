-- `mps_page::put_columns` meets its contract. The section's name, and the columns. Assumes nothing.
use native.Mathlib.Omega.{arith}
use Rattle.mps.specs.Page.{column_section}
use Rattle.mps_line.specs.Emitted.{emitted-also}
use Rattle.mps_page.proofs.put_columns.Goals as goal

pub returns : goal.returns
unfolding column_section
returns c =
    let p = c.put_text.ensures in
    let q = c.put_columns.ensures in
    (emitted-also p.0 q.0, omega (arith, p.1, q.1))
