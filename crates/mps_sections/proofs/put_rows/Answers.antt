-- `mps_sections::put_rows` meets its contract. Two words, the free row's line and a line for each row. Assumes nothing.
use native.Mathlib.Omega.{arith}
use Rattle.mps.specs.Page.{row_line, each_row, row_section}
use Rattle.mps_line.specs.Emitted.{emitted-also}
use Rattle.mps_sections.proofs.put_rows.Goals as goal

pub returns : goal.returns
unfolding row_section
returns c =
    let a = c.put_text.ensures in
    let b = c.put_text-2.ensures in
    let d = c.put_type_line.ensures in
    let e = c.put_all.ensures in
    (emitted-also a.0 (emitted-also b.0 (emitted-also {ys = each_row row_line 0 _} d.0 e.0)), omega (arith, a.1, b.1, d.1, e.1))
