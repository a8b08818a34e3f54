-- `mps_columns::put_block` meets its contract, without a window. Assumes nothing.
use Rattle.std.proofs.Common.{sym, ◌∙◌, arith}
use Rattle.mps_line.specs.Emitted.{emitted_as}
use Rattle.mps_columns.specs.Walk.{plain_lines_lem}
use Rattle.mps_columns.proofs.put_block.Goals as goal

pub returns-else-has_window : goal.returns-else-has_window
returns-else-has_window c =
    let a = c.args in
    let r = c.requires in
    let at = r.1.2 in
    let p = c.put_plain.ensures in
    let plain = sym c.has_window.ensures ∙ c.if-has_window.false in
    let lines = plain_lines_lem a.t a.l a.block plain (omega arith) a.variable.v a.start r.6.behind r.7 at.0 a.variable.s r.1.1 at.1 in
    (emitted_as lines p.0, omega (arith, p.1))
