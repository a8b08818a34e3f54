-- `mps_row::put_unless_zero` meets its contract. The number is 0, or not. Assumes nothing.
use Rattle.std.proofs.Common.{ap, ◌∙◌, arith}
use Rattle.std.proofs.lemmas.Int.{ints}
use mir.Facts.{to_z-of_z}
use Rattle.mps.specs.Page.{row_name, number_line}
use Rattle.mps_line.specs.Names.{name_text}
use Rattle.mps_line.specs.Emitted.{emitted-none, emitted_as}
use Rattle.mps_row.specs.Coefficients.{no_line, some-line}
use Rattle.mps_row.proofs.put_unless_zero.Goals as goal

pub returns-then-c-eq0 : goal.returns-then-c-eq0
returns-then-c-eq0 c = (emitted_as (no_line (name_text c.args.name) c.args.i c.args.c (omega (arith, ints))) (emitted-none _), omega arith)

pub returns : goal.returns
returns c =
    let p = c.put_number_line.ensures in
    let line = number_line (name_text c.args.name) (row_name c.args.i) in
    (emitted_as (ap line (to_z-of_z c.ranges.c) ∙ some-line (name_text c.args.name) c.args.i c.args.c (λ z. omega (arith, ints))) p.0, p.1)
