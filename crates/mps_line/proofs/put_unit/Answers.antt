-- `mps_line::put_unit` meets its contract. Three fields, and the line's end. Assumes nothing.
use Rattle.std.proofs.Common.{refl}
use native.Mathlib.Omega.{arith}
use Rattle.cursor.specs.Puts.{then, said}
use Rattle.mps_line.specs.Fields.{fields-of}
use Rattle.mps.specs.Page.{row_name, variable_name}
use Rattle.mps_line.specs.declared.Name.TheVariants.{Row, Variable}
use Rattle.mps_line.specs.Names.{name-length}
use Rattle.mps_line.specs.Emitted.{emitted_put, emitted_out, emitted_as}
use Rattle.mps_line.specs.Units.{unit-length, unit_fields}
use Rattle.mps_line.proofs.put_unit.Goals as goal

pub returns-then-page-past : goal.returns-then-page-past
returns-then-page-past c =
    let e = unit-length c.args.v c.args.i c.args.up c.requires.1 c.requires.2 in
    (emitted_out refl (omega (arith, e, c.unit_length.ensures.0)) c.if-page-past.true, omega (arith, c.unit_length.ensures.2))

pub returns : goal.returns
returns c =
    let m = name-length (Variable c.args.v) c.requires.1 in
    let n = name-length (Row c.args.i) c.requires.2 in
    let both = said (fields-of _ _ (variable_name c.args.v) (row_name c.args.i) (omega arith) (omega arith) c.lettered_word.ensures c.lettered_word-2.ensures) c.put_fields.ensures in
    let p = then both c.put_one.ensures in
    let q = emitted_as (unit_fields c.args.v c.args.i c.args.up c.requires.1 c.requires.2) (emitted_put p) in
    (q, omega (arith, q.ends, unit-length c.args.v c.args.i c.args.up c.requires.1 c.requires.2, c.unit_length.ensures))
