-- `mps_line::put_type_line` meets its contract. Two fields, and the line's end. Assumes nothing.
use Rattle.std.proofs.Common.{refl}
use mathlib.Core.Path.{sym}
use native.Mathlib.Omega.{arith}
use Rattle.cursor.specs.Puts.{then}
use Rattle.mps_line.specs.Names.{name_text, type_length}
use Rattle.mps_line.specs.Emitted.{emitted_put, emitted_out, emitted_as}
use Rattle.mps_line.specs.Fields.{type_fields}
use Rattle.mps_line.proofs.put_type_line.Goals as goal

pub returns-then-page-past : goal.returns-then-page-past
returns-then-page-past c =
    (emitted_out refl (omega (arith, type_length c.args.letter c.args.name, c.name_length.ensures.0)) c.if-page-past.true, omega (arith, c.name_length.ensures.1))

pub returns : goal.returns
returns c =
    let p = then (then c.put.ensures c.put_name.ensures) c.put_byte.ensures in (
      emitted_as (sym (type_fields c.args.letter (name_text c.args.name))) (emitted_put p),
      omega (arith, type_length c.args.letter c.args.name, c.name_length.ensures, p.put.ends),
    )
