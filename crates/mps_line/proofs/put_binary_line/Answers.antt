-- `mps_line::put_binary_line` meets its contract. The type and the bounds' name in one piece, the variable, and the line's end. Assumes nothing.
use Rattle.std.proofs.Common.{refl}
use mathlib.Core.Path.{sym}
use native.Mathlib.Omega.{arith}
use Rattle.cursor.specs.Puts.{then}
use Rattle.mps_line.specs.Names.{binary-length}
use Rattle.mps_line.specs.Emitted.{emitted_put, emitted_out, emitted_as}
use Rattle.mps_line.specs.Fields.{binary_fields}
use Rattle.mps_line.proofs.put_binary_line.Goals as goal

pub returns-then-page-past : goal.returns-then-page-past
returns-then-page-past c =
    (emitted_out refl (omega (arith, binary-length c.args.v, c.digits_in.ensures.0)) c.if-page-past.true, omega (arith, c.digits_in.ensures.1))

pub returns : goal.returns
returns c =
    let p = then (then c.put.ensures c.put_lettered.ensures) c.put_byte.ensures in
    let q = emitted_as (sym (binary_fields c.args.v)) (emitted_put p) in
    (q, omega (arith, q.ends, binary-length c.args.v, c.digits_in.ensures))
