-- `mps_line::put_number_line` meets its contract. Three fields, and the line's end. Assumes nothing.
use Rattle.std.proofs.Common.{refl}
use mathlib.Core.Path.{◌≡◌, sym, ap}
use native.Mathlib.Omega.{arith}
use Prim.Native.Nat.{ℕ}
use lib.IntN.{ℤ, nat_abs}
use lib.ListN.{length}
use mir.Facts.{to_z-of_z}
use Rattle.text.specs.Decimal.{signed_text}
use Rattle.cursor.specs.Puts.{then, said}
use Rattle.mps_line.specs.Names.{name_text, name-length, number-length}
use Rattle.mps_line.specs.Emitted.{emitted_put, emitted_out, emitted_as}
use Rattle.mps_line.specs.Fields.{fields-of, number_fields}
use Rattle.mps_line.proofs.put_number_line.Goals as goal

-- the number's length
long : {n : ℕ} {z c : ℤ} → z ≡ c → n ≡ length (signed_text z) → n ≡ length (signed_text c)
long e f = rw e at f

pub signed_length-requires : goal.signed_length-requires
signed_length-requires c = let e = ap nat_abs (to_z-of_z c.ranges.c) in omega (arith, c.requires.3)

pub returns-then-page-past : goal.returns-then-page-past
returns-then-page-past c =
    let n = number-length c.args.name c.args.row c.args.c c.requires.1 c.requires.2 in
    (emitted_out refl (omega (arith, n, (long (to_z-of_z c.ranges.c) c.signed_length.ensures.0))) c.if-page-past.true, omega (arith, c.signed_length.ensures.1))

pub returns : goal.returns
returns c =
    let m = name-length c.args.name c.requires.1 in
    let n = name-length c.args.row c.requires.2 in
    let both = said (fields-of _ _ (name_text c.args.name) (name_text c.args.row) (omega arith) (omega arith) c.name_word.ensures c.name_word-2.ensures) c.put_fields.ensures in
    let p = then (then both (rw (to_z-of_z c.ranges.c) at c.put_signed.ensures)) c.put_byte.ensures in
    let q = emitted_as (sym (number_fields (name_text c.args.name) (name_text c.args.row) c.args.c (omega arith) (omega arith))) (emitted_put p) in
    (q, omega (arith, q.ends, number-length c.args.name c.args.row c.args.c c.requires.1 c.requires.2, (long (to_z-of_z c.ranges.c) c.signed_length.ensures.0), c.signed_length.ensures.1))
