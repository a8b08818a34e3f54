-- `mps_line::put_upper_line` meets its contract. The type and the bounds' name in one piece, the variable and the number, and the line's end. Assumes nothing.
use Rattle.std.proofs.Common.{refl}
use mathlib.Core.Path.{◌≡◌, sym, ap, ◌∙◌}
use mathlib.Core.List.{List, [], ◌∷◌, ◌++◌, append_assoc}
use Prim.Native.Nat.{ℕ}
use native.Mathlib.Omega.{arith}
use Rattle.text.specs.Decimal.{decimal}
use Rattle.text.proofs.DecimalLaws.{decimal-low}
use Rattle.cursor.specs.Puts.{then, said}
use Rattle.mps.specs.Page.{variable_name}
use Rattle.mps_line.specs.declared.Name.TheVariants.{Variable}
use Rattle.mps_line.specs.Names.{name-length, upper-length}
use Rattle.mps_line.specs.Emitted.{emitted_put, emitted_out, emitted_as}
use Rattle.mps_line.specs.Fields.{padded, field-of, upper_fields}
use Rattle.mps_line.proofs.put_upper_line.Goals as goal

-- the number and the line's end in one piece
ended : (l : List ℕ) {m : List ℕ} → (l ++ decimal 1) ++ (10 ∷ []) ≡ m → l ++ (49 ∷ 10 ∷ []) ≡ m
ended l e = sym (append_assoc l (49 ∷ []) (10 ∷ [])) ∙ ap (λ (x : List ℕ). (l ++ x) ++ (10 ∷ [])) (sym (decimal-low 1 (omega arith))) ∙ e

pub returns-then-page-past : goal.returns-then-page-past
returns-then-page-past c =
    (emitted_out refl (omega (arith, upper-length c.args.v c.requires.1)) c.if-page-past.true, omega arith)

pub returns : goal.returns
returns c =
    let v = c.args.v in
    let h = name-length (Variable v) c.requires.1 in
    let field = said (field-of _ (variable_name v) (omega arith) c.lettered_word.ensures) c.put_field.ensures in
    let p = then (then c.put.ensures field) c.put-2.ensures in
    let whole = ended ((32 ∷ 85 ∷ 80 ∷ 32 ∷ 66 ∷ 78 ∷ 68 ∷ 32 ∷ 32 ∷ 32 ∷ 32 ∷ 32 ∷ 32 ∷ 32 ∷ []) ++ padded 10 (variable_name v))
    (sym (upper_fields v (omega arith))) in
    let q = emitted_as whole (emitted_put p) in
    (q, omega (arith, q.ends, upper-length v c.requires.1))
