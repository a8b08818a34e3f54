-- `mps_line::put_one` meets its contract. By the sign. Assumes nothing.
use Rattle.std.proofs.Common.{◌≡◌, sym, ap, ◌∙◌, Bool, [], ◌∷◌, ◌++◌}
use Rattle.text.specs.Decimal.{signed_text}
use Rattle.mps_line.specs.Units.{one, one-text, minus-text}
use Rattle.cursor.specs.Puts.{said}
use Rattle.mps_line.proofs.put_one.Goals as goal

-- what is put, where the sign is known
text : {up known : Bool} → up ≡ known → signed_text (one known) ++ (10 ∷ []) ≡ signed_text (one up) ++ (10 ∷ [])
text e = ap (λ (b : Bool). signed_text (one b) ++ (10 ∷ [])) (sym e)

pub returns-then-up : goal.returns-then-up
returns-then-up c = said (sym one-text ∙ text c.if-up.true) c.put.ensures

pub returns-else-up : goal.returns-else-up
returns-else-up c = said (sym minus-text ∙ text c.if-up.false) c.put-else-up.ensures
