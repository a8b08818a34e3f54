-- `mps_row::put_row` meets its contract. By the text. Assumes nothing.
use Rattle.std.proofs.Common.{ap, ◌∙◌, List, [], ◌∷◌, ℕ}
use Rattle.row.specs.Meaning.{relation_of}
use Rattle.mps.specs.Page.{row_name, type_line, row_line}
use Rattle.mps_line.specs.Emitted.{emitted_as}
use Rattle.mps_row.specs.Texts.{letter-text}
use Rattle.mps_row.proofs.put_row.Goals as goal

pub returns-in-Typed : goal.returns-in-Typed
unfolding row_line
returns-in-Typed c =
    let letter = ap (λ (b : ℕ). b ∷ []) c.letter.ensures ∙ letter-text (relation_of c.args.row.relation) in
    let p = c.put_type_line.ensures in
    rw c.in-Typed.is (emitted_as (ap (λ (x : List ℕ). type_line x (row_name c.args.i)) letter) p.0, p.1)
