-- `rows_record::put_triple` meets its contract: all before the first variable, and a word straight after it.
use Rattle.std.proofs.Common.{List, ◌∷◌, ℕ, ◌≡◌, ap₂, ◌∙◌, rules}
use Rattle.rules.specs.Rows.{signed_byte}
use Rattle.cursor.specs.Puts.{then, said}
use Rattle.endian.specs.Words.{little_endian}
use Rattle.rows_record.proofs.put_triple.Goals as goal

pub returns : goal.returns
returns c =
    let sign : c.signed_byte-sign.result ≡ signed_byte c.args.a.coefficient = search rules in
    let bytes : c.to_le_bytes.result ≡ little_endian 8 c.triple_word-word.result = search rules in
    said
    (ap₂ (λ (s : ℕ) (w : List ℕ). 0x52 ∷ 0x57 ∷ c.args.relation ∷ 3 ∷ c.args.right ∷ s ∷ w) sign (bytes ∙ c.triple_word-word.ensures))
    (then c.put.ensures c.put-2.ensures)
