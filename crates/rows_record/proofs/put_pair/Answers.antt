-- `rows_record::put_pair` meets its contract: the mark and the relation, and a word straight after them.
use Rattle.std.proofs.Common.{List, ◌∷◌, ℕ, ◌≡◌, ap, ◌∙◌, rules}
use Rattle.cursor.specs.Puts.{then, said}
use Rattle.endian.specs.Words.{little_endian}
use Rattle.rows_record.proofs.put_pair.Goals as goal

pub returns : goal.returns
returns c =
    let bytes : c.to_le_bytes.result ≡ little_endian 8 c.pair_word-word.result = search rules in
    said (ap (λ (w : List ℕ). 0x52 ∷ 0x57 ∷ c.args.relation ∷ w) (bytes ∙ c.pair_word-word.ensures)) (then c.put.ensures c.put-2.ensures)
