-- The bytes of row values' records.
use Rattle.std.specs.Prelude.{◌≡◌, refl, List, [], ◌∷◌, ◌++◌, ℕ, ℤ}
use Rattle.std.proofs.Common.{ap}
use Rattle.rules.specs.Rows as Rules
use Rattle.rules.specs.Rows.{relation_byte, signed_byte, term_bytes, row_bytes}
use Rattle.row.specs.Meaning.{relation_of, term_of, row_of}
use Rattle.row.specs.declared.Relation.{Relation}
use Rattle.row.specs.declared.Term.{Term}
use Rattle.row.specs.declared.Terms.TheVariants.{Pair, Triple}
use Rattle.row.specs.declared.Row.{Row}

-- a term's bytes, as a word, are below it
abbrev pub term_limit : ℕ
term_limit = 16777216

-- a record's bytes before its terms
abbrev pub head_bytes : (relation count right : ℕ) → List ℕ
head_bytes relation count right = 0x52 ∷ 0x57 ∷ relation ∷ count ∷ right ∷ []

unfoldable pub head_of : (relation : Relation) (count : ℕ) (right : ℤ) → List ℕ
head_of relation count right = head_bytes (relation_byte (relation_of relation)) count (signed_byte right)

-- the record of a row, for the call that writes it
unfoldable pub record_of : Row → List ℕ
record_of row = row_bytes (row_of row)

pub record_is : (row : Row) {r : Rules.Row} → row_of row ≡ r → record_of row ≡ row_bytes r
unfolding record_of
record_is row e = ap row_bytes e

-- ---- a record's bytes, given those of its parts

module _ (row : Row) {relation right : ℕ} (e : relation ≡ relation_byte (relation_of row.relation)) (f : right ≡ signed_byte row.right) where
  pub pair-bytes : {a b : Term} → row.terms ≡ Pair a b →
      head_bytes relation 2 right ++ (term_bytes (term_of a) ++ term_bytes (term_of b)) ≡ record_of row
  unfolding record_of
  pair-bytes t = rw (t, e, f) refl

  pub triple-bytes : {a b c : Term} → row.terms ≡ Triple a b c →
      head_bytes relation 3 right ++ (term_bytes (term_of a) ++ (term_bytes (term_of b) ++ term_bytes (term_of c))) ≡ record_of row
  unfolding record_of
  triple-bytes t = rw (t, e, f) refl
