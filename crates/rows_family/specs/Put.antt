-- Bytes and rows put one after the other behind a cursor.
use Rattle.std.specs.Prelude.{◌≡◌, refl, List, [], ◌++◌, ℕ, ◌+◌, ◌<◌, length}
use Rattle.std.proofs.Common.{sym, ap, ◌∙◌, arith, length-append}
use Rattle.lists.specs.Flat.{flat, flat-zero, flat-more, length-flat-room}
use Rattle.cursor.specs.declared.Cursor.{Cursor}
use Rattle.cursor.specs.Put.{nothing}
use Rattle.cursor.specs.Puts.{Puts, Room, then, said}
use Rattle.rules.specs.Rows as Rules
use Rattle.rules.specs.Rows.{row_bytes, rows_bytes}
use Rattle.row.specs.declared.Row.{Row}
use Rattle.row.specs.Meaning.{row_of}
use Rattle.rows_record.specs.Records.{record_of, record_is}

pub puts_none : (c : Cursor) → Puts [] c c
puts_none c = record { same = refl; room = refl; put = nothing c.at }

-- ---- room for bytes said in another way, as one part or as two

module _ (a : Cursor) {bytes xs : List ℕ} (e : bytes ≡ xs) where
  pub one-room : Room a (length bytes) → Room a (length xs)
  one-room h = rw e at h

module _ {bytes : List ℕ} (xs ys : List ℕ) (e : bytes ≡ xs ++ ys) where
  total : length bytes ≡ length xs + length ys
  total = ap length e ∙ length-append xs ys

  module _ (a : Cursor) (h : Room a (length bytes)) where
    pub first-room : Room a (length xs)
    first-room = omega (arith, total)

    pub second-room : {b : Cursor} → Puts xs a b → Room b (length ys)
    second-room p = omega (arith, total, p.put.ends, p.room)

-- ---- a loop that puts the bytes f 0, f 1, .. one after the other

module _ (f : ℕ → List ℕ) where
  pub turns_none : (a : Cursor) → Puts (flat f 0) a a
  turns_none a = said (sym (flat-zero f)) (puts_none a)

  module _ {a b : Cursor} {k : ℕ} (p : Puts (flat f k) a b) where
    pub turns_room : (n : ℕ) → k < n → Room a (length (flat f n)) → Room b (length (f k))
    turns_room n h r = omega (arith, length-flat-room f k n h, p.put.ends, p.room)

    pub turns_more : {c : Cursor} → Puts (f k) b c → Puts (flat f (k + 1)) a c
    turns_more q = said (sym (flat-more f k)) (then p q)

    pub turns_all : {n : ℕ} → k ≡ n → Puts (flat f n) a b
    turns_all e = rw e at p

-- ---- rows

-- a row's record has the length of its bytes
pub record_length : (a : Row) {x : Rules.Row} → row_of a ≡ x → length (record_of a) ≡ length (row_bytes x)
record_length a e = ap length (record_is a e)

-- a row's record before others
pub row_first : (r : Row) {x : Rules.Row} {xs : List ℕ} {a b c : Cursor} → row_of r ≡ x → Puts (record_of r) a b → Puts xs b c → Puts (row_bytes x ++ xs) a c
row_first r e p q = then (said (record_is r e) p) q

-- the length of rows that are put in four parts
pub four-total : (a b c d : List ℕ) (rs : List Rules.Row) → ((a ++ b) ++ c) ++ d ≡ rows_bytes rs →
    length (rows_bytes rs) ≡ length a + length b + length c + length d
four-total a b c d rs e = ap length (sym e) ∙ omega (arith, length-append ((a ++ b) ++ c) d, length-append (a ++ b) c, length-append a b)
