-- The text of row records, step by step as it is written.
use Rattle.rowlist_text.specs.Records.{Rest}
use Rattle.std.specs.Prelude.{◌≡◌, List, [], ◌∷◌, ◌++◌, ℕ, zero, suc, ◌+◌, ◌-◌, ◌*◌, ◌/◌, ◌≤◌, ◌<◌, length, take, drop}
use Rattle.std.proofs.Math.Path.{refl}
use Rattle.std.proofs.Common.{sym, ap, ◌∙◌, arith, length-append, length-drop, get_or-take}
use Rattle.std.proofs.Math.ListN.{get_or}
use Rattle.std.proofs.lemmas.List.{drop-take}
use Rattle.std.proofs.lemmas.List.Edits.{sets}
use Rattle.std.proofs.Math.Seq.{take_all}
use Rattle.rules.specs.Rows.{signed_in, terms_in, row_in, rows_in}
use Rattle.text.specs.Decimal.{decimal}
use Rattle.rowlist_text.specs.RowText.{sign_of, terms_text, row_text, rows_text, Whole}
use Rattle.cursor.specs.Put.{sets_append}
use Rattle.cursor.specs.Puts.{Puts}
use Rattle.cursor.specs.declared.Cursor.{Cursor}

-- a list without its first n elements, cut to what is left of it
pub tail-is : (n : ℕ) (l : List ℕ) → take (length l - n) (drop n l) ≡ drop n l
tail-is n l = take_all (length l - n) (drop n l) (omega (arith, length-drop n l))

-- ---- terms

pub terms_end : (b : List ℕ) → length b < 3 → terms_text (terms_in (length b / 3) b) ≡ []
unfolding terms_text
terms_end b h = let z : length b / 3 ≡ 0 = omega arith in rw z refl

pub terms_turn : (b : List ℕ) → 3 ≤ length b → terms_text (terms_in (length b / 3) b) ≡
    (32 ∷ sign_of (signed_in (get_or b 0 0)) ∷ decimal (get_or b 1 0 + 256 * get_or b 2 0)) ++ terms_text (terms_in (length (drop 3 b) / 3) (drop 3 b))
unfolding terms_text
terms_turn b h = let z : length b / 3 ≡ suc (length (drop 3 b) / 3) = omega (arith, length-drop 3 b) in rw z refl

-- k terms are read from no more than 3·k bytes
pub terms-cut : (k : ℕ) (b : List ℕ) → terms_in k (take (3 * k) b) ≡ terms_in k b
terms-cut zero b = refl
terms-cut (suc k) b =
    let z : 3 * suc k ≡ 3 + 3 * k = omega arith in
    rw (
      z,
      get_or-take (3 + 3 * k) b 0 0 (omega arith),
      get_or-take (3 + 3 * k) b 1 0 (omega arith),
      get_or-take (3 + 3 * k) b 2 0 (omega arith),
      drop-take 3 (3 * k) b,
      terms-cut k (drop 3 b),
    ) refl

pub rest-next : {xs ys all : List ℕ} {a b c : Cursor} → Rest (xs ++ ys) a all c → Puts xs a b → Rest ys b all c
rest-next {xs} {ys} {all} {a} {b} r p = record {
  same = p.same ∙ r.same;
  room = p.room ∙ r.room;
  content =
      ap (λ (x : List ℕ). sets x b.at ys) p.put.content ∙ ap (λ (i : ℕ). sets (sets a.out.now a.at xs) i ys) p.put.ends
      ∙ sym (sets_append a.out.now a.at xs ys) ∙ r.content;
  ends = omega (arith, r.ends, p.put.ends, length-append xs ys);
}

pub rest-done : {all : List ℕ} {a c : Cursor} → Rest [] a all c → Puts all c a
rest-done r = record { same = r.same; room = r.room; put = record { content = r.content; ends = omega (arith, r.ends) } }

-- ---- rows, from row i on

module _ (i count : ℕ) (b : List ℕ) where
  pub rows_end : count ≤ i → rows_text i (rows_in (count - i) b) ≡ []
  unfolding rows_text
  rows_end h = let e : count - i ≡ 0 = omega arith in rw e refl

  one_more : i < count → count - i ≡ suc (count - (i + 1))
  one_more h = omega arith

  -- the record at the front is whole, and so are those behind it
  pub whole-next : i < count → Whole (count - i) b → (5 + 3 * get_or b 3 0 ≤ length b) × Whole (count - (i + 1)) (drop (5 + 3 * get_or b 3 0) b)
  whole-next h w = rw (one_more h) at w

  -- a turn of the loop
  pub rows_turn : i < count → rows_text i (rows_in (count - i) b) ≡
      row_text i (row_in b) ++ rows_text (i + 1) (rows_in (count - (i + 1)) (drop (5 + 3 * get_or b 3 0) b))
  unfolding rows_text
  rows_turn h = rw (one_more h) refl
