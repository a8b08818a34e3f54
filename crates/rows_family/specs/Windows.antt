-- The bytes of a window's rows at a slot, part by part: the rows of one slot each, and the head and the terms of the last row.
use Rattle.std.specs.Prelude.{◌≡◌, refl, ℕ, zero, suc, ◌+◌, ◌-◌, ◌<◌, ℤ, pos, negsuc, neg_ℤ}
use Rattle.std.proofs.Math.Path.{sym, ap, ap₂}
use Rattle.std.proofs.Common.{◌∙◌, lt-ltb, le-ltb}
use mathlib.Core.List.{List, [], ◌∷◌, ◌++◌, map, append_assoc, append-nil}
use native.Mathlib.Omega.{arith}
use Rattle.std.proofs.Math.ListN.{length, length-append, length-map}
use Rattle.lists.specs.Flat.{flat, flat-more, flat-same}
use Rattle.lists.specs.Tabulate.{map-tabulate}
use Rattle.cursor.specs.declared.Cursor.{Cursor}
use Rattle.cursor.specs.Puts.{Puts}
use Rattle.rules.specs.Rule.Window.{within, throughout}
use Rattle.rules.specs.Rows.{Row, plus, minus, ge, signed_byte, term_bytes, terms_bytes, row_bytes, rows_bytes}
use Rattle.rules.proofs.RowParts.{rows_bytes-append}
use Rattle.rules.proofs.WindowParts.{rows-each, terms-each, terms_bytes-append}
use Rattle.row.specs.Kinds.{over_rows}
use Rattle.row.specs.declared.Relation.TheVariants.{AtLeast}
use Rattle.rows_record.specs.Records.{head_of}
use Rattle.rows_family.specs.Put.{four-total}
use Rattle.window.specs.declared.Looks.{Looks}
use Rattle.window.specs.Slots.{variable_at, variables}
use Rattle.window.proofs.Slots.{length-variables}

pub head-length : (count : ℕ) (right : ℤ) → length (head_of AtLeast count right) ≡ 5
unfolding head_of
head-length count right = refl

-- where the cursor stands past a head
pub head-ends : (count : ℕ) (right : ℤ) {a b : Cursor} → Puts (head_of AtLeast count right) a b → b.at ≡ a.at + 5
head-ends count right p = omega (arith, p.put.ends, head-length count right)

-- P is the node's variable, and v its part's
abbrev above_row : (P v : ℕ) → Row
above_row P v = ge (plus P ∷ minus v ∷ []) (pos 0)

abbrev below_row : (P v : ℕ) → Row
below_row P v = ge (plus v ∷ minus P ∷ []) (pos 0)

abbrev pub above_of : (P v : ℕ) → List ℕ
above_of P v = row_bytes (above_row P v)

abbrev pub below_of : (P v : ℕ) → List ℕ
below_of P v = row_bytes (below_row P v)

abbrev pub term_of : (coefficient : ℤ) (v : ℕ) → List ℕ
term_of c v = term_bytes (record { coefficient = c; variable = v })

-- bytes by a variable: at the slots of a window, where p is the part's variable at the first slot of all
unfoldable pub each : (ℕ → List ℕ) → Looks → (p : ℕ) → List ℕ
each g w p = flat (λ i. g (variable_at w p i)) w.count

abbrev pub aboves : (P : ℕ) → Looks → (p : ℕ) → List ℕ
aboves P w p = each (above_of P) w p

abbrev pub belows : (P : ℕ) → Looks → (p : ℕ) → List ℕ
belows P w p = each (below_of P) w p

abbrev pub terms : (coefficient : ℤ) → Looks → (p : ℕ) → List ℕ
terms c w p = each (term_of c) w p

-- and at n slots one after the other, where p is its variable at the first of them
abbrev pub range_at : (ℕ → List ℕ) → (p i : ℕ) → List ℕ
range_at g p i = g (p + i)

unfoldable pub range : (ℕ → List ℕ) → (p n : ℕ) → List ℕ
range g p n = flat (range_at g p) n

flat-split : (f : ℕ → List ℕ) (m n : ℕ) → flat f (m + n) ≡ flat f m ++ flat (λ i. f (m + i)) n
unfolding flat
flat-split f m zero = let e : m + zero ≡ m = omega arith in ap (flat f) e ∙ sym (append-nil (flat f m))
flat-split f m (suc n) =
    let e : m + suc n ≡ m + n + 1 = omega arith in
    ap (flat f) e ∙ flat-more f (m + n) ∙ ap (λ (l : List ℕ). l ++ f (m + n)) (flat-split f m n)
    ∙ append_assoc (flat f m) (flat (λ i. f (m + i)) n) (f (m + n))

-- a window's slots are one range or two
module _ (g : ℕ → List ℕ) (w : Looks) (p : ℕ) where
  pub two-ranges : each g w p ≡ range g (p + w.first) w.head ++ range g (p + w.first + w.head + w.skip) w.rest
  unfolding each range
  two-ranges =
      let n = w.rest in
      let e : w.count ≡ w.head + n = omega (arith, w.ranges) in
      ap (flat (λ i. g (variable_at w p i))) e ∙ flat-split (λ i. g (variable_at w p i)) w.head n
      ∙ ap₂ ◌++◌
      (flat-same (λ i. g (variable_at w p i)) (range_at g (p + w.first)) w.head
      (λ i l. ap g (rw (lt-ltb i w.head (omega arith)) (omega arith))))
      (flat-same (λ i. g (variable_at w p (w.head + i))) (range_at g (p + w.first + w.head + w.skip)) n
      (λ i l. ap g (rw (le-ltb (w.head + i) w.head (omega arith)) (omega arith))))

  pub one-range : w.rest ≡ 0 → each g w p ≡ range g (p + w.first) w.head
  unfolding range flat
  one-range h =
      two-ranges ∙ ap (λ (n : ℕ). range g (p + w.first) w.head ++ range g (p + w.first + w.head + w.skip) n) h
      ∙ append-nil (range g (p + w.first) w.head)

-- their variables are within 16 bits
module _ (w : Looks) where
  pub first-low : w.first < 64
  first-low = omega (arith, w.places 0 w.some)

  pub second-low : w.head < w.count → w.first + w.head + w.skip < 64
  second-low h = let e = le-ltb w.head w.head (omega arith) in omega (arith, rw e at (w.places w.head h))

module _ (P : ℕ) (w : Looks) (p : ℕ) where
  abbrev vs : List ℕ
  vs = variables w p

  aboves-are : aboves P w p ≡ rows_bytes (map (λ v. ge (plus P ∷ minus v ∷ []) (pos 0)) vs)
  unfolding each variables
  aboves-are =
      sym (ap rows_bytes (map-tabulate (above_row P) w.count (variable_at w p)) ∙ rows-each (λ i. above_row P (variable_at w p i)) w.count)

  belows-are : belows P w p ≡ rows_bytes (map (λ v. ge (plus v ∷ minus P ∷ []) (pos 0)) vs)
  unfolding each variables
  belows-are =
      sym (ap rows_bytes (map-tabulate (below_row P) w.count (variable_at w p)) ∙ rows-each (λ i. below_row P (variable_at w p i)) w.count)

  pluses-are : terms (pos 1) w p ≡ terms_bytes (map plus vs)
  unfolding each variables
  pluses-are = sym (ap terms_bytes (map-tabulate plus w.count (variable_at w p)) ∙ terms-each (λ i. plus (variable_at w p i)) w.count)

  minuses-are : terms (negsuc 0) w p ≡ terms_bytes (map minus vs)
  unfolding each variables
  minuses-are = sym (ap terms_bytes (map-tabulate minus w.count (variable_at w p)) ∙ terms-each (λ i. minus (variable_at w p i)) w.count)

  -- "P − p(s) ≥ 0 for each s, then the sum of all p(s), less P, ≥ 0"
  abbrev long_within : Row
  long_within = ge (map plus vs ++ (minus P ∷ [])) (pos 0)

  long-within : head_of AtLeast (w.count + 1) (pos 0) ++ (terms (pos 1) w p ++ term_bytes (minus P)) ≡ row_bytes long_within
  unfolding head_of
  long-within =
      let k : w.count + 1 ≡ length (map plus vs ++ (minus P ∷ [])) =
      omega (arith, length-append (map plus vs) (minus P ∷ []), length-map vs plus, length-variables w p) in
      ap₂ (λ (n : ℕ) (l : List ℕ). 0x52 ∷ 0x57 ∷ 1 ∷ n ∷ 0 ∷ l) k
      (ap (λ (l : List ℕ). l ++ term_bytes (minus P)) pluses-are ∙ sym (terms_bytes-append (map plus vs) (minus P ∷ [])))

  pub within-bytes : ((aboves P w p ++ head_of AtLeast (w.count + 1) (pos 0)) ++ terms (pos 1) w p) ++ term_bytes (minus P) ≡ rows_bytes (over_rows within P vs)
  within-bytes =
      append_assoc (aboves P w p ++ head_of AtLeast (w.count + 1) (pos 0)) (terms (pos 1) w p) (term_bytes (minus P))
      ∙ append_assoc (aboves P w p) (head_of AtLeast (w.count + 1) (pos 0)) (terms (pos 1) w p ++ term_bytes (minus P))
      ∙ ap₂ ◌++◌ aboves-are (long-within ∙ sym (append-nil (row_bytes long_within)))
      ∙ sym (rows_bytes-append (map (λ v. ge (plus P ∷ minus v ∷ []) (pos 0)) vs) (long_within ∷ []))

  -- "p(s) − P ≥ 0 for each s, then P less all p(s) ≥ −(k − 1)"
  abbrev long_throughout : Row
  long_throughout = ge (plus P ∷ map minus vs) (neg_ℤ (pos (length vs - 1)))

  abbrev throughout_head : List ℕ
  throughout_head = head_of AtLeast (w.count + 1) (neg_ℤ (pos (w.count - 1)))

  long-throughout : throughout_head ++ (term_bytes (plus P) ++ terms (negsuc 0) w p) ≡ row_bytes long_throughout
  unfolding head_of
  long-throughout =
      let k : w.count + 1 ≡ length (plus P ∷ map minus vs) = omega (arith, length-map vs minus, length-variables w p) in
      let e : w.count ≡ length vs = sym (length-variables w p) in
      let f : signed_byte (neg_ℤ (pos (w.count - 1))) ≡ signed_byte (neg_ℤ (pos (length vs - 1))) = ap (λ (n : ℕ). signed_byte (neg_ℤ (pos (n - 1)))) e in
      λ i. 0x52 ∷ 0x57 ∷ 1 ∷ k i ∷ f i ∷ (term_bytes (plus P) ++ minuses-are i)

  pub throughout_bytes : ((belows P w p ++ throughout_head) ++ term_bytes (plus P)) ++ terms (negsuc 0) w p ≡ rows_bytes (over_rows throughout P vs)
  throughout_bytes =
      append_assoc (belows P w p ++ throughout_head) (term_bytes (plus P)) (terms (negsuc 0) w p)
      ∙ append_assoc (belows P w p) throughout_head (term_bytes (plus P) ++ terms (negsuc 0) w p)
      ∙ ap₂ ◌++◌ belows-are (long-throughout ∙ sym (append-nil (row_bytes long_throughout)))
      ∙ sym (rows_bytes-append (map (λ v. ge (plus v ∷ minus P ∷ []) (pos 0)) vs) (long_throughout ∷ []))

  -- where the parts have room
  pub within-total : length (rows_bytes (over_rows within P vs)) ≡ length (aboves P w p) + 5 + length (terms (pos 1) w p) + 3
  within-total =
      let head = head_of AtLeast (w.count + 1) (pos 0) in
      let all = four-total (aboves P w p) head (terms (pos 1) w p) (term_bytes (minus P)) (over_rows within P vs) within-bytes in
      omega (arith, all, head-length (w.count + 1) (pos 0))

  pub throughout_total : length (rows_bytes (over_rows throughout P vs)) ≡ length (belows P w p) + 5 + 3 + length (terms (negsuc 0) w p)
  throughout_total =
      let all = four-total (belows P w p) throughout_head (term_bytes (plus P)) (terms (negsuc 0) w p) (over_rows throughout P vs) throughout_bytes in
      omega (arith, all, head-length (w.count + 1) (neg_ℤ (pos (w.count - 1))))
