-- Lines with fields, read back: what `field` puts at a column is what `fields_in` finds there.
use Rattle.std.specs.Prelude.{◌≡◌, true, ℕ, zero, suc, ◌+◌, ◌-◌, ◌≤◌, ◌<◌, replicate, take, drop}
use Rattle.std.proofs.Math.Path.{refl, ap}
use Rattle.std.proofs.Common.{sym, ◌∙◌, ne_eqb, length-append, drop_of_length-le, take_at, drop_at, take_all, drop-drop}
use mathlib.Core.List.{List, [], ◌∷◌, ◌++◌, append_assoc, append-nil}
use native.Mathlib.Omega.{arith}
use Rattle.std.proofs.Math.ListN.{length}
use Rattle.std.proofs.lemmas.List.{length-replicate}
use Rattle.lists.specs.Every.{Every, every_append}
use Rattle.mps.specs.Page.{field}
use Rattle.mps.specs.Parsing.{Fields, trimmed, unless_end, fields_in, indented}
use Rattle.mps.proofs.Numbers.{Solid}

-- ---- a text and spaces, up to a width

abbrev padded : (width : ℕ) → List ℕ → List ℕ
padded width x = x ++ replicate (width - length x) 32

length-padded : (width : ℕ) (x : List ℕ) → length x ≤ width → length (padded width x) ≡ width
length-padded width x h = simp (length-append, length-replicate) (omega arith)

trimmed-spaces : (n : ℕ) → trimmed (replicate n 32) ≡ []
unfolding trimmed
trimmed-spaces zero = refl
trimmed-spaces (suc n) = rw (trimmed-spaces n) refl

unless-end : (b : ℕ) (x : List ℕ) → 32 < b → unless_end b x ≡ b ∷ x
unless-end b [] h = rw (ne_eqb b 32 (λ e. omega arith)) refl
unless-end b (c ∷ x) h = refl

trimmed-append : (x : List ℕ) (n : ℕ) → Solid x → trimmed (x ++ replicate n 32) ≡ x
unfolding trimmed
trimmed-append [] n h = trimmed-spaces n
trimmed-append (b ∷ x) n h = ap (unless_end b) (trimmed-append x n h.1) ∙ unless-end b x h.0

trimmed-padded : (width : ℕ) (x : List ℕ) → Solid x → trimmed (padded width x) ≡ x
trimmed-padded width x h = trimmed-append x (width - length x) h

trimmed-solid : (x : List ℕ) → Solid x → trimmed x ≡ x
trimmed-solid x h = ap trimmed (sym (append-nil x)) ∙ trimmed-append x 0 h

-- ---- a text up to a column

field_at : (before x content : List ℕ) (column width : ℕ) → length before + width + 1 ≡ column →
    field column (before ++ x) content ≡ before ++ (padded width x ++ content)
unfolding field
field_at before x content column width e =
    let n : column - 1 - (length before + length x) ≡ width - length x = omega arith in
    simp (length-append, append_assoc, n)

-- ---- texts without line feeds

abbrev pub Unbroken : List ℕ → Type 0
Unbroken text = Every (λ b. 32 ≤ b) text

both-unbroken : (x y : List ℕ) → Unbroken x → Unbroken y → Unbroken (x ++ y)
both-unbroken x y h g = (every_append (λ b. 32 ≤ b) x y).1 (h, g)

solid-unbroken : (x : List ℕ) → Solid x → Unbroken x
solid-unbroken [] h = tt
solid-unbroken (b ∷ x) h = (omega arith, solid-unbroken x h.1)

spaces-unbroken : (n : ℕ) → Unbroken (replicate n 32)
spaces-unbroken zero = tt
spaces-unbroken (suc n) = (omega arith, spaces-unbroken n)

padded-unbroken : (width : ℕ) (x : List ℕ) → Solid x → Unbroken (padded width x)
padded-unbroken width x h = both-unbroken x (replicate (width - length x) 32) (solid-unbroken x h) (spaces-unbroken (width - length x))

-- ---- lines of two, three and four fields

-- a text without line feeds that begins with a space, and its fields
pub record Line (text : List ℕ) (fields : Fields) : Type 0 where
  pub unbroken : Unbroken text
  pub starts : indented text ≡ true
  pub reads : fields_in text ≡ fields

fields_are : {a b c d a' b' c' d' : List ℕ} → a ≡ a' → b ≡ b' → c ≡ c' → d ≡ d' →
    ◌≡◌ {A = Fields} (record { first = a; second = b; third = c; fourth = d }) (record { first = a'; second = b'; third = c'; fourth = d' })
fields_are p q r s = λ i. record { first = p i; second = q i; third = r i; fourth = s i }

-- a text that stands in a field as it is, with at most so many bytes
pub record Content (width : ℕ) (x : List ℕ) : Type 0 where
  pub solid : Solid x
  pub fits : length x ≤ width

module _ (a : List ℕ) (fa : Content 3 a) where
  -- by what stands from column 5 on
  after : (rest : List ℕ) → drop 3 (padded 3 a ++ rest) ≡ rest
  after rest = drop_at (padded 3 a) rest 3 (length-padded 3 a fa.fits)

  fields_after : (rest : List ℕ) →
      fields_in (32 ∷ (padded 3 a ++ rest)) ≡
      record { first = a; second = trimmed (take 10 rest); third = trimmed (take 10 (drop 10 rest)); fourth = trimmed (drop 20 rest) }
  unfolding fields_in
  fields_after rest =
      fields_are
      (ap trimmed (take_at (padded 3 a) rest 3 (length-padded 3 a fa.fits)) ∙ trimmed-padded 3 a fa.solid)
      (ap (λ (l : List ℕ). trimmed (take 10 l)) (after rest))
      (ap (λ (l : List ℕ). trimmed (take 10 l)) (sym (drop-drop 10 3 (padded 3 a ++ rest)) ∙ ap (drop 10) (after rest)))
      (ap trimmed (sym (drop-drop 20 3 (padded 3 a ++ rest)) ∙ ap (drop 20) (after rest)))

  two-text : (b : List ℕ) → field 5 (field 2 [] a) b ≡ 32 ∷ (padded 3 a ++ b)
  unfolding field
  two-text b = field_at (32 ∷ []) a b 5 3 (omega arith)

  pub two_fields : (b : List ℕ) → Content 10 b → Line (field 5 (field 2 [] a) b) (record { first = a; second = b; third = []; fourth = [] })
  unfolding trimmed
  two_fields b fb =
      rw (two-text b)
      (record {
        unbroken = (omega arith, both-unbroken (padded 3 a) b (padded-unbroken 3 a fa.solid) (solid-unbroken b fb.solid));
        starts = refl;
        reads =
            let e : length b ≤ 20 = omega (arith, fb.fits) in
            fields_after b ∙
            fields_are refl (ap trimmed (take_all 10 b fb.fits) ∙ trimmed-solid b fb.solid)
            (ap (λ (l : List ℕ). trimmed (take 10 l)) (drop_of_length-le b fb.fits)) (ap trimmed (drop_of_length-le b e));
      })

  module _ (b : List ℕ) (fb : Content 10 b) where
    -- by what stands from column 15 on
    next : (rest : List ℕ) → drop 10 (padded 10 b ++ rest) ≡ rest
    next rest = drop_at (padded 10 b) rest 10 (length-padded 10 b fb.fits)

    fields_next : (rest : List ℕ) →
        fields_in (32 ∷ (padded 3 a ++ (padded 10 b ++ rest))) ≡
        record { first = a; second = b; third = trimmed (take 10 rest); fourth = trimmed (drop 10 rest) }
    fields_next rest =
        fields_after (padded 10 b ++ rest) ∙
        fields_are refl (ap trimmed (take_at (padded 10 b) rest 10 (length-padded 10 b fb.fits)) ∙ trimmed-padded 10 b fb.solid)
        (ap (λ (l : List ℕ). trimmed (take 10 l)) (next rest))
        (ap trimmed (sym (drop-drop 10 10 (padded 10 b ++ rest)) ∙ ap (drop 10) (next rest)))

    three-text : (c : List ℕ) → field 15 (field 5 (field 2 [] a) b) c ≡ 32 ∷ (padded 3 a ++ (padded 10 b ++ c))
    three-text c = rw (two-text b) (field_at (32 ∷ padded 3 a) b c 15 10 (omega (arith, length-padded 3 a fa.fits)))

    next-unbroken : (rest : List ℕ) → Unbroken rest → Unbroken (32 ∷ (padded 3 a ++ (padded 10 b ++ rest)))
    next-unbroken rest h = (
      omega arith,
      both-unbroken (padded 3 a) (padded 10 b ++ rest) (padded-unbroken 3 a fa.solid)
          (both-unbroken (padded 10 b) rest (padded-unbroken 10 b fb.solid) h),
    )

    pub three_fields : (c : List ℕ) → Content 10 c →
        Line (field 15 (field 5 (field 2 [] a) b) c) (record { first = a; second = b; third = c; fourth = [] })
    unfolding trimmed
    three_fields c fc =
        rw (three-text c)
        (record {
          unbroken = next-unbroken c (solid-unbroken c fc.solid);
          starts = refl;
          reads =
              fields_next c ∙
              fields_are refl refl (ap trimmed (take_all 10 c fc.fits) ∙ trimmed-solid c fc.solid) (ap trimmed (drop_of_length-le c fc.fits));
        })

    four-text : (c d : List ℕ) → field 25 (field 15 (field 5 (field 2 [] a) b) c) d ≡ 32 ∷ (padded 3 a ++ (padded 10 b ++ (padded 10 c ++ d)))
    four-text c d =
        let n = length-padded 3 a fa.fits in
        let m = length-padded 10 b fb.fits in
        let e : length (32 ∷ (padded 3 a ++ padded 10 b)) + 10 + 1 ≡ 25 = omega (arith, length-append (padded 3 a) (padded 10 b)) in
        rw (three-text c, ← append_assoc (padded 3 a) (padded 10 b) c)
        (field_at (32 ∷ (padded 3 a ++ padded 10 b)) c d 25 10 e ∙ ap (λ (l : List ℕ). 32 ∷ l) (append_assoc (padded 3 a) (padded 10 b) (padded 10 c ++ d)))

    pub four_fields : (c d : List ℕ) → Content 10 c → Solid d →
        Line (field 25 (field 15 (field 5 (field 2 [] a) b) c) d) (record { first = a; second = b; third = c; fourth = d })
    four_fields c d fc hd =
        rw (four-text c d)
        (record {
          unbroken = next-unbroken (padded 10 c ++ d) (both-unbroken (padded 10 c) d (padded-unbroken 10 c fc.solid) (solid-unbroken d hd));
          starts = refl;
          reads =
              let n = length-padded 10 c fc.fits in
              fields_next (padded 10 c ++ d) ∙
              fields_are refl refl (ap trimmed (take_at (padded 10 c) d 10 n) ∙ trimmed-padded 10 c fc.solid)
              (ap trimmed (drop_at (padded 10 c) d 10 n) ∙ trimmed-solid d hd);
        })
