-- The fields of a line as they are put: what stands there, and the spaces up to the next field.
use Rattle.std.specs.Prelude.{◌≡◌, refl, List, [], ◌∷◌, ◌++◌, ℕ, suc, ◌+◌, ◌-◌, ◌≤◌, ℤ, pos, length, replicate}
use Rattle.std.proofs.Common.{sym, ap, ap₂, ◌∙◌, append_assoc, arith, length-append}
use Rattle.std.proofs.lemmas.List.{length-replicate, replicate-append-replicate}
use Rattle.endian.specs.Words.{little_endian}
use Rattle.text.specs.Decimal.{decimal, signed_text}
use Rattle.mps.specs.Page.{field, ended, variable_name, type_line, number_line, binary_line, upper_line}

abbrev pub space : ℕ
space = 32

-- a text, and spaces up to k bytes
abbrev pub padded : (k : ℕ) → List ℕ → List ℕ
padded k text = text ++ replicate (k - length text) space

-- a name of at most 8 bytes and two spaces more
pub padded-more : (name : List ℕ) → length name ≤ 8 → padded 8 name ++ (32 ∷ 32 ∷ []) ≡ padded 10 name
padded-more name h =
    let n = length name in
    append_assoc name (replicate (8 - n) space) (32 ∷ 32 ∷ [])
    ∙ ap (λ (l : List ℕ). name ++ l) (replicate-append-replicate (8 - n) 2 space ∙ ap (λ (k : ℕ). replicate k space) (let z : 8 - n + 2 ≡ 10 - n = omega arith in z))

pub length-padded : (k : ℕ) (text : List ℕ) → length text ≤ k → length (padded k text) ≡ k
length-padded k text h = simp (length-append, length-replicate) (omega arith)

-- a letter before a number
pub padded-first : (letter n : ℕ) {xs : List ℕ} → xs ≡ letter ∷ padded 7 (decimal n) → xs ≡ padded 8 (letter ∷ decimal n)
padded-first letter n e =
    let z : 7 - length (decimal n) ≡ 8 - suc (length (decimal n)) = omega arith in
    e ∙ ap (λ (k : ℕ). letter ∷ (decimal n ++ replicate k space)) z

-- a field of ten columns behind what has come to its column
next_field : (column : ℕ) (text name content : List ℕ) → length (text ++ name) ≡ column - 11 + length name → 11 ≤ column →
    field column (text ++ name) content ≡ (text ++ padded 10 name) ++ content
unfolding field
next_field column text name content e h =
    let z : column - 1 - length (text ++ name) ≡ 10 - length name = omega arith in
    ap (λ (k : ℕ). (text ++ name) ++ (replicate k space ++ content)) z
    ∙ sym (append_assoc (text ++ name) (replicate (10 - length name) space) content)
    ∙ ap (λ (l : List ℕ). l ++ content) (append_assoc text name (replicate (10 - length name) space))

-- ---- the lines by their fields

pub type_fields : (letter : ℕ) (name : List ℕ) → type_line (letter ∷ []) name ≡ ((32 ∷ letter ∷ 32 ∷ 32 ∷ []) ++ name) ++ (10 ∷ [])
unfolding type_line field
type_fields letter name = refl

-- a word's bytes, and two spaces
abbrev pub word_field : ℕ → List ℕ
word_field w = little_endian 8 w ++ (32 ∷ 32 ∷ [])

-- they are the field of a name that the word has, with spaces up to 8 bytes
pub field-of : (w : ℕ) (name : List ℕ) → length name ≤ 8 → little_endian 8 w ≡ padded 8 name → word_field w ≡ padded 10 name
field-of w name h e = ap (λ (l : List ℕ). l ++ (32 ∷ 32 ∷ [])) e ∙ padded-more name h

-- four spaces, and two words as fields
abbrev pub word_fields : (first second : ℕ) → List ℕ
word_fields first second = ((32 ∷ 32 ∷ 32 ∷ 32 ∷ []) ++ word_field first) ++ word_field second

-- four spaces, and two fields
abbrev pub fields : (name row : List ℕ) → List ℕ
fields name row = ((32 ∷ 32 ∷ 32 ∷ 32 ∷ []) ++ padded 10 name) ++ padded 10 row

pub fields-of : (first second : ℕ) (name row : List ℕ) → length name ≤ 8 → length row ≤ 8 → little_endian 8 first ≡ padded 8 name →
    little_endian 8 second ≡ padded 8 row → word_fields first second ≡ fields name row
fields-of first second name row h g e f =
    ap₂ (λ (a b : List ℕ). ((32 ∷ 32 ∷ 32 ∷ 32 ∷ []) ++ a) ++ b) (field-of first name h e) (field-of second row g f)

pub number_fields : (name row : List ℕ) (c : ℤ) → length name ≤ 8 → length row ≤ 8 →
    number_line name row c ≡ (fields name row ++ signed_text c) ++ (10 ∷ [])
unfolding number_line field
number_fields name row c h g =
    let blank : List ℕ = 32 ∷ 32 ∷ 32 ∷ 32 ∷ [] in
    let first = next_field 15 blank name row (length-append blank name) (omega arith) in
    let wide : length (blank ++ padded 10 name) ≡ 14 = length-append blank (padded 10 name) ∙ ap (λ (n : ℕ). 4 + n) (length-padded 10 name (omega arith)) in
    let long : length ((blank ++ padded 10 name) ++ row) ≡ 14 + length row =
    length-append (blank ++ padded 10 name) row ∙ ap (λ (n : ℕ). n + length row) wide in
    ap (λ (l : List ℕ). ended (field 25 l (signed_text c))) first
    ∙ ap ended (next_field 25 (blank ++ padded 10 name) row (signed_text c) long (omega arith))

pub binary_fields : (v : ℕ) → binary_line v ≡ ((32 ∷ 66 ∷ 86 ∷ 32 ∷ 66 ∷ 78 ∷ 68 ∷ 32 ∷ 32 ∷ 32 ∷ 32 ∷ 32 ∷ 32 ∷ 32 ∷ []) ++ variable_name v) ++ (10 ∷ [])
unfolding binary_line field
binary_fields v = refl

pub upper_fields : (v : ℕ) → length (variable_name v) ≤ 8 → upper_line v ≡
    (((32 ∷ 85 ∷ 80 ∷ 32 ∷ 66 ∷ 78 ∷ 68 ∷ 32 ∷ 32 ∷ 32 ∷ 32 ∷ 32 ∷ 32 ∷ 32 ∷ []) ++ padded 10 (variable_name v)) ++ signed_text (pos 1)) ++ (10 ∷ [])
unfolding upper_line field
upper_fields v h =
    let before : List ℕ = 32 ∷ 85 ∷ 80 ∷ 32 ∷ 66 ∷ 78 ∷ 68 ∷ 32 ∷ 32 ∷ 32 ∷ 32 ∷ 32 ∷ 32 ∷ 32 ∷ [] in
    ap ended (next_field 25 before (variable_name v) (signed_text (pos 1)) (length-append before (variable_name v)) (omega arith))
