-- Numbers and names of a page, read back.
use Rattle.std.specs.Prelude.{◌≡◌, refl, List, [], ◌∷◌, ◌++◌, ℕ, suc, ◌+◌, ◌-◌, ◌*◌, ◌≤◌, ◌<◌, ℤ, pos, negsuc, length}
use Rattle.std.proofs.Common.{ap, ◌∙◌, append-nil, append_assoc, arith, le-leb, ne_eqb}
use Rattle.std.proofs.Math.Option.{some}
use Rattle.lists.specs.Every.{Every, every_append}
use Rattle.rules.specs.Grammar.{Numeral}
use Rattle.rules.specs.Grammar.Numeral.{digit, more}
use Rattle.text.specs.Decimal.{decimal, signed_text}
use Rattle.text.proofs.DecimalLaws.{numeral-decimal, below_1000000}
use Rattle.mps.specs.Parsing.{digits_in, number_in, with, whole_in}

-- ---- the bytes of a text without spaces and line feeds

abbrev pub Solid : List ℕ → Type 0
Solid text = Every (λ b. 32 < b) text

-- from the digit 0 on
abbrev High : List ℕ → Type 0
High text = Every (λ b. 48 ≤ b) text

high-solid : (text : List ℕ) → High text → Solid text
high-solid [] h = tt
high-solid (b ∷ text) h = (omega arith, high-solid text h.1)

numeral-high : {ds : List ℕ} {n : ℕ} → Numeral ds n → High ds
numeral-high (digit h) = (omega arith, tt)
numeral-high (more {ds} {n} {d} m l h) = (every_append (λ b. 48 ≤ b) ds ((48 + d) ∷ [])).1 (numeral-high m, (omega arith, tt))

pub decimal-solid : (n : ℕ) → Solid (decimal n)
decimal-solid n = high-solid (decimal n) (numeral-high (numeral-decimal n))

pub signed_solid : (c : ℤ) → Solid (signed_text c)
signed_solid (pos n) = decimal-solid n
signed_solid (negsuc n) = (omega arith, decimal-solid (suc n))

-- ---- a number

next-digit : (n d : ℕ) (rest : List ℕ) → d < 10 → digits_in n ((48 + d) ∷ rest) ≡ digits_in (10 * n + d) rest
unfolding digits_in
next-digit n d rest h =
    let e : 48 + d - 48 ≡ d = omega arith in
    rw (le-leb 48 (48 + d) (omega arith), le-leb (48 + d) 57 (omega arith), e) refl

digits_in_lem : {ds : List ℕ} {n : ℕ} → Numeral ds n → (rest : List ℕ) → digits_in 0 (ds ++ rest) ≡ digits_in n rest
digits_in_lem (digit {d} h) rest =
    let e : 10 * 0 + d ≡ d = omega arith in
    next-digit 0 d rest h ∙ ap (λ (k : ℕ). digits_in k rest) e
digits_in_lem (more {ds} {n} {d} m l h) rest =
    ap (digits_in 0) (append_assoc ds ((48 + d) ∷ []) rest) ∙ digits_in_lem m ((48 + d) ∷ rest) ∙ next-digit n d rest h

digits-all : {ds : List ℕ} {n : ℕ} → Numeral ds n → digits_in 0 ds ≡ some n
unfolding digits_in
digits-all {ds} {n} m = rw append-nil at (digits_in_lem m [])

-- no leading zero
abbrev FirstAbove : List ℕ → Type 0
FirstAbove [] = ⊥
FirstAbove (b ∷ l) = 48 < b

first-append : (ds rest : List ℕ) → FirstAbove ds → FirstAbove (ds ++ rest)
first-append [] rest h = absurd h
first-append (b ∷ ds) rest h = h

first-digit : {ds : List ℕ} {n : ℕ} → Numeral ds n → 0 < n → FirstAbove ds
first-digit (digit h) l = omega arith
first-digit (more {ds} {n} {d} m l h) g = first-append ds ((48 + d) ∷ []) (first-digit m l)

number-from : (ds : List ℕ) → FirstAbove ds → number_in ds ≡ digits_in 0 ds
number-from [] h = absurd h
number-from (b ∷ []) h = refl
number-from (b ∷ c ∷ ds) h = rw (ne_eqb b 48 (λ e. omega arith)) refl

number-numeral : {ds : List ℕ} {n : ℕ} → Numeral ds n → number_in ds ≡ digits_in 0 ds
number-numeral (digit h) = refl
number-numeral (more {ds} {n} {d} m l h) = number-from (ds ++ ((48 + d) ∷ [])) (first-append ds ((48 + d) ∷ []) (first-digit m l))

pub number-decimal : (n : ℕ) → number_in (decimal n) ≡ some n
number-decimal n = let m = numeral-decimal n in number-numeral m ∙ digits-all m

-- ---- a whole number

whole_from : (ds : List ℕ) → High ds → whole_in ds ≡ with (number_in ds) (λ n. some (pos n))
whole_from [] h = refl
whole_from (b ∷ ds) h = rw (ne_eqb b 45 (λ e. omega arith)) refl

pub whole_signed : (c : ℤ) → whole_in (signed_text c) ≡ some c
whole_signed (pos n) = whole_from (decimal n) (numeral-high (numeral-decimal n)) ∙ rw (number-decimal n) refl
whole_signed (negsuc n) = rw (number-decimal (suc n)) refl

-- ---- how long a name is

pub name-short : (letter n : ℕ) → n < 1000000 → length (letter ∷ decimal n) ≤ 10
name-short letter n h = omega (arith, below_1000000 n h)
