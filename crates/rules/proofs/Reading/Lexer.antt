-- The lexer: the token at a position of a text, and its laws. Reading.antt proves what lexer and parser come to; none of it is trusted.
use Rattle.rules.specs.Reading.Lexer.{Ends, Numeric, Token, atom_at, digits, is_digit, is_numeral, number_at, past_sign, sign_at, spaces, start, token_at, token_from, value}
use Rattle.std.specs.Prelude.{◌≡◌, refl, Bool, true, false, cond, List, [], ◌∷◌, ℕ, zero, suc, ◌+◌, ◌-◌, ◌*◌, ◌≤◌, ◌<◌, length, get_or, drop, ltb, leb, eqb}
use Rattle.std.proofs.Common.{sym, ◌∙◌, subst, arith, add-one, length-drop, drop_of_length-le, drop-cons, ltb-true, leb-true, eqb-true, lt-ltb, le-ltb, le-leb, eq-eqb, ne_eqb}
use Rattle.std.proofs.Math.Path.{ap}
use Rattle.std.proofs.lemmas.Bool.{eqb-false, lt-leb}

-- ---- tests

digit-cases : (c : ℕ) (a b : Bool) → leb 48 c ≡ a → leb c 57 ≡ b → cond a b false ≡ true → (48 ≤ c) × (c ≤ 57)
digit-cases c true true e f h = (leb-true 48 c e, leb-true c 57 f)
digit-cases c true false e f h = let z : ◌≡◌ {A = ℕ} 0 1 = cc in absurd (omega arith)
digit-cases c false b e f h = let z : ◌≡◌ {A = ℕ} 0 1 = cc in absurd (omega arith)

pub digit-true : (c : ℕ) → is_digit c ≡ true → (48 ≤ c) × (c ≤ 57)
digit-true c h = digit-cases c (leb 48 c) (leb c 57) refl refl h

pub digit-is : (c : ℕ) → 48 ≤ c → c ≤ 57 → is_digit c ≡ true
digit-is c lo hi = rw (le-leb 48 c lo) (le-leb c 57 hi)

pub digit_low : (c : ℕ) → c < 48 → is_digit c ≡ false
digit_low c h = rw (lt-leb 48 c h) refl

pub digit-high : (c : ℕ) → 57 < c → is_digit c ≡ false
digit-high c h = rw (le-leb 48 c (omega arith)) (lt-leb c 57 h)

many_true : (k c : ℕ) (b : Bool) → eqb c 48 ≡ b → cond b false true ≡ true → Numeric (suc (suc k)) c
many_true k c true e h = let z : ◌≡◌ {A = ℕ} 0 1 = cc in absurd (omega arith)
many_true k c false e h = record { one_up = omega arith; no_zero = λ l. eqb-false c 48 e }

numeral-true : (k c : ℕ) → is_numeral k c ≡ true → Numeric k c
unfolding is_numeral
numeral-true zero c h = let z : ◌≡◌ {A = ℕ} 0 1 = cc in absurd (omega arith)
numeral-true (suc zero) c h = record { one_up = omega arith; no_zero = λ l e. omega arith }
numeral-true (suc (suc k)) c h = many_true k c (eqb c 48) refl h

pub numeral-is : (k c : ℕ) → Numeric k c → is_numeral k c ≡ true
unfolding is_numeral
numeral-is zero c n = absurd (omega arith)
numeral-is (suc zero) c n = refl
numeral-is (suc (suc k)) c n = ap (λ (b : Bool). cond b false true) (ne_eqb c 48 (n.no_zero (omega arith)))

pub numeral-empty : (k c : ℕ) → k ≡ 0 → is_numeral k c ≡ false
unfolding is_numeral
numeral-empty k c e = rw e refl

pub numeral-zero : (k c : ℕ) → 1 < k → c ≡ 48 → is_numeral k c ≡ false
unfolding is_numeral
numeral-zero zero c l e = absurd (omega arith)
numeral-zero (suc zero) c l e = absurd (omega arith)
numeral-zero (suc (suc k)) c l e = ap (λ (b : Bool). cond b false true) (eq-eqb c 48 e)

-- ---- runs of spaces and of digits, at a position

next-is : (s : List ℕ) (i : ℕ) → i < length s → drop i s ≡ get_or s i 0 ∷ drop (i + 1) s
next-is s i h = rw (add-one, drop-cons s i 0)

pub spaces-end : (s : List ℕ) (i : ℕ) → length s ≤ i → spaces (drop i s) ≡ 0
unfolding spaces
spaces-end s i h = ap spaces (drop_of_length-le s h)

pub spaces_stop : (s : List ℕ) (i : ℕ) → i < length s → (get_or s i 0 ≡ 32 → ⊥) → spaces (drop i s) ≡ 0
unfolding spaces
spaces_stop s i h e = ap spaces (next-is s i h) ∙ rw (ne_eqb (get_or s i 0) 32 e) refl

pub spaces-more : (s : List ℕ) (i : ℕ) → i < length s → get_or s i 0 ≡ 32 → spaces (drop i s) ≡ suc (spaces (drop (i + 1) s))
unfolding spaces
spaces-more s i h e = ap spaces (next-is s i h) ∙ rw (eq-eqb (get_or s i 0) 32 e) refl

-- the digits end at i, and the number is v
pub record Over (s : List ℕ) (i v : ℕ) : Type 0 where
  pub count : digits (drop i s) ≡ 0
  pub number : value v (drop i s) ≡ v

pub digits-end : (s : List ℕ) (i v : ℕ) → length s ≤ i → Over s i v
unfolding digits value
digits-end s i v h = record { count = ap digits (drop_of_length-le s h); number = ap (value v) (drop_of_length-le s h) }

pub digits_stop : (s : List ℕ) (i v : ℕ) → i < length s → is_digit (get_or s i 0) ≡ false → Over s i v
unfolding digits value
digits_stop s i v h e = record { count = ap digits (next-is s i h) ∙ rw e refl; number = ap (value v) (next-is s i h) ∙ rw e refl }

-- one digit more at i, behind the number v
pub record Longer (s : List ℕ) (i v : ℕ) : Type 0 where
  pub count : digits (drop i s) ≡ suc (digits (drop (i + 1) s))
  pub number : value v (drop i s) ≡ value (10 * v + (get_or s i 0 - 48)) (drop (i + 1) s)

pub digits_more : (s : List ℕ) (i v : ℕ) → i < length s → is_digit (get_or s i 0) ≡ true → Longer s i v
unfolding digits value
digits_more s i v h e = record { count = ap digits (next-is s i h) ∙ rw e refl; number = ap (value v) (next-is s i h) ∙ rw e refl }

digits_le_step : (b : Bool) (n m : ℕ) → n ≤ m → cond b (suc n) 0 ≤ suc m
digits_le_step true n m h = omega arith
digits_le_step false n m h = omega arith

pub digits_le : (s : List ℕ) → digits s ≤ length s
unfolding digits
digits_le [] = omega arith
digits_le (c ∷ s) = digits_le_step (is_digit c) (digits s) (length s) (digits_le s)

-- ---- what a token says of the text

pub record IsSign (s : List ℕ) (p b next : ℕ) : Type 0 where
  pub inside : p < length s
  pub byte : get_or s p 0 ≡ b
  pub past : next ≡ p + 1

pub record IsAtom (s : List ℕ) (p a next : ℕ) : Type 0 where
  pub inside : p < length s
  pub letter : get_or s p 0 ≡ 97
  pub numeric : Numeric (digits (drop (p + 1) s)) (get_or s (p + 1) 0)
  pub number : a ≡ value 0 (drop (p + 1) s)
  pub past : next ≡ p + 1 + digits (drop (p + 1) s)

abbrev Is : List ℕ → ℕ → Token → Type 0
Is s p Token.none = Unit {0}
Is s p (Token.sign b next) = IsSign s p b next
Is s p (Token.atom a next) = IsAtom s p a next

-- a token by a test is as the test says
is_cond : (s : List ℕ) (p : ℕ) (b : Bool) (x y : Token) → (b ≡ true → Is s p x) → (b ≡ false → Is s p y) → Is s p (cond b x y)
is_cond s p true x y h k = h refl
is_cond s p false x y h k = k refl

is-atom : (s : List ℕ) (p : ℕ) → p < length s → get_or s p 0 ≡ 97 → Is s p (atom_at s (p + 1))
is-atom s p h e =
    let l = drop (p + 1) s in
    is_cond s p (is_numeral (digits l) (get_or s (p + 1) 0)) (Token.atom (value 0 l) (p + 1 + digits l)) Token.none
    (λ f. record { inside = h; letter = e; numeric = numeral-true (digits l) (get_or s (p + 1) 0) f; number = refl; past = refl }) (λ f. tt)

is_token : (s : List ℕ) (p : ℕ) → Is s p (token_from s p)
is_token s p =
    let other = Token.sign (get_or s p 0) (p + 1) in
    is_cond s p (ltb p (length s)) (cond (eqb (get_or s p 0) 97) (atom_at s (p + 1)) other) Token.none
    (λ h. is_cond s p (eqb (get_or s p 0) 97) (atom_at s (p + 1)) other (λ e. is-atom s p (ltb-true p (length s) h) (eqb-true (get_or s p 0) 97 e))
    (λ e. record { inside = ltb-true p (length s) h; byte = refl; past = refl }))
    (λ h. tt)

pub sign-is : (s : List ℕ) (at b next : ℕ) → token_at s at ≡ Token.sign b next → IsSign s (start s at) b next
unfolding token_at
sign-is s at b next e = subst (λ (t : Token). Is s (start s at) t) e (is_token s (start s at))

pub atom-is : (s : List ℕ) (at a next : ℕ) → token_at s at ≡ Token.atom a next → IsAtom s (start s at) a next
unfolding token_at
atom-is s at a next e = subst (λ (t : Token). Is s (start s at) t) e (is_token s (start s at))

pub record IsNumber (s : List ℕ) (p a next : ℕ) : Type 0 where
  pub numeric : Numeric (digits (drop p s)) (get_or s p 0)
  pub number : a ≡ value 0 (drop p s)
  pub past : next ≡ p + digits (drop p s)

number-cases : (s : List ℕ) (p a next : ℕ) (b : Bool) → is_numeral (digits (drop p s)) (get_or s p 0) ≡ b →
    cond b (Token.atom (value 0 (drop p s)) (p + digits (drop p s))) Token.none ≡ Token.atom a next → IsNumber s p a next
number-cases s p a next true e h =
    let v : value 0 (drop p s) ≡ a = cc in
    let w : p + digits (drop p s) ≡ next = cc in
    record { numeric = numeral-true (digits (drop p s)) (get_or s p 0) e; number = sym v; past = sym w }
number-cases s p a next false e h = let z : ◌≡◌ {A = ℕ} 0 1 = cc in absurd (omega arith)

pub number_is : (s : List ℕ) (at a next : ℕ) → number_at s at ≡ Token.atom a next → IsNumber s (start s at) a next
unfolding number_at
number_is s at a next e = number-cases s (start s at) a next (is_numeral (digits (drop (start s at) s)) (get_or s (start s at) 0)) refl e

pub number-ends : (s : List ℕ) (at a next : ℕ) → number_at s at ≡ Token.atom a next → (at < next) × (next ≤ length s)
number-ends s at a next e =
    let g = number_is s at a next e in
    omega (arith, g.past, g.numeric.one_up, digits_le (drop (start s at) s), length-drop (start s at) s)

-- the number where its digits begin at p
pub number-at : (s : List ℕ) (at p : ℕ) → p ≡ start s at → Numeric (digits (drop p s)) (get_or s p 0) →
    number_at s at ≡ Token.atom (value 0 (drop p s)) (p + digits (drop p s))
unfolding number_at
number-at s at p e n = ap (atom_at s) (sym e) ∙ rw (numeral-is (digits (drop p s)) (get_or s p 0) n) refl

is-ends : (s : List ℕ) (at p : ℕ) (t : Token) → at ≤ p → Is s p t → Ends s at t
is-ends s at p Token.none b h = tt
is-ends s at p (Token.sign c next) b h = omega arith
is-ends s at p (Token.atom a next) b h = omega (arith, digits_le (drop (p + 1) s), length-drop (p + 1) s)

pub token_ends : (s : List ℕ) (at : ℕ) → Ends s at (token_at s at)
unfolding token_at
token_ends s at = is-ends s at (start s at) (token_from s (start s at)) (omega arith) (is_token s (start s at))

-- ---- the token by the text

module _ (s : List ℕ) (at p : ℕ) (past : p ≡ start s at) where
  token_as : token_at s at ≡ token_from s p
  unfolding token_at
  token_as = ap (token_from s) (sym past)

  pub token_none : length s ≤ p → token_at s at ≡ Token.none
  token_none h = token_as ∙ rw (le-ltb p (length s) h) refl

  pub token_sign : p < length s → (get_or s p 0 ≡ 97 → ⊥) → token_at s at ≡ Token.sign (get_or s p 0) (p + 1)
  token_sign h e = token_as ∙ rw (lt-ltb p (length s) h, ne_eqb (get_or s p 0) 97 e) refl

  pub token_letter : p < length s → get_or s p 0 ≡ 97 → token_at s at ≡ atom_at s (p + 1)
  token_letter h e = token_as ∙ rw (lt-ltb p (length s) h, eq-eqb (get_or s p 0) 97 e) refl

  pub token_bad : p < length s → get_or s p 0 ≡ 97 → is_numeral (digits (drop (p + 1) s)) (get_or s (p + 1) 0) ≡ false → token_at s at ≡ Token.none
  token_bad h e f = token_letter h e ∙ rw f refl

  pub token_atom : p < length s → get_or s p 0 ≡ 97 → Numeric (digits (drop (p + 1) s)) (get_or s (p + 1) 0) →
      token_at s at ≡ Token.atom (value 0 (drop (p + 1) s)) (p + 1 + digits (drop (p + 1) s))
  token_atom h e f = token_letter h e ∙ rw (numeral-is (digits (drop (p + 1) s)) (get_or s (p + 1) 0) f) refl

-- ---- signs

sign-cases : (b c next q : ℕ) (x : Bool) → eqb c b ≡ x → cond x next 0 ≡ suc q → Token.sign c next ≡ Token.sign b (suc q)
sign-cases b c next q true e h = ap (λ (y : ℕ). Token.sign y next) (eqb-true c b e) ∙ ap (Token.sign b) h
sign-cases b c next q false e h = absurd (omega arith)

past-sign : (b q : ℕ) (t : Token) → past_sign b t ≡ suc q → t ≡ Token.sign b (suc q)
past-sign b q Token.none h = absurd (omega arith)
past-sign b q (Token.atom a next) h = absurd (omega arith)
past-sign b q (Token.sign c next) h = sign-cases b c next q (eqb c b) refl h

pub sign_token : (s : List ℕ) (at b q : ℕ) → sign_at s at b ≡ suc q → token_at s at ≡ Token.sign b (suc q)
unfolding sign_at
sign_token s at b q e = past-sign b q (token_at s at) e

pub token_past : (s : List ℕ) (at b q : ℕ) → token_at s at ≡ Token.sign b q → sign_at s at b ≡ q
unfolding sign_at
token_past s at b q e = ap (past_sign b) e ∙ rw (eq-eqb b b refl) refl

pub sign-ends : (s : List ℕ) (at b q : ℕ) → sign_at s at b ≡ suc q → (at < suc q) × (suc q ≤ length s)
sign-ends s at b q e = subst (Ends s at) (sign_token s at b q e) (token_ends s at)

-- one sign at a position is no other
pub sign-other : (s : List ℕ) (at b c q : ℕ) → (b ≡ c → ⊥) → sign_at s at b ≡ suc q → sign_at s at c ≡ 0
unfolding sign_at
sign-other s at b c q ne h = ap (past_sign c) (sign_token s at b q h) ∙ rw (ne_eqb b c ne) refl

pub sign-none : (s : List ℕ) (at b : ℕ) → token_at s at ≡ Token.none → sign_at s at b ≡ 0
unfolding sign_at
sign-none s at b e = ap (past_sign b) e
