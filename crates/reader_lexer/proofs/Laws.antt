-- What the proofs of several functions use.
use mathlib.Core.Path.{◌≡◌, refl, sym, ap, ◌∙◌}
use mathlib.Core.Bool.{Bool, true, false, cond}
use mathlib.Core.List.{List, [], ◌∷◌}
use Prim.Native.Nat.{ℕ, ◌+◌, ◌-◌, ◌*◌, min, ◌≤◌, ◌<◌}
use native.Mathlib.Omega.{arith}
use lib.ListN.{length, get_or, drop}
use lib.Dec.{ltb, eqb}
use borrow.Author.Tests.{lt-ltb, le-ltb, eq-eqb, ne_eqb}
use Rattle.std.specs.Prelude.{◌&&◌, leb, Some, None}
use Rattle.std.specs.Char.{is_ascii_digit}
use Rattle.std.specs.Option.{option_map}
use Rattle.rules.specs.Reading.Lexer
use Rattle.rules.specs.Reading.Lexer.{start, digits, value, is_digit, is_numeral, Numeric, atom_at, past_sign, sign_at}
use Rattle.rules.proofs.Reading.Lexer.{spaces_stop, numeral-is, numeral-empty, numeral-zero}
use Rattle.reader_lexer.specs.declared.Number.{Number}
use Rattle.reader_lexer.specs.declared.Token.{Token}
use Rattle.reader_lexer.specs.declared.Token.TheVariants.{Atom}
use Rattle.reader_lexer.specs.Capped.{capped, number_of}
use Rattle.reader_lexer.specs.Signs.{sign_from, sign-skipped}

-- ---- 255 stands for all numbers from there on, and stays so

cap_step : (b : Bool) (x y v w : ℕ) → min 255 x ≡ min 255 y → min 255 v ≡ min 255 w → min 255 (cond b x v) ≡ min 255 (cond b y w)
cap_step true x y v w h k = h
cap_step false x y v w h k = k

pub value-capped : (s : List ℕ) (v w : ℕ) → min 255 v ≡ min 255 w → min 255 (value v s) ≡ min 255 (value w s)
unfolding value
value-capped [] v w h = h
value-capped (c ∷ s) v w h =
    cap_step (is_digit c) (value (10 * v + (c - 48)) s) (value (10 * w + (c - 48)) s) v w
    (value-capped s (10 * v + (c - 48)) (10 * w + (c - 48)) (omega arith)) h

-- ---- a digit, by the library's test

both_tests : (a b : Bool) → cond a b false ≡ (a && b)
both_tests true b = refl
both_tests false b = refl

pub digit-test : (c : ℕ) → is_digit c ≡ is_ascii_digit c
digit-test c = both_tests (leb 48 c) (leb c 57)

-- ---- digits as a number, by the tests of `numeral`

module _ (s : List ℕ) (d : ℕ) (x : Number) (end_is : x.next ≡ d + digits (drop d s)) (v-is : x.value ≡ min 255 (value 0 (drop d s))) where
  none_found : is_numeral (digits (drop d s)) (get_or s d 0) ≡ false → None ≡ number_of (atom_at s d)
  none_found e = rw e refl

  pub no_digit : x.next ≡ d → None ≡ number_of (atom_at s d)
  no_digit f = none_found (numeral-empty (digits (drop d s)) (get_or s d 0) (omega arith))

  pub zero-first : d + 1 < x.next → get_or s d 0 ≡ 48 → None ≡ number_of (atom_at s d)
  zero-first l z = none_found (numeral-zero (digits (drop d s)) (get_or s d 0) (omega arith) z)

  pub number-found : Numeric (digits (drop d s)) (get_or s d 0) → Some x ≡ number_of (atom_at s d)
  number-found n =
      rw (numeral-is (digits (drop d s)) (get_or s d 0) n)
      (ap (λ (v : ℕ). Some (record { value = v; next = x.next })) v-is
      ∙ ap (λ (e : ℕ). Some (record { value = min 255 (value 0 (drop d s)); next = e })) end_is)

-- an atom by its number
abbrev pub atom_of : Number → Token
atom_of x = Atom x.value x.next

capped-cond : (b : Bool) (v next : ℕ) →
    capped (cond b (Lexer.Token.atom v next) Lexer.Token.none) ≡ option_map atom_of (number_of (cond b (Lexer.Token.atom v next) Lexer.Token.none))
capped-cond true v next = refl
capped-cond false v next = refl

pub capped-number : (s : List ℕ) (d : ℕ) → capped (atom_at s d) ≡ option_map atom_of (number_of (atom_at s d))
capped-number s d = capped-cond (is_numeral (digits (drop d s)) (get_or s d 0)) (value 0 (drop d s)) (d + digits (drop d s))

-- ---- a sign, by the byte where its token begins

past_cond : (byte : ℕ) (b : Bool) (x y : Lexer.Token) → past_sign byte x ≡ 0 → past_sign byte y ≡ 0 → past_sign byte (cond b x y) ≡ 0
past_cond byte true x y h k = h
past_cond byte false x y h k = k

module _ (s : List ℕ) (p byte : ℕ) where
  pub byte-found : (byte ≡ 97 → ⊥) → p < length s → get_or s p 0 ≡ byte → sign_from s p byte ≡ p + 1
  unfolding sign_from
  byte-found ne h e = rw (lt-ltb p (length s) h, ne_eqb (get_or s p 0) 97 (λ f. ne (sym e ∙ f)), eq-eqb (get_or s p 0) byte e) refl

  pub byte-other : (get_or s p 0 ≡ byte → ⊥) → sign_from s p byte ≡ 0
  unfolding sign_from
  byte-other ne =
      let d = drop (p + 1) s in
      let atom = Lexer.Token.atom (value 0 d) (p + 1 + digits d) in
      let sign = Lexer.Token.sign (get_or s p 0) (p + 1) in
      past_cond byte (ltb p (length s)) (cond (eqb (get_or s p 0) 97) (atom_at s (p + 1)) sign) Lexer.Token.none
      (past_cond byte (eqb (get_or s p 0) 97) (atom_at s (p + 1)) sign
      (past_cond byte (is_numeral (digits d) (get_or s (p + 1) 0)) atom Lexer.Token.none refl refl) (rw (ne_eqb (get_or s p 0) byte ne) refl)) refl

  pub byte-none : length s ≤ p → sign_from s p byte ≡ 0
  unfolding sign_from
  byte-none h = rw (le-ltb p (length s) h) refl

  -- a sign at p itself is the token there
  pub sign-here : (byte ≡ 97 → ⊥) → (byte ≡ 32 → ⊥) → p < length s → get_or s p 0 ≡ byte → sign_at s p byte ≡ p + 1
  sign-here ne nb h e =
      let here : start s p ≡ p = omega (arith, spaces_stop s p h (λ f. nb (sym e ∙ f))) in
      sym (sign-skipped s p byte) ∙ ap (λ (q : ℕ). sign_from s q byte) here ∙ byte-found ne h e
