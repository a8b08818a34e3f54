-- A window of a text, with its numbers up to 255: that is enough to tell whether "a is above b or b above 63".
use Rattle.std.specs.Prelude.{◌≡◌, refl, List, ℕ, zero, suc, min, Option, Some, None, option_and_then}
use Rattle.std.specs.Option.{option_map}
use Rattle.rules.specs.Reading.Lexer
use Rattle.rules.specs.Reading.Lexer.{sign_at, number_at}
use Rattle.rules.specs.Reading.Parser.{Spanned, end_span, second_number, past_comma, first_number, span_at}
use Rattle.reader_lexer.specs.declared.Number.{Number}
use Rattle.reader_lexer.specs.declared.Span.{Span}

-- a number, and the position past the sign behind it; none for 0
abbrev pub bounded : (v : ℕ) → (past : ℕ) → Option Number
bounded v zero = None
bounded v (suc q) = Some (record { value = v; next = suc q })

-- a number, and the position past the sign b behind it
abbrev pub bound_of : List ℕ → (b : ℕ) → Lexer.Token → Option Number
bound_of s b Lexer.Token.none = None
bound_of s b (Lexer.Token.sign c next) = None
bound_of s b (Lexer.Token.atom a next) = bounded (min 255 a) (sign_at s next b)

abbrev pub cut : Spanned → Option Span
cut Spanned.fail = None
cut (Spanned.span a b next) = Some (record { from = min 255 a; to = min 255 b; next = next })

-- ---- the window, by its two numbers

abbrev pub span_from : (v : ℕ) → Number → Span
span_from v x = record { from = v; to = x.value; next = x.next }

end-cut : (a b x : ℕ) → cut (end_span a b x) ≡ option_map (span_from (min 255 a)) (bounded (min 255 b) x)
end-cut a b zero = refl
end-cut a b (suc q) = refl

module _ (s : List ℕ) where
  second-cut : (a : ℕ) (t : Lexer.Token) → cut (second_number s a t) ≡ option_map (span_from (min 255 a)) (bound_of s 93 t)
  second-cut a Lexer.Token.none = refl
  second-cut a (Lexer.Token.sign c next) = refl
  second-cut a (Lexer.Token.atom b next) = end-cut a b (sign_at s next 93)

  -- the window behind its first number
  abbrev pub rest_from : Number → Option Span
  rest_from x = option_map (span_from x.value) (bound_of s 93 (number_at s x.next))

  comma-cut : (a x : ℕ) → cut (past_comma s a x) ≡ option_and_then rest_from (bounded (min 255 a) x)
  comma-cut a zero = refl
  comma-cut a (suc q) = second-cut a (number_at s (suc q))

  first-cut : (t : Lexer.Token) → cut (first_number s t) ≡ option_and_then rest_from (bound_of s 44 t)
  first-cut Lexer.Token.none = refl
  first-cut (Lexer.Token.sign c next) = refl
  first-cut (Lexer.Token.atom a next) = comma-cut a (sign_at s next 44)

  pub span-cut : (at : ℕ) → cut (span_at s at) ≡ option_and_then rest_from (bound_of s 44 (number_at s at))
  unfolding span_at
  span-cut at = first-cut (number_at s at)
