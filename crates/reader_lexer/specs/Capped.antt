-- The lexer's tokens hold an atom's number up to 255: more than any atom that M allows, and it fits a byte.
use Rattle.std.specs.Prelude.{◌≡◌, refl, List, ℕ, ◌+◌, min, get_or, Option, Some, None}
use Rattle.std.proofs.Common.{ap}
use Rattle.rules.specs.Reading.Lexer
use Rattle.reader_lexer.specs.declared.Token.{Token}
use Rattle.reader_lexer.specs.declared.Token.TheVariants.{Sign, Atom}
use Rattle.reader_lexer.specs.declared.Number.{Number}
use Rattle.reader_lexer.specs.declared.First.{First}

abbrev pub capped : Lexer.Token → Option Token
capped Lexer.Token.none = None
capped (Lexer.Token.sign b next) = Some (Sign b next)
capped (Lexer.Token.atom a next) = Some (Atom (min 255 a) next)

-- an atom's number, and the position past it
abbrev pub number_of : Lexer.Token → Option Number
number_of Lexer.Token.none = None
number_of (Lexer.Token.sign b next) = None
number_of (Lexer.Token.atom a next) = Some (record { value = min 255 a; next = next })

-- the byte at a position, and the position past it
abbrev pub first_at : List ℕ → (p : ℕ) → First
first_at s p = record { byte = get_or s p 0; next = p + 1 }

-- ---- the token, by the lexer's

-- an atom whose number is `a` up to 255
pub record Capped (t : Lexer.Token) (a next : ℕ) : Type 0 where
  pub number : ℕ
  pub is : t ≡ Lexer.Token.atom number next
  pub cut : a ≡ min 255 number

pub none_of : (t : Lexer.Token) → None ≡ capped t → t ≡ Lexer.Token.none
none_of Lexer.Token.none e = refl
none_of (Lexer.Token.sign b next) e = cc
none_of (Lexer.Token.atom a next) e = cc

pub sign_of : (t : Lexer.Token) (b next : ℕ) → Some (Sign b next) ≡ capped t → t ≡ Lexer.Token.sign b next
sign_of Lexer.Token.none b next e = cc
sign_of (Lexer.Token.sign c n) b next e = cc
sign_of (Lexer.Token.atom a n) b next e = cc

pub atom-of : (t : Lexer.Token) (a next : ℕ) → Some (Atom a next) ≡ capped t → Capped t a next
atom-of Lexer.Token.none a next e = cc
atom-of (Lexer.Token.sign b n) a next e = cc
atom-of (Lexer.Token.atom c n) a next e =
    let h : n ≡ next = cc in
    record { number = c; is = ap (Lexer.Token.atom c) h; cut = cc }
