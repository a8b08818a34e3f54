-- The lexer: the token at a position of a text, and its laws. Reading.antt proves what lexer and parser come to; none of it is trusted.
use Rattle.std.specs.Prelude.{◌≡◌, Bool, true, false, cond, List, [], ◌∷◌, ℕ, zero, suc, ◌+◌, ◌-◌, ◌*◌, ◌≤◌, ◌<◌, length, get_or, drop, ltb, leb, eqb}

-- A sign has its byte, an atom its number, and each the position past it. `none` stands where no token is.
pub data Token : Type 0 where
  none : Token
  sign atom : ℕ → ℕ → Token

-- how many spaces a text begins with
unfoldable pub spaces : List ℕ → ℕ
spaces [] = 0
spaces (c ∷ s) = cond (eqb c 32) (suc (spaces s)) 0

abbrev pub is_digit : ℕ → Bool
is_digit c = cond (leb 48 c) (leb c 57) false

-- how many digits a text begins with
unfoldable pub digits : List ℕ → ℕ
digits [] = 0
digits (c ∷ s) = cond (is_digit c) (suc (digits s)) 0

-- the number v, and behind it the digits that a text begins with
unfoldable pub value : ℕ → List ℕ → ℕ
value v [] = v
value v (c ∷ s) = cond (is_digit c) (value (10 * v + (c - 48)) s) v

-- whether k digits, the first of them c, are a numeral: there is one, and only a lone one may be 0
unfoldable pub is_numeral : (k c : ℕ) → Bool
is_numeral zero c = false
is_numeral (suc zero) c = true
is_numeral (suc (suc k)) c = cond (eqb c 48) false true

-- the atom whose digits begin at d, where they are a numeral
abbrev pub atom_at : List ℕ → ℕ → Token
atom_at s d = cond (is_numeral (digits (drop d s)) (get_or s d 0)) (Token.atom (value 0 (drop d s)) (d + digits (drop d s))) Token.none

-- the token that begins at p
abbrev pub token_from : List ℕ → ℕ → Token
token_from s p = cond (ltb p (length s)) (cond (eqb (get_or s p 0) 97) (atom_at s (p + 1)) (Token.sign (get_or s p 0) (p + 1))) Token.none

-- the first position from `at` on that holds no space
abbrev pub start : List ℕ → ℕ → ℕ
start s at = at + spaces (drop at s)

-- the token at a position, past the spaces there
unfoldable pub token_at : List ℕ → ℕ → Token
token_at s at = token_from s (start s at)

-- the number at a position, past the spaces there, as the token `atom`
unfoldable pub number_at : List ℕ → ℕ → Token
number_at s at = atom_at s (start s at)

-- the position past the sign b, if the token is that sign, and else 0
abbrev pub past_sign : ℕ → Token → ℕ
past_sign b Token.none = 0
past_sign b (Token.atom a next) = 0
past_sign b (Token.sign c next) = cond (eqb c b) next 0

unfoldable pub sign_at : List ℕ → ℕ → ℕ → ℕ
sign_at s at b = past_sign b (token_at s at)

-- what it is for k digits, the first of them c, to be a numeral
pub record Numeric (k c : ℕ) : Type 0 where
  pub one_up : 1 ≤ k
  pub no_zero : 1 < k → c ≡ 48 → ⊥

-- ---- where a token ends

abbrev pub Ends : List ℕ → ℕ → Token → Type 0
Ends s at Token.none = Unit {0}
Ends s at (Token.sign b next) = (at < next) × (next ≤ length s)
Ends s at (Token.atom a next) = (at < next) × (next ≤ length s)
