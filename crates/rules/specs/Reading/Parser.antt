-- The parser: one function over the levels of the grammar, at a position of a text, and its laws. `parse` counts its calls; the laws of
-- `parsed` do not.
use Rattle.std.specs.Prelude.{cond, length, eqb}
use Rattle.std.proofs.Math.Option.{Option, none, some}
use mathlib.Core.List.{List}
use Prim.Native.Nat.{ℕ, zero, suc, ◌+◌, ◌-◌, ◌*◌}
use Rattle.rules.specs.Rule.{Unary, Binary, Window, Rule}
use Rattle.rules.specs.Rule.Unary.{not, eventually, always}
use Rattle.rules.specs.Rule.Binary.{and, or, implies, until}
use Rattle.rules.specs.Rule.Window.{within, throughout}
use Rattle.rules.specs.Grammar.{Level, tighter, sign}
use Rattle.rules.specs.Grammar.Level.{of, single}
use Rattle.rules.specs.Reading.Lexer.{Token, token_at, sign_at, number_at}

-- no phrase, or the rule that it says and the position past it
pub data Parsed : Type 0 where
  fail : Parsed
  part : Rule → ℕ → Parsed

-- the operator of one side that a byte is
abbrev pub unary_of : ℕ → Option Unary
unary_of b = cond (eqb b 33) (some not) (cond (eqb b 70) (some eventually) (cond (eqb b 71) (some always) none))

-- what a sign begins: a bracket, a Single behind an operator of one side, or nothing
pub data Start : Type 0 where
  bracket nothing : Start
  operator : Unary → Start

abbrev pub starting : Option Unary → Start
starting none = Start.nothing
starting (some u) = Start.operator u

abbrev pub start_of : ℕ → Start
start_of b = cond (eqb b 40) Start.bracket (starting (unary_of b))

-- "Or > Rule" and its like: the left part p ends at `next`; x is the position past the sign, or 0; `right` parses the right part
abbrev pub join : Binary → Rule → Parsed → Parsed
join o p Parsed.fail = Parsed.fail
join o p (Parsed.part q end) = Parsed.part (Rule.binary o p q) end

abbrev pub go_on : Binary → Rule → (next x : ℕ) → (right : ℕ → Parsed) → Parsed
go_on o p next zero right = Parsed.part p next
go_on o p next (suc q) right = join o p (right (suc q))

abbrev pub pair : Binary → List ℕ → (left : Parsed) → (right : ℕ → Parsed) → Parsed
pair o s Parsed.fail right = Parsed.fail
pair o s (Parsed.part p next) right = go_on o p next (sign_at s next (sign o)) right

-- "( Rule )": x is the position past the closing bracket, or 0
abbrev pub close_at : Rule → (x : ℕ) → Parsed
close_at p zero = Parsed.fail
close_at p (suc q) = Parsed.part p (suc q)

abbrev pub close : List ℕ → Parsed → Parsed
close s Parsed.fail = Parsed.fail
close s (Parsed.part p end) = close_at p (sign_at s end 41)

-- "! Single, or F Single, or G Single"
abbrev pub apply : Unary → Parsed → Parsed
apply u Parsed.fail = Parsed.fail
apply u (Parsed.part p end) = Parsed.part (Rule.unary u p) end

-- request N4, "F[a,b] and G[a,b] before a Single": the numbers of a window, and the position past it
pub data Spanned : Type 0 where
  fail : Spanned
  span : (a b next : ℕ) → Spanned

-- behind the second number: x is the position past the closing bracket, or 0
abbrev pub end_span : (a b x : ℕ) → Spanned
end_span a b zero = Spanned.fail
end_span a b (suc q) = Spanned.span a b (suc q)

abbrev pub second_number : List ℕ → (a : ℕ) → Token → Spanned
second_number s a Token.none = Spanned.fail
second_number s a (Token.sign b next) = Spanned.fail
second_number s a (Token.atom b next) = end_span a b (sign_at s next 93)

-- x is the position past the comma, or 0
abbrev pub past_comma : List ℕ → (a x : ℕ) → Spanned
past_comma s a zero = Spanned.fail
past_comma s a (suc q) = second_number s a (number_at s (suc q))

abbrev pub first_number : List ℕ → Token → Spanned
first_number s Token.none = Spanned.fail
first_number s (Token.sign b next) = Spanned.fail
first_number s (Token.atom a next) = past_comma s a (sign_at s next 44)

-- a window, from the position past its opening bracket
unfoldable pub span_at : List ℕ → ℕ → Spanned
span_at s at = first_number s (number_at s at)

-- the position past the opening bracket of a window behind F or G, or 0
abbrev pub opens : Unary → List ℕ → ℕ → ℕ
opens not s next = 0
opens eventually s next = sign_at s next 91
opens always s next = sign_at s next 91

-- F and G, as operators over a window
abbrev pub window_of : Unary → Window
window_of not = within
window_of eventually = within
window_of always = throughout

abbrev pub apply_window : Window → (a b : ℕ) → Parsed → Parsed
apply_window w a b Parsed.fail = Parsed.fail
apply_window w a b (Parsed.part p end) = Parsed.part (Rule.windowed w a b p) end

abbrev pub over_span : Window → Spanned → (single_at : ℕ → Parsed) → Parsed
over_span w Spanned.fail single_at = Parsed.fail
over_span w (Spanned.span a b next) single_at = apply_window w a b (single_at next)

-- x is the position past the opening bracket of a window, or 0
abbrev pub operate : Unary → List ℕ → (next x : ℕ) → (single_at : ℕ → Parsed) → Parsed
operate u s next zero single_at = apply u (single_at next)
operate u s next (suc q) single_at = over_span (window_of u) (span_at s (suc q)) single_at

abbrev pub begin : List ℕ → (next : ℕ) → Start → (single_at rule_at : ℕ → Parsed) → Parsed
begin s next Start.bracket single_at rule_at = close s (rule_at next)
begin s next (Start.operator u) single_at rule_at = operate u s next (opens u s next) single_at
begin s next Start.nothing single_at rule_at = Parsed.fail

-- a Single, by its first token
abbrev pub lead : List ℕ → Token → (single_at rule_at : ℕ → Parsed) → Parsed
lead s Token.none single_at rule_at = Parsed.fail
lead s (Token.atom a next) single_at rule_at = Parsed.part (Rule.atom a) next
lead s (Token.sign b next) single_at rule_at = begin s next (start_of b) single_at rule_at

-- the level l at a position of s, with k calls to go
unfoldable pub parse : ℕ → Level → List ℕ → ℕ → Parsed
parse zero l s at = Parsed.fail
parse (suc k) single s at = lead s (token_at s at) (λ q. parse k single s q) (λ q. parse k (of implies) s q)
parse (suc k) (of o) s at = pair o s (parse k (tighter o) s at) (λ q. parse k (of o) s q)

abbrev pub rank : Level → ℕ
rank single = 1
rank (of until) = 2
rank (of and) = 3
rank (of or) = 4
rank (of implies) = 5

-- as many calls as it can need: this falls at each call
abbrev pub measure : Level → List ℕ → ℕ → ℕ
measure l s at = 6 * (length s - at) + rank l

-- the level l at a position of s
unfoldable pub parsed : Level → List ℕ → ℕ → Parsed
parsed l s at = parse (measure l s at) l s at
