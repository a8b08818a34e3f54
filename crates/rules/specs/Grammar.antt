-- "Grammar": which texts are rules, and the rule that each says. A text is a list of bytes.
use Rattle.std.specs.Prelude.{List, [], ◌∷◌, ◌++◌, ℕ, ◌+◌, ◌*◌, ◌<◌}
use Rattle.rules.specs.Rule.{Unary, Binary, Window, Rule}
use Rattle.rules.specs.Rule.Unary.{not, eventually, always}
use Rattle.rules.specs.Rule.Binary.{and, or, implies, until}
use Rattle.rules.specs.Rule.Window.{within, throughout}
use Rattle.rules.specs.Rule.Rule.{atom, unary, binary, windowed}

-- The five levels: Rule, Or, And and Until, each by its operator, and Single.
pub data Level : Type 0 where
  of : Binary → Level
  single : Level

-- "Rule: Or, or Or > Rule." "Or: And, or And | Or." "And: Until, or Until & And." "Until: Single, or Single U Until.":
-- the level to the left of each operator. To its right stands its own level, so each groups to the right.
abbrev pub tighter : Binary → Level
tighter implies = of or
tighter or = of and
tighter and = of until
tighter until = single

-- the bytes > | & U
abbrev pub sign : Binary → ℕ
sign implies = 62
sign or = 124
sign and = 38
sign until = 85

-- the bytes ! F G
abbrev pub prefix : Unary → ℕ
prefix not = 33
prefix eventually = 70
prefix always = 71

-- the bytes F G, before a window
abbrev pub letter : Window → ℕ
letter within = 70
letter throughout = 71

-- "a decimal number without leading zeros (0 itself is allowed)", and its value: digits ds that say n, of any size
pub data Numeral : List ℕ → ℕ → Type 0 where
  digit : {d : ℕ} → d < 10 → Numeral ((48 + d) ∷ []) d
  more : {ds : List ℕ} {n d : ℕ} → Numeral ds n → 0 < n → d < 10 → Numeral (ds ++ ((48 + d) ∷ [])) (10 * n + d)

-- Request N4: "F[a,b] and G[a,b] .., a and b decimal without leading zeros (0 itself is allowed). Letter, brackets, comma and each number
-- are tokens for the rule on spaces." A number with spaces about it,
pub data Number : List ℕ → ℕ → Type 0 where
  numeral : {ds : List ℕ} {n : ℕ} → Numeral ds n → Number ds n
  space-before : {s : List ℕ} {n : ℕ} → Number s n → Number (32 ∷ s) n
  space-after : {s : List ℕ} {n : ℕ} → Number s n → Number (s ++ (32 ∷ [])) n

-- and [a,b] with spaces between its tokens and before it; those behind it stand before a Single.
pub data Span : List ℕ → (a b : ℕ) → Type 0 where
  span : {s t : List ℕ} {a b : ℕ} → Number s a → Number t b → Span (91 ∷ (s ++ (44 ∷ (t ++ (93 ∷ []))))) a b
  space-before : {s : List ℕ} {a b : ℕ} → Span s a b → Span (32 ∷ s) a b

-- The text s is a phrase of a level, and says the rule p.
pub data Phrase : Level → List ℕ → Rule → Type 0 where
  -- a Rule that is an Or, an Or that is an And, an And that is an Until, an Until that is a Single
  alone : {o : Binary} {s : List ℕ} {p : Rule} → Phrase (tighter o) s p → Phrase (of o) s p
  -- "Or > Rule", "And | Or", "Until & And", "Single U Until"
  joined : {o : Binary} {s t : List ℕ} {p q : Rule} → Phrase (tighter o) s p → Phrase (of o) t q → Phrase (of o) (s ++ (sign o ∷ t)) (binary o p q)
  -- "Single: ! Single, or F Single, or G Single, .."
  prefixed : {u : Unary} {s : List ℕ} {p : Rule} → Phrase single s p → Phrase single (prefix u ∷ s) (unary u p)
  -- request N4: "F[a,b] and G[a,b] before a Single"
  timed : {w : Window} {s t : List ℕ} {a b : ℕ} {p : Rule} → Span s a b → Phrase single t p → Phrase single (letter w ∷ (s ++ t)) (windowed w a b p)
  -- ".. or an atom": "the letter a and straight after it a decimal number"
  number : {ds : List ℕ} {a : ℕ} → Numeral ds a → Phrase single (97 ∷ ds) (atom a)
  -- ".. or ( Rule )"
  bracket : {s : List ℕ} {p : Rule} → Phrase (of implies) s p → Phrase single (40 ∷ (s ++ (41 ∷ []))) p
  -- "Spaces may stand before and after any token, not within an atom": each token begins or ends a Single or stands next to one
  space-before : {s : List ℕ} {p : Rule} → Phrase single s p → Phrase single (32 ∷ s) p
  space-after : {s : List ℕ} {p : Rule} → Phrase single s p → Phrase single (s ++ (32 ∷ [])) p

-- A whole text says a rule.
abbrev pub Says : List ℕ → Rule → Type 0
Says text p = Phrase (of implies) text p
