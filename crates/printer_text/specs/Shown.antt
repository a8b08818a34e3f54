-- The text of a rule, computed: brackets stand where the rule's own operator is looser than the level that is wanted. None of it is trusted.
use Rattle.std.specs.Prelude.{Bool, true, false, List, [], ◌∷◌, ◌++◌, ℕ, ◌+◌, ltb}
use Rattle.rules.specs.Rule.{Binary, Rule}
use Rattle.rules.specs.Rule.Binary.{and, or, implies, until}
use Rattle.rules.specs.Rule.Rule.{atom, unary, binary, windowed}
use Rattle.rules.specs.Grammar.{sign, prefix, letter}
use Rattle.text.specs.Decimal.{decimal}

-- how tight a level is
abbrev pub grade : Binary → ℕ
grade implies = 0
grade or = 1
grade and = 2
grade until = 3

abbrev pub bracketed : Bool → List ℕ → List ℕ
bracketed true s = 40 ∷ (s ++ (41 ∷ []))
bracketed false s = s

abbrev pub span_text : (a b : ℕ) → List ℕ
span_text a b = 91 ∷ (decimal a ++ (44 ∷ (decimal b ++ (93 ∷ []))))

-- the text of a rule where a level of grade k is wanted
abbrev pub shown : ℕ → Rule → List ℕ
shown k (atom a) = 97 ∷ decimal a
shown k (unary u p) = prefix u ∷ shown 4 p
shown k (binary o p q) = bracketed (ltb (grade o) k) (shown (grade o + 1) p ++ (sign o ∷ shown (grade o) q))
shown k (windowed w a b p) = letter w ∷ (span_text a b ++ shown 4 p)

-- the whole rule
abbrev pub printed : Rule → List ℕ
printed p = shown 0 p
