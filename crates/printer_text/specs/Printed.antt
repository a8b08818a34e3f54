-- Request N9, "Rules printed back": which text a rule is printed as.
use Rattle.std.specs.Prelude.{◌≡◌, Bool, cond, ◌||◌, List, [], ◌∷◌, ℕ, ◌+◌, ◌≤◌, eqb}
use Rattle.rules.specs.Rule.{Rule}
use Rattle.rules.specs.Grammar.{Says}

-- how many bytes of a text are of a sort
abbrev pub how_many : (sort : ℕ → Bool) → List ℕ → ℕ
how_many sort [] = 0
how_many sort (b ∷ s) = cond (sort b) 1 0 + how_many sort s

abbrev pub is_space : ℕ → Bool
is_space b = eqb b 32

abbrev pub is_bracket : ℕ → Bool
is_bracket b = eqb b 40 || eqb b 41

-- "text without spaces and with the fewest brackets": s says the rule p, has no space, and every text that says p has at least as many brackets
pub record Printed (p : Rule) (s : List ℕ) : Type 0 where
  pub says : Says s p
  pub no_space : how_many is_space s ≡ 0
  pub fewest : (t : List ℕ) → Says t p → how_many is_bracket s ≤ how_many is_bracket t
