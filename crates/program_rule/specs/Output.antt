-- What the programs rowlist and mpspage have in common: which refusal is printed, and what is printed of a whole input. Definitions and statements;
-- the proofs stand in Refusing and Whole. Every line printed ends in a line feed.
use Rattle.std.specs.Prelude.{◌≡◌, Bool, true, List, [], ◌∷◌, ◌++◌, ℕ, ◌<◌}
use Rattle.rules.specs.Quantities.{SlotsAllowed}
use Rattle.rules.specs.Rule.{Rule}
use Rattle.rules.specs.Grammar.{Says}
use Rattle.rules.specs.Refusals.{TextRefused}
use Rattle.rules.specs.Demands.{Answer, Exact}
use Rattle.rules.specs.Demands.Answer.{refused, answered}
use Rattle.text.specs.Decimal.{decimal}
use Rattle.program_input.specs.Lines.{line, after_line, FirstLine}

-- "a first line of another shape prints `bad input`"
abbrev pub bad_input : List ℕ
bad_input = 98 ∷ 97 ∷ 100 ∷ 32 ∷ 105 ∷ 110 ∷ 112 ∷ 117 ∷ 116 ∷ 10 ∷ []

-- "reads T and M on line 1 (decimal, one space between) and the rule on line 2"; "what follows line 2 is ignored. A missing line 2 is an empty rule."
-- `print` is what a program prints for T, M and the text of the rule.
pub record OutputIs (print : (T M : ℕ) (text : List ℕ) → List ℕ) (input output : List ℕ) : Type 0 where
  pub numbers : {T M : ℕ} → FirstLine (line input) T M → output ≡ print T M (line (after_line input))
  pub another : ((T M : ℕ) → FirstLine (line input) T M → ⊥) → output ≡ bad_input

abbrev pub OutputExact : (print : (T M : ℕ) (text : List ℕ) → List ℕ) (output : (input : List ℕ) → List ℕ) → Type 0
OutputExact print output = (input : List ℕ) → OutputIs print input (output input)

-- "what follows line 2 is ignored": a program stops reading where `enough` says so of the bytes so far. What follows then alters nothing; and it does stop
-- at the end of line 2, and of a first line of another shape.
pub record StopsExact (enough : (bytes : List ℕ) → Bool) (output : (input : List ℕ) → List ℕ) : Type 0 where
  pub ignored : (bytes rest : List ℕ) → enough bytes ≡ true → output (bytes ++ rest) ≡ output bytes
  pub line_2 : {s : List ℕ} {T M : ℕ} → FirstLine s T M → (rule : List ℕ) → enough (s ++ (10 ∷ (rule ++ (10 ∷ [])))) ≡ true
  pub another : (s : List ℕ) → ((T M : ℕ) → FirstLine (line (s ++ (10 ∷ []))) T M → ⊥) → enough (s ++ (10 ∷ [])) ≡ true

-- The refusals: 1, those of the reader on M or the text, and 11 where the program holds `room` bytes and what it makes of the rule has more.
pub data RuleRefused (room : ℕ) (bytes : (T M : ℕ) → Rule → ℕ) (T M : ℕ) (text : List ℕ) : ℕ → Type 0 where
  slots : (SlotsAllowed T → ⊥) → RuleRefused room bytes T M text 1
  reader : {k : ℕ} → TextRefused M text k → RuleRefused room bytes T M text k
  short : {p : Rule} → Says text p → room < bytes T M p → RuleRefused room bytes T M text 11

-- "Of the refusals of reader and row writer, the lowest is printed", which since request N4 is the first in the order; and where none applies, the program
-- has what it makes of the rule that the text says.
abbrev pub RuleExact : {A : Type 0} (room : ℕ) (bytes : (T M : ℕ) → Rule → ℕ) (made : (T M : ℕ) → Rule → A) →
    (answer : (T M : ℕ) (text : List ℕ) → Answer A) → Type 0
RuleExact room bytes made answer =
    (T M : ℕ) (text : List ℕ) →
    Exact (RuleRefused room bytes T M text) (λ x. (p : Rule) × Says text p × (x ≡ made T M p)) (answer T M text)

-- "A refusal prints `refused`, a space and its number"
unfoldable pub refused_text : ℕ → List ℕ
refused_text k = (114 ∷ 101 ∷ 102 ∷ 117 ∷ 115 ∷ 101 ∷ 100 ∷ 32 ∷ []) ++ (decimal k ++ (10 ∷ []))

-- `text` is what is printed of an answer
abbrev pub printed : {A : Type 0} (text : A → List ℕ) → Answer A → List ℕ
printed text (refused k) = refused_text k
printed text (answered x) = text x
