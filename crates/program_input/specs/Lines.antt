-- The input of programs rowlist and mpspage: its lines, and the shape of the first.
use Rattle.std.specs.Prelude.{cond, List, [], ◌∷◌, ◌++◌, ℕ, ◌+◌, ◌*◌, ◌<◌, eqb}

-- "A line ends at a line feed or the end of input": the first line, and what follows it and its line feed
unfoldable pub line : List ℕ → List ℕ
line [] = []
line (b ∷ s) = cond (eqb b 10) [] (b ∷ line s)

unfoldable pub after_line : List ℕ → List ℕ
after_line [] = []
after_line (b ∷ s) = cond (eqb b 10) s (after_line s)

-- "Each number is one or more digits, of any size": the digits ds say n; zeros may lead
pub data Digits : List ℕ → ℕ → Type 0 where
  digit : {d : ℕ} → d < 10 → Digits ((48 + d) ∷ []) d
  more : {ds : List ℕ} {n d : ℕ} → Digits ds n → d < 10 → Digits (ds ++ ((48 + d) ∷ [])) (10 * n + d)

-- "T and M on line 1 (decimal, one space between)", and nothing else
pub data FirstLine : List ℕ → ℕ → ℕ → Type 0 where
  numbers : {ds es : List ℕ} {T M : ℕ} → Digits ds T → Digits es M → FirstLine (ds ++ (32 ∷ es)) T M
