-- The starred lines of "Known rules and runs", as one list with one theorem, `starred-shown` in StarredProof.antt.
use Rattle.std.specs.Prelude.{◌≡◌, List, [], ◌∷◌, map, ℕ, ◌-◌, get_or, ℤ, pos}
use Rattle.lists.specs.Every.{Every}
use Rattle.rules.specs.Rule.{Rule, size}
use Rattle.rules.specs.Grammar.{Says}
use Rattle.rules.specs.Table.{table_bytes, nodes_of, kind_of}
use Rattle.rules.specs.Truth.{Holds, endless, TruthBit}
use Rattle.rules.specs.Judge.{None, Verdict, Judged}
use Rattle.rules.specs.Judge.VerdictWith.{broken}
use Rattle.rules.specs.Refusals.{TextRefused, EvaluateRefused, JudgeRefused}

-- A line: a rule text, and a run of T 3, M 2 and L 3 with the rule's truth at its slots; or the kinds read; or, at T 1, M 1 and L 1, figures, a tolerance and
-- the verdict.
pub data Line : Type 0 where
  truths : (text run gives : List ℕ) → Line
  kinds : (text gives : List ℕ) → Line
  judged : (text : List ℕ) (figures : List ℤ) (e : ℕ) (gives : Verdict) → Line

-- no refusal applies, and the line gives what it says
abbrev pub Shown : Line → Type 0
Shown (truths text run gives) =
    (p : Rule) × Says text p × None (EvaluateRefused 3 2 3 (table_bytes (nodes_of p)) run (size p)) ×
    Every (λ t. TruthBit (Holds (endless 3 3 run) p t) (get_or gives (t - 1) 0)) (1 ∷ 2 ∷ 3 ∷ [])
Shown (kinds text gives) = (p : Rule) × Says text p × None (TextRefused 2 text) × (map kind_of (nodes_of p) ≡ gives)
Shown (judged text figures e gives) =
    (p : Rule) × Says text p × None (JudgeRefused 1 1 1 (table_bytes (nodes_of p)) figures (pos e)) × Judged 1 1 1 e (nodes_of p) figures gives

abbrev pub starred : List Line
starred =
    -- "`a0 U a1`: 1,1,2 gives 1,1,1★; 1,1,1 gives 0,0,0★; 1,0,2 gives 0,0,1★."
    truths (97 ∷ 48 ∷ 32 ∷ 85 ∷ 32 ∷ 97 ∷ 49 ∷ []) (1 ∷ 1 ∷ 2 ∷ []) (1 ∷ 1 ∷ 1 ∷ []) ∷
    truths (97 ∷ 48 ∷ 32 ∷ 85 ∷ 32 ∷ 97 ∷ 49 ∷ []) (1 ∷ 1 ∷ 1 ∷ []) (0 ∷ 0 ∷ 0 ∷ []) ∷
    truths (97 ∷ 48 ∷ 32 ∷ 85 ∷ 32 ∷ 97 ∷ 49 ∷ []) (1 ∷ 0 ∷ 2 ∷ []) (0 ∷ 0 ∷ 1 ∷ []) ∷
    -- "`F a1`: 0,2,0 gives 1,1,0★. `G a0`: 0,1,1 gives 0,1,1★."
    truths (70 ∷ 32 ∷ 97 ∷ 49 ∷ []) (0 ∷ 2 ∷ 0 ∷ []) (1 ∷ 1 ∷ 0 ∷ []) ∷
    truths (71 ∷ 32 ∷ 97 ∷ 48 ∷ []) (0 ∷ 1 ∷ 1 ∷ []) (0 ∷ 1 ∷ 1 ∷ []) ∷
    -- "`a0>a1`: 0,1,3 gives 1,0,1★. `GFa0`: 1,1,0 gives 0,0,0★. `FGa0`: 0,0,1 gives 1,1,1★."
    truths (97 ∷ 48 ∷ 62 ∷ 97 ∷ 49 ∷ []) (0 ∷ 1 ∷ 3 ∷ []) (1 ∷ 0 ∷ 1 ∷ []) ∷
    truths (71 ∷ 70 ∷ 97 ∷ 48 ∷ []) (1 ∷ 1 ∷ 0 ∷ []) (0 ∷ 0 ∷ 0 ∷ []) ∷
    truths (70 ∷ 71 ∷ 97 ∷ 48 ∷ []) (0 ∷ 0 ∷ 1 ∷ []) (1 ∷ 1 ∷ 1 ∷ []) ∷
    -- "Kinds read: `a0&a1|a0` 1,1,3,1,4★; `a0Ua1Ua0` 1,1,1,8,8★; `!a0Ua1` 1,2,1,8★."
    kinds (97 ∷ 48 ∷ 38 ∷ 97 ∷ 49 ∷ 124 ∷ 97 ∷ 48 ∷ []) (1 ∷ 1 ∷ 3 ∷ 1 ∷ 4 ∷ []) ∷
    kinds (97 ∷ 48 ∷ 85 ∷ 97 ∷ 49 ∷ 85 ∷ 97 ∷ 48 ∷ []) (1 ∷ 1 ∷ 1 ∷ 8 ∷ 8 ∷ []) ∷
    kinds (33 ∷ 97 ∷ 48 ∷ 85 ∷ 97 ∷ 49 ∷ []) (1 ∷ 2 ∷ 1 ∷ 8 ∷ []) ∷
    -- "Judge, `a0`, T 1, M 1: 1000000, 999999 is broken at row 0 with e 0★", by one millionth (request N1)
    judged (97 ∷ 48 ∷ []) (pos 1000000 ∷ pos 999999 ∷ []) 0 (broken 0 (pos 1)) ∷ []

abbrev pub StarredShown : Type 0
StarredShown = Every Shown starred
