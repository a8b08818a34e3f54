-- "Refusals by number": which refusals apply to a call, a constructor for each line of the table, and which of them wins.
use Rattle.std.specs.Prelude.{◌≡◌, cond, List, [], ◌∷◌, ℕ, suc, ◌*◌, ◌^◌, ◌≤◌, ◌<◌, eqb, length, get_or, ℤ, pos}
use Rattle.rules.specs.Quantities.{SlotsAllowed, LoopAllowed, AtomsAllowed, text_limit, node_limit, tolerance_limit}
use Rattle.rules.specs.Rule.{Rule, size, AtomsBelow, WindowsAllowed}
use Rattle.rules.specs.Grammar.{Says}
use Rattle.rules.specs.Table.{Node, Good}
use Rattle.rules.specs.Rows.{variable_count, rows_of, rows_bytes}

-- ---- which refusal wins. Request N4: 12 comes "after 5 and before 6, and from here on the first in this order wins and no longer the lowest number";
-- request N8: 13 "after 2 and before 3".

abbrev pub order : List ℕ
order = 1 ∷ 2 ∷ 13 ∷ 3 ∷ 4 ∷ 5 ∷ 12 ∷ 6 ∷ 7 ∷ 8 ∷ 9 ∷ 10 ∷ 11 ∷ []

-- the place of k in a list; what is not in it comes behind
abbrev pub place_in : List ℕ → ℕ → ℕ
place_in [] k = k
place_in (x ∷ l) k = cond (eqb k x) 0 (suc (place_in l k))

abbrev pub place : ℕ → ℕ
place k = place_in order k

-- of the refusals that apply, k is the first in an order
pub record WinsIn (order : List ℕ) (Refused : ℕ → Type 0) (k : ℕ) : Type 0 where
  pub applies : Refused k
  pub earlier : (j : ℕ) → place_in order j < place_in order k → Refused j → ⊥

abbrev pub Wins : (Refused : ℕ → Type 0) (k : ℕ) → Type 0
Wins Refused k = WinsIn order Refused k

-- ---- which refusals apply

-- "run not T numbers, or a bit at M or above set"
pub record RunGood (T M : ℕ) (run : List ℕ) : Type 0 where
  pub numbers : length run ≡ T
  pub bits : (i : ℕ) → i < length run → get_or run i 0 < 2 ^ M

-- read, on M or the text
pub data TextRefused (M : ℕ) (text : List ℕ) : ℕ → Type 0 where
  atoms : (AtomsAllowed M → ⊥) → TextRefused M text 2
  long : text_limit < length text → TextRefused M text 3
  no_rule : ((p : Rule) → Says text p → ⊥) → TextRefused M text 4
  atom-high : {p : Rule} → Says text p → (AtomsBelow M p → ⊥) → TextRefused M text 5
  window_bad : {p : Rule} → Says text p → (WindowsAllowed p → ⊥) → TextRefused M text 12
  nodes : {p : Rule} → Says text p → node_limit < size p → TextRefused M text 6

-- read; `room` is the length of the lent buffer
pub data ReadRefused (M : ℕ) (text : List ℕ) (room : ℕ) : ℕ → Type 0 where
  text-refused : {k : ℕ} → TextRefused M text k → ReadRefused M text room k
  short : {p : Rule} → Says text p → room < 8 * size p → ReadRefused M text room 11

-- all but read, on T, M, L and the table
pub data TableRefused (T M L : ℕ) (table : List ℕ) : ℕ → Type 0 where
  slots : (SlotsAllowed T → ⊥) → TableRefused T M L table 1
  atoms : (AtomsAllowed M → ⊥) → TableRefused T M L table 2
  loop : (LoopAllowed T L → ⊥) → TableRefused T M L table 13
  not_good : ((ns : List Node) → Good M table ns → ⊥) → TableRefused T M L table 7

-- request N5: "11 now counts words for the evaluator"
pub data EvaluateRefused (T M L : ℕ) (table run : List ℕ) (room : ℕ) : ℕ → Type 0 where
  table-refused : {k : ℕ} → TableRefused T M L table k → EvaluateRefused T M L table run room k
  run_bad : (RunGood T M run → ⊥) → EvaluateRefused T M L table run room 8
  short : {ns : List Node} → Good M table ns → room < length ns → EvaluateRefused T M L table run room 11

pub data RowsRefused (T M L : ℕ) (table : List ℕ) (room : ℕ) : ℕ → Type 0 where
  table-refused : {k : ℕ} → TableRefused T M L table k → RowsRefused T M L table room k
  short : {ns : List Node} → Good M table ns → room < length (rows_bytes (rows_of T M L ns)) → RowsRefused T M L table room 11

-- `tolerance` as it is passed: any whole number
pub data JudgeRefused (T M L : ℕ) (table : List ℕ) (figures : List ℤ) (tolerance : ℤ) : ℕ → Type 0 where
  table-refused : {k : ℕ} → TableRefused T M L table k → JudgeRefused T M L table figures tolerance k
  miscounted : {ns : List Node} → Good M table ns → (length figures ≡ variable_count T M L ns → ⊥) → JudgeRefused T M L table figures tolerance 9
  tolerance_bad : ((e : ℕ) → e ≤ tolerance_limit → tolerance ≡ pos e → ⊥) → JudgeRefused T M L table figures tolerance 10
