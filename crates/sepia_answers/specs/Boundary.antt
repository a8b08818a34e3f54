-- What the C structs say.
use Rattle.std.proofs.Math.Option.{Option, none, some}
use Rattle.std.specs.Prelude.{ℕ, ◌^◌, ◌<◌, ℤ, pos}
use Rattle.rules.specs.Demands.{Answer}
use Rattle.rules.specs.Demands.Answer.{refused, answered}
use Rattle.rules.specs.Judge.{Verdict}
use Rattle.rules.specs.Judge.VerdictWith.{outside, not-binary, broken, passed}
use Rattle.sepia_answers.specs.declared.SepiaAnswer.{SepiaAnswer}
use Rattle.sepia_answers.specs.declared.SepiaVerdict.{SepiaVerdict}

-- rises with each change of the boundary: 1 as first offered, 2 with request N1, 3 with N2, 4 with N4, 5 with N6, 6 with N5, 7 with N7, 8 with N8
abbrev pub version : ℕ
version = 8

-- refusal 0: value is the result
abbrev pub in_c : Answer ℕ → SepiaAnswer
in_c (refused k) = record { refusal = k; value = 0 }
in_c (answered n) = record { refusal = 0; value = n }

-- what a field of 32 bits does not hold
abbrev pub too_large : ℕ
too_large = 2 ^ 32

-- the result fits its field
abbrev pub Fits : Answer ℕ → Type 0
Fits (refused k) = Unit {0}
Fits (answered n) = n < too_large

-- a first slot, and 0 for none: slots count from 1
abbrev pub slot_in_c : Option ℕ → ℕ
slot_in_c none = 0
slot_in_c (some t) = t

abbrev pub SlotFits : Option ℕ → Type 0
SlotFits none = Unit {0}
SlotFits (some t) = t < too_large

-- verdict 0 outside, 1 not binary, 2 broken, 3 passed, and its variable, row or row count
abbrev pub verdict_number : Verdict → ℕ
verdict_number (outside v) = 0
verdict_number (not-binary v) = 1
verdict_number (broken i d) = 2
verdict_number (passed n f) = 3

abbrev pub verdict_value : Verdict → ℕ
verdict_value (outside v) = v
verdict_value (not-binary v) = v
verdict_value (broken i d) = i
verdict_value (passed n f) = n

-- the shortfall of a broken row, and 0 for other verdicts
abbrev pub verdict_shortfall : Verdict → ℤ
verdict_shortfall (outside v) = pos 0
verdict_shortfall (not-binary v) = pos 0
verdict_shortfall (broken i d) = d
verdict_shortfall (passed n f) = pos 0

-- the root's error figure at slot 1 where the figures passed, and 0 for other verdicts
abbrev pub verdict_error : Verdict → ℕ
verdict_error (outside v) = 0
verdict_error (not-binary v) = 0
verdict_error (broken i d) = 0
verdict_error (passed n f) = f

abbrev pub verdict_in_c : Answer Verdict → SepiaVerdict
verdict_in_c (refused k) = record { refusal = k; verdict = 0; value = 0; error = 0; shortfall = pos 0 }
verdict_in_c (answered v) = record { refusal = 0; verdict = verdict_number v; value = verdict_value v; error = verdict_error v; shortfall = verdict_shortfall v }

abbrev pub VerdictFits : Answer Verdict → Type 0
VerdictFits (refused k) = Unit {0}
VerdictFits (answered v) = verdict_value v < too_large
