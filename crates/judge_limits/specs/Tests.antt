-- What is found, and the tests of the figures.
use Rattle.std.specs.Prelude.{Bool, List, ℕ, ℤ, Some, None}
use Rattle.std.specs.Prelude as Std
use Rattle.std.proofs.Math.Option.{Option, none, some}
use Rattle.rules.specs.Rows.{value_at}
use Rattle.rules.specs.Verdicts.{is_outside, is_not_binary}
use Rattle.millionths.specs.declared.Millionths.{Millionths}

abbrev pub found : Std.Option ℕ → Option ℕ
found (Some v) = some v
found None = none

-- how many figures are tested at once
abbrev pub at_once : ℕ
at_once = 64

-- the figure of a variable
abbrev pub figure : List ℤ → ℕ → Millionths
figure xs v = record { value = value_at xs v }

abbrev pub outside_at : (e : ℕ) → List ℤ → ℕ → Bool
outside_at e xs v = is_outside e (value_at xs v)

abbrev pub not_binary_at : (e : ℕ) → List ℤ → ℕ → Bool
not_binary_at e xs v = is_not_binary e (value_at xs v)
