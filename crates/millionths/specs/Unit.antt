-- One, zero and the figure of a truth, in millionths.
use Rattle.std.specs.Prelude.{Bool, pos}
use Rattle.rules.specs.Quantities as Quantities
use Rattle.millionths.specs.declared.Millionths.{Millionths}

abbrev pub one : Millionths
one = record { value = pos Quantities.one }

abbrev pub nought : Millionths
nought = record { value = pos Quantities.zero }

abbrev pub of_truth : Bool → Millionths
of_truth truth = record { value = pos (Quantities.of_truth truth) }
