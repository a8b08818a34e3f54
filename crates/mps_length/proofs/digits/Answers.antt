-- `mps_length::digits` meets its contract. Assumes nothing.
use Rattle.std.proofs.Common.{arith}
use Rattle.mps_length.specs.Digits.{above}
use Rattle.mps_length.proofs.digits.Goals as goal

pub returns : goal.returns
unfolding above
returns c = (cc, omega arith)
