-- `mps_length::sum_up` meets its contract. Assumes nothing.
use native.Mathlib.Omega.{arith}
use Rattle.mps_length.specs.Page.{page_size}
use Rattle.mps_length.proofs.sum_up.Goals as goal

pub returns : goal.returns
unfolding page_size
returns c = omega arith
