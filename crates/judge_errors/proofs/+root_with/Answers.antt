-- What falls where it calls itself is the number of places that the lent ones lack.
use Rattle.std.proofs.Common.{arith}
use Rattle.judge_errors.specs.Worked.{places, small-zeros}
use Rattle.judge_errors.proofs.+root_with.Goals as goal

pub root_with-requires : goal.root_with-requires
root_with-requires t c = (omega (arith, c.decreases, c.place.ensures), small-zeros places)

pub root_in-requires : goal.root_in-requires
root_in-requires t c = (omega (arith, c.place.ensures.0), c.requires)
