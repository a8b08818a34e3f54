-- Places are zeros at first.
use Rattle.judge_errors.specs.Worked.{small-zeros}
use Rattle.judge_errors.proofs.root_of_few.Goals as goal

pub root_in-requires : goal.root_in-requires
root_in-requires c = (c.requires, small-zeros 256)
