-- Places are zeros at first.
use Rattle.judge_errors.specs.Worked.{small-zeros}
use Rattle.judge_errors.proofs.root_of_more.Goals as goal

pub root_with-requires : goal.root_with-requires
root_with-requires c = small-zeros 896
