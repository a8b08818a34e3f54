use Rattle.std.proofs.Common.{◌-◌, ◌*◌, length}
use Rattle.judge_errors.proofs.+root_with.Given as goal

abbrev pub decreases-root_with : goal.decreases-root_with
decreases-root_with l = l.plan.nodes * l.plan.t - length l.figures.now
