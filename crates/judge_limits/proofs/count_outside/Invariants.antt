-- While the count is 0, no figure that was tested is outside.
use Rattle.std.proofs.Common.{◌≡◌, ◌≤◌, ◌-◌}
use Rattle.lists.specs.Scan.{Skipped}
use Rattle.judge_limits.specs.Tests.{outside_at}
use Rattle.judge_limits.proofs.count_outside.Given as goal

abbrev pub invariant-loop-v : goal.invariant-loop-v
invariant-loop-v l =
    record { few : l.count ≤ l.v - l.from; none : l.count ≡ 0 → Skipped (outside_at l.e l.figures) l.from l.v }
