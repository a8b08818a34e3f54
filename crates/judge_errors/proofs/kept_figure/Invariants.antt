use Prim.Native.Nat.{◌+◌, ◌-◌, ◌≤◌}
use Rattle.judge_errors.specs.Worked.{down, Summed}
use Rattle.judge_errors.specs.Count.{kept_later}
use Rattle.judge_errors.proofs.kept_figure.Given as goal

abbrev pub invariant-loop-s : goal.invariant-loop-s
invariant-loop-s l = (l.l ≤ l.s + 1) × Summed l.t l.s (down l.t (kept_later l.t l.e l.figures l.parts) (l.t - l.s)) l.sum
