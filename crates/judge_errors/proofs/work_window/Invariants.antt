use Prim.Native.Nat.{◌*◌, ◌<◌}
use lib.ListN.{length}
use Rattle.rules.specs.Rule.Window.{within}
use Rattle.rules.specs.Table.Node.{windowed}
use Rattle.judge_errors.specs.Worked.{Worked, Small}
use Rattle.judge_errors.specs.Window.{Running}
use Rattle.judge_errors.specs.Count.{figure_now}
use Rattle.judge_errors.proofs.work_window.Given as goal

abbrev pub invariant-loop-s : goal.invariant-loop-s
invariant-loop-s l = Worked l.t l.n (figure_now l.t l.l l.e l.initial.figures (windowed within l.x.from l.x.to l.x.part)) l.initial.figures l.s l.figures × Small l.figures ×
    Running l.initial.figures (l.x.part * l.t) l.t l.sums × (l.t < length l.sums)
