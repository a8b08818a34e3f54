use Rattle.judge_errors.specs.Worked.{Small, Worked, next_at, Summed}
use Rattle.judge_errors.specs.Count.{later_end, figure_later}
use Rattle.judge_errors.proofs.work_later.Given as goal

abbrev pub invariant-loop-s : goal.invariant-loop-s
invariant-loop-s l = Worked l.t l.n (figure_later l.t l.l l.e l.initial.figures l.parts) l.initial.figures l.s l.figures × Small l.figures ×
    Summed l.t l.s (next_at l.t l.n (later_end l.t l.l l.e l.initial.figures l.parts) l.figures l.s) l.sum
