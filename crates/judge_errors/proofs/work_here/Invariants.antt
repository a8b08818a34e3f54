use Rattle.judge_errors.specs.Worked.{Worked, Small}
use Rattle.judge_errors.specs.Count.{figure_here}
use Rattle.judge_errors.proofs.work_here.Given as goal

abbrev pub invariant-loop-s : goal.invariant-loop-s
invariant-loop-s l = Worked l.t l.n (figure_here l.t l.e l.initial.figures l.parts) l.initial.figures l.s l.figures × Small l.figures
