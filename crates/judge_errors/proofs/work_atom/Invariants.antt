use Rattle.judge_errors.specs.Worked.{Worked, Small}
use Rattle.judge_errors.specs.Count.{figure_atom}
use Rattle.judge_errors.proofs.work_atom.Given as goal

abbrev pub invariant-loop-s : goal.invariant-loop-s
invariant-loop-s l = Worked l.t l.n (figure_atom l.e) l.initial.figures l.s l.figures × Small l.figures
