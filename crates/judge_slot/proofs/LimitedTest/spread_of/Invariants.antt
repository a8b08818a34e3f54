-- What is made is of the figures passed.
use Rattle.std.proofs.Common.{◌+◌}
use Rattle.judge_slot.specs.Spreads.{Spreads}
use Rattle.judge_slot.proofs.LimitedTest.spread_of.Given as goal

abbrev pub invariant-loop-i : goal.invariant-loop-i
invariant-loop-i l = Spreads l.figures (λ j. l.fn.from + j) l.i l.sum l.least l.most
