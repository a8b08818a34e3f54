-- What is left, from here, is found as all of it is from the start.
use Rattle.std.proofs.Common.{◌≡◌, Ok, ◌+◌, ◌≤◌, drop}
use Rattle.judge_slot.specs.Searches.{steps, reached}
use Rattle.judge_slot.proofs.Test.steps.Given as goal

abbrev pub invariant-loop-shortfall : goal.invariant-loop-shortfall
invariant-loop-shortfall g l =
    record {
      same : steps l.self.e (drop l.shortfall-index l.fn.shortfalls) (Ok l.done) ≡ steps l.self.e l.fn.shortfalls l.fn.state;
      few : l.done ≤ reached l.fn.state + l.shortfall-index;
    }
