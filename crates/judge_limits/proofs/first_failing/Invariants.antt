-- The search from here on finds what the whole search does.
use Rattle.std.proofs.Common.{◌≡◌, Bool, ℕ, ◌-◌}
use Rattle.lists.specs.First.{first}
use Rattle.judge_limits.specs.Tests.{figure}
use Rattle.judge_limits.proofs.first_failing.Given as goal

abbrev pub invariant-loop-v : goal.invariant-loop-v
invariant-loop-v g l =
    (test : ℕ → Bool) → ((v : ℕ) (b : Bool) → goal.F-post g l.fails (figure l.figures v) b → b ≡ test v) →
    first test (l.n - l.v) l.v ≡ first test (l.n - l.from) l.from
