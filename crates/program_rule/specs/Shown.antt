-- What is printed of a scan's state.
use Rattle.std.specs.Prelude.{cond, List, ℕ}
use Rattle.program_input.specs.Scanning.{State, shaped}
use Rattle.program_rule.specs.Output.{bad_input}

unfoldable pub shown : ((T M : ℕ) (text : List ℕ) → List ℕ) → State → List ℕ
shown print s = cond (shaped s.stage) (print s.slots s.atoms s.rule) bad_input
