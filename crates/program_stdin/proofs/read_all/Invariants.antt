use Rattle.std.proofs.Common.{◌≡◌, length}
use Rattle.program_stdin.specs.Read.{Scanned}
use Rattle.program_stdin.proofs.read_all.Given as goal

abbrev pub invariant-loop : goal.invariant-loop
invariant-loop g l = (length l.text ≡ length l.initial.text) × Scanned (length l.initial.text) l.scan l.text
