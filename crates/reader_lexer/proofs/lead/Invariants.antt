use Rattle.std.specs.Prelude.{◌≡◌, ◌+◌, drop}
use Rattle.rules.specs.Reading.Lexer.{spaces}
use Rattle.reader_lexer.proofs.lead.Given as goal

abbrev pub invariant-loop-i : goal.invariant-loop-i
invariant-loop-i l = record { spaces : l.i + spaces (drop l.i l.text) ≡ l.at + spaces (drop l.at l.text) }
