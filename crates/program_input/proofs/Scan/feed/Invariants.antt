use Rattle.program_input.specs.Feeding.{Feeding}
use Rattle.program_input.proofs.Scan.feed.Given as goal

abbrev pub invariant-loop-b : goal.invariant-loop-b
invariant-loop-b l = Feeding l.fn.self l.initial.text l.chunk l.b-index l.self l.text
