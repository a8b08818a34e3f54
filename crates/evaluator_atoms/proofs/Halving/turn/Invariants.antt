use Rattle.evaluator_atoms.specs.Exchanged.{Exchanged}
use Rattle.evaluator_atoms.proofs.Halving.turn.Given as goal

abbrev pub invariant-loop-k : goal.invariant-loop-k
invariant-loop-k l = Exchanged l.self.half l.self.mask l.initial.block l.k l.block
