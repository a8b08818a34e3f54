use Prim.Native.Nat.{ℕ, ◌+◌}
use Rattle.evaluator_atoms.specs.Packing.{Laid, Packed}
use Rattle.evaluator_atoms.proofs.lay.Given as goal

abbrev pub invariant-loop-i : goal.invariant-loop-i
invariant-loop-i l = (w : ℕ) → Laid w l.run l.place l.count → Packed w l.run l.place l.initial.block → Packed w l.run (l.place + l.i) l.block
