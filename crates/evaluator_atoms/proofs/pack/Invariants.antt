use mathlib.Core.Path.{◌≡◌}
use Prim.Native.Nat.{◌+◌, ◌-◌, ◌%◌, ◌≤◌, min}
use Rattle.evaluator_atoms.specs.Packing.{Packed}
use Rattle.evaluator_atoms.proofs.pack.Given as goal

abbrev pub invariant-loop-place : goal.invariant-loop-place
invariant-loop-place l = (l.place % l.w ≡ 0) × (l.place ≤ l.t + l.w) × Packed l.w l.run (min l.place l.t) l.block

abbrev pub decreases-loop-place : goal.decreases-loop-place
decreases-loop-place l = l.t - l.place
