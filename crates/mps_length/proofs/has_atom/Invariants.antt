use Rattle.std.proofs.Common.{◌≡◌, false}
use Rattle.rules.specs.TableTest.{nodes_in}
use Rattle.mps_length.specs.Idle.{has_atom}
use Rattle.mps_length.proofs.has_atom.Given as goal

abbrev pub invariant-loop-i : goal.invariant-loop-i
invariant-loop-i l = has_atom (nodes_in l.plan.table.now) l.x l.i ≡ false
