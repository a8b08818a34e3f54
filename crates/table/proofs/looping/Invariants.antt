use Rattle.std.proofs.Common.{◌≡◌}
use Rattle.rules.specs.TableTest.{nodes_in}
use Rattle.table.specs.Looping.{looping_to}
use Rattle.table.proofs.looping.Given as goal

abbrev pub invariant-loop-n : goal.invariant-loop-n
invariant-loop-n l = l.found ≡ looping_to (nodes_in l.table) l.n
