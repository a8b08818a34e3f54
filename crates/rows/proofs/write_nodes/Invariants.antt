use Rattle.std.proofs.Common.{◌≡◌}
use Rattle.lists.specs.Flat.{flat}
use Rattle.cursor.specs.Puts.{Puts}
use Rattle.rules.specs.TableTest.{nodes_in}
use Rattle.table.specs.Looping.{looping_to}
use Rattle.rows.specs.Parts.{part_bytes}
use Rattle.rows.proofs.write_nodes.Given as goal

-- the rows of the nodes passed are written, and those with a V counted
abbrev pub invariant-loop-i : goal.invariant-loop-i
invariant-loop-i l =
    (l.looping ≡ looping_to (nodes_in l.plan.table.now) l.i)
    × Puts (flat (part_bytes l.plan.t l.plan.m l.plan.l (nodes_in l.plan.table.now)) l.i) l.initial.out l.out
