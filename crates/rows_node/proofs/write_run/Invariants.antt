use Rattle.std.proofs.Common.{length}
use Rattle.lists.specs.Flat.{flat}
use Rattle.cursor.specs.Puts.{Puts, Room}
use Rattle.rows_node.specs.Families.{Family, PutsFamily, at_slot, at_slots}
use Rattle.rows_node.proofs.write_run.Given as goal

-- whatever family the calls put, its rows at the slots passed are put
abbrev pub invariant-loop-s : goal.invariant-loop-s
invariant-loop-s g l =
    (rows : Family) → PutsFamily g.F.Fn l.put rows → Room l.initial.out (length (at_slots rows l.block l.n)) →
    Puts (flat (at_slot rows l.block) l.s) l.initial.out l.out
