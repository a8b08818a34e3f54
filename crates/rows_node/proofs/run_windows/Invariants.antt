use Rattle.lists.specs.Flat.{flat}
use Rattle.cursor.specs.Puts.{Puts}
use Rattle.rows_node.specs.Blocks.{slot_bytes}
use Rattle.rows_node.proofs.run_windows.Given as goal

abbrev pub invariant-loop-s : goal.invariant-loop-s
invariant-loop-s l = Puts (flat (slot_bytes l.block l.t l.l) l.s) l.initial.out l.out
