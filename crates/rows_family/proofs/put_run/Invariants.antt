use Rattle.std.proofs.Common.{ℕ, List, length}
use Rattle.lists.specs.Flat.{flat}
use Rattle.cursor.specs.Puts.{Puts, Room}
use Rattle.rows_family.specs.Windows.{range, range_at}
use Rattle.rows_family.specs.Each.{PutsEach}
use Rattle.rows_family.proofs.put_run.Given as goal

-- whatever bytes the calls put, those of the slots passed are put
abbrev pub invariant-loop-i : goal.invariant-loop-i
invariant-loop-i g l =
    (bytes : ℕ → List ℕ) → PutsEach g.F.Fn l.put bytes → Room l.initial.out (length (range bytes l.p l.n)) →
    Puts (flat (range_at bytes l.p) l.i) l.initial.out l.out
