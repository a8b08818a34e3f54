-- The rows of the slots passed are tested, and their figures summed.
use Rattle.std.proofs.Common.{◌≡◌, Ok, [], ◌∷◌, ◌+◌, ◌*◌, ◌≤◌, nat_abs}
use Rattle.lists.specs.Flat.{flat}
use Rattle.rules.specs.Judge.{shortfall}
use Rattle.millionths.specs.Bounds as Bounds
use Rattle.window.specs.Slots.{variable_at}
use Rattle.judge_slot.specs.Searches.{tested}
use Rattle.judge_slot.specs.Windows.{slot_row, sum_to}
use Rattle.judge_slot.proofs.Test.search_window.Given as goal

abbrev pub invariant-loop-i : goal.invariant-loop-i
invariant-loop-i l =
    record {
      is : Ok l.done ≡ tested l.self.e (shortfall l.self.figures.now) (Ok l.fn.rows) (flat (λ j. slot_row l.fn.kind l.fn.node l.fn.looks l.fn.p j ∷ []) l.i);
      sum_is : l.sum ≡ sum_to l.self.figures.now (variable_at l.fn.looks l.fn.p) l.i;
      small : nat_abs l.sum ≤ Bounds.figure * l.i;
      few : l.done ≤ l.fn.rows + l.i;
    }
