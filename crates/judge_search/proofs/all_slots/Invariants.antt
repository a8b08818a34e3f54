-- The rows of the slots passed are tested.
use Rattle.std.proofs.Common.{List, ℕ, ℤ, Ok, ◌+◌, ◌*◌, ◌≤◌, ◌<◌}
use Rattle.rules.specs.Rows.{Row}
use Rattle.judge_slot.specs.Counts as Counts
use Rattle.judge_slot.specs.Searches.{Search, Tested}
use Rattle.judge_search.specs.Slots.{Passing}
use Rattle.judge_search.proofs.all_slots.Given as goal

abbrev pub invariant-loop-s : goal.invariant-loop-s
invariant-loop-s g l =
    record {
      few : l.rows ≤ l.fn.count + Counts.at_slot * l.s;
      passing : (e : ℕ) (f : Row → ℤ) (h : ℕ → List Row) →
          ((rows s : ℕ) (x : Search) → s < l.fn.k → goal.F-post g l.test rows s x → Tested e f (Ok rows) (h s) x) →
          Passing e f (Ok l.fn.count) h l.s (Ok l.rows);
    }
