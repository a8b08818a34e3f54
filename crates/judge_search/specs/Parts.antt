-- All rows of a table tested: those of the nodes, and then the goal row.
use Rattle.std.specs.Prelude.{◌≡◌, List, [], ◌∷◌, ℕ, ◌-◌, ℤ, Ok, Err, pos, length}
use Rattle.std.proofs.Common.{sym, ap, ◌∙◌}
use Rattle.rules.specs.Table.{Node}
use Rattle.rules.specs.Rows.{Row, eq, plus, slack, slack_rows, goal_row, rows_of}
use Rattle.row.specs.NodeRows.{rows_to, all-parts, goal-is}
use Rattle.judge_slot.specs.declared.Broken.{Broken}
use Rattle.judge_slot.specs.Searches.{Search, tested, tested-append, tested-one, next, stuck}

pub all_tested : (T M L : ℕ) (ns : List Node) (e : ℕ) (f : Row → ℤ) (n v : ℕ) {s : Search} → length ns ≡ n → s ≡ tested e f (Ok 0) (rows_to T M L ns n) →
    v ≡ slack T M (n - 1) 1 → next e f s (eq (plus v ∷ []) (pos 1)) ≡ tested e f (Ok 0) (rows_of T M L ns)
all_tested T M L ns e f n v {s} k p q =
    rw (goal-is T M L ns n k q, p, all-parts T M L ns n k)
    (sym (tested-append e f (Ok 0) (slack_rows T M L ns) (goal_row T M ns ∷ []) ∙ tested-one e f _ (goal_row T M ns)))

-- a search that is over
pub all-over : (T M L : ℕ) (ns : List Node) (e : ℕ) (f : Row → ℤ) (n : ℕ) {b : Broken} → length ns ≡ n → Err b ≡ tested e f (Ok 0) (rows_to T M L ns n) →
    Err b ≡ tested e f (Ok 0) (rows_of T M L ns)
all-over T M L ns e f n {b} k p =
    sym (tested-append e f (Ok 0) (slack_rows T M L ns) (goal_row T M ns ∷ []) ∙ ap (λ (s : Search). tested e f s (goal_row T M ns ∷ []))
    (ap (tested e f (Ok 0)) (sym (all-parts T M L ns n k)) ∙ sym p) ∙ stuck e f b (goal_row T M ns ∷ []))
