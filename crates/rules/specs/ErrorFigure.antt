-- Request N7: the error figures (bounds on how far a figure that the judge passes is from the truth).
use Rattle.std.specs.Prelude.{◌≡◌, true, cond, List, [], ◌∷◌, ℕ, zero, suc, ◌+◌, ◌*◌, ◌≤◌, ◌<◌, min, max, eqb, length}
use Rattle.rules.specs.Quantities.{one}
use Rattle.rules.specs.Table.{Node, node_at}
use Rattle.rules.specs.Rows.{Term, Row, slack, loops, loop_slack, variable_count, rows_at, loop_rows_at}

-- how often variable v stands in a row, as the row is written (equal variables are not added together): "so a part that is both left and right of an
-- "and" counts twice"
abbrev pub times : (v : ℕ) → List Term → ℕ
times v [] = 0
times v (t ∷ ts) = cond (eqb v t.variable) 1 0 + times v ts

-- "as often as it stands in that one of these rows where it stands most often"
abbrev pub most : (v : ℕ) → List Row → ℕ
most v [] = 0
most v (r ∷ rs) = max (times v r.terms) (most v rs)

-- "the error figures of all other variables that stand in its rows for that slot. Each is counted ..": of all variables below k but P
abbrev pub others : (error : ℕ → ℕ) (P : ℕ) → List Row → (k : ℕ) → ℕ
others error P rs zero = 0
others error P rs (suc v) = others error P rs v + cond (eqb v P) 0 (most v rs * error v)

-- `error` gives the error figure of each variable. That a good table has them, and one of each, is OneFigureEach in Demands.antt.
pub record ErrorFigures (T M L e : ℕ) (ns : List Node) (error : ℕ → ℕ) : Type 0 where
  -- "An atom variable has e."
  pub atoms : (v : ℕ) → v < M * T → error v ≡ e
  -- "A node has e plus the error figures of all other variables ..": "Stop at 1,000,000."
  pub nodes : (n t : ℕ) → n < length ns → 1 ≤ t → t ≤ T →
      error (slack T M n t) ≡ min one (e + others error (slack T M n t) (rows_at T M L ns n (node_at ns n) t) (variable_count T M L ns))
  -- Request N8: "A V slack's error figure is counted from its V rows as a node's is from its own."
  pub kept : (n t : ℕ) → n < length ns → loops (node_at ns n) ≡ true → L < T → 1 ≤ t → t ≤ T →
      error (loop_slack T M ns n t) ≡ min one (e + others error (loop_slack T M ns n t) (loop_rows_at T M ns n (node_at ns n) t) (variable_count T M L ns))
