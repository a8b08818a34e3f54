-- How many rows a table has at most: T + 8 for each node and slot, and the goal row.
use Rattle.std.specs.Prelude.{Bool, true, false, cond, ◌≡◌, List, [], ◌∷◌, ◌++◌, map, ℕ, zero, suc, ◌+◌, ◌*◌, ◌≤◌, ltb, length}
use Rattle.std.proofs.Common.{arith, length-append}
use Rattle.std.proofs.lemmas.List.{length-map}
use Rattle.lists.specs.Passing.{passing-length}
use Rattle.rules.specs.Rule.{Unary, Binary, Window}
use Rattle.rules.specs.Rule.Unary.{not, eventually, always}
use Rattle.rules.specs.Rule.Binary.{and, or, implies, until}
use Rattle.rules.specs.Rule.Window.{within, throughout}
use Rattle.rules.specs.Table.{Node}
use Rattle.rules.specs.Table.Node.{atom, unary, binary, windowed}
use Rattle.rules.specs.Rows.{Row, slack, loop_slack, unary_loops, binary_loops, in_window, window_slots, unary_rows, binary_rows, window_rows, goes_on}
use Rattle.rules.specs.Rows.{next_slack, rows_at, loop_rows_at, slots_rows, node_rows, nodes_rows, slack_rows, goal_row, rows_of}

unary-count : (u : Unary) (inner : Bool) (P p P' : ℕ) → length (unary_rows u inner P p P') ≤ 4
unary-count not inner P p P' = omega arith
unary-count eventually true P p P' = omega arith
unary-count eventually false P p P' = omega arith
unary-count always true P p P' = omega arith
unary-count always false P p P' = omega arith

binary-count : (o : Binary) (inner : Bool) (P p q P' : ℕ) → length (binary_rows o inner P p q P') ≤ 4
binary-count and inner P p q P' = omega arith
binary-count or inner P p q P' = omega arith
binary-count implies inner P p q P' = omega arith
binary-count until true P p q P' = omega arith
binary-count until false P p q P' = omega arith

-- rows that are there or not
if-count : (b : Bool) (rs : List Row) {k : ℕ} → length rs ≤ k → length (cond b rs []) ≤ k
if-count true rs h = h
if-count false rs h = omega arith

pub slots-count : (f : ℕ → List Row) (m : ℕ) → ((t : ℕ) → length (f t) ≤ m) → (k t : ℕ) → length (slots_rows f k t) ≤ m * k
slots-count f m h zero t = omega arith
slots-count f m h (suc k) t = omega (arith, length-append (f t) (slots_rows f k (t + 1)), h t, slots-count f m h k (t + 1))

-- a row for each slot, and one more
one_more : (f : ℕ → Row) (r : Row) (ss : List ℕ) → length (map f ss ++ (r ∷ [])) ≡ length ss + 1
one_more f r ss = omega (arith, length-append (map f ss) (r ∷ []), length-map ss f)

pub window-count : (w : Window) (P : ℕ) (p : ℕ → ℕ) (ss : List ℕ) → length (window_rows w P p ss) ≡ length ss + 1
window-count within P p ss = one_more _ _ ss
window-count throughout P p ss = one_more _ _ ss

module _ (T M L : ℕ) (ns : List Node) where
  at_count : (n : ℕ) (nd : Node) (t : ℕ) → length (rows_at T M L ns n nd t) ≤ T + 4
  at_count n (atom a) t = omega arith
  at_count n (unary u c) t = omega (arith, unary-count u (goes_on T L t) (slack T M n t) (slack T M c t) (next_slack T M L ns n t))
  at_count n (binary o l r) t = omega (arith, binary-count o (goes_on T L t) (slack T M n t) (slack T M l t) (slack T M r t) (next_slack T M L ns n t))
  at_count n (windowed w a b c) t = omega (arith, window-count w (slack T M n t) (slack T M c) (window_slots T L t a b), passing-length (in_window T L t a b) T 1)

  loop-count : (n : ℕ) (nd : Node) (t : ℕ) → length (loop_rows_at T M ns n nd t) ≤ 4
  loop-count n (atom a) t = omega arith
  loop-count n (unary u c) t = if-count (unary_loops u) _ (unary-count u (ltb t T) (loop_slack T M ns n t) (slack T M c t) (loop_slack T M ns n (t + 1)))
  loop-count n (binary o l r) t =
      if-count (binary_loops o) _ (binary-count o (ltb t T) (loop_slack T M ns n t) (slack T M l t) (slack T M r t) (loop_slack T M ns n (t + 1)))
  loop-count n (windowed w a b c) t = omega arith

  pub node-count : (n : ℕ) (nd : Node) → length (node_rows T M L ns n nd) ≤ (T + 8) * T
  node-count n nd =
      let v = cond (ltb L T) (slots_rows (loop_rows_at T M ns n nd) T 1) [] in
      let p = slots_rows (rows_at T M L ns n nd) T 1 in
      omega (
        arith,
        length-append v p,
        if-count (ltb L T) (slots_rows (loop_rows_at T M ns n nd) T 1) (slots-count (loop_rows_at T M ns n nd) 4 (loop-count n nd) T 1),
        slots-count (rows_at T M L ns n nd) (T + 4) (at_count n nd) T 1,
      )

  nodes-count : (n : ℕ) (l : List Node) → length (nodes_rows T M L ns n l) ≤ (T + 8) * (length l * T)
  nodes-count n [] = omega arith
  nodes-count n (nd ∷ l) = omega (arith, length-append (node_rows T M L ns n nd) (nodes_rows T M L ns (n + 1) l), node-count n nd, nodes-count (n + 1) l)

  pub rows-count : length (rows_of T M L ns) ≤ (T + 8) * (length ns * T) + 1
  rows-count = omega (arith, length-append (slack_rows T M L ns) (goal_row T M ns ∷ []), nodes-count 0 ns)
