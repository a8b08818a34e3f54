-- The lines of a variable: those in the rows of the nodes that have it, and in the goal row; or its COST line.
use Rattle.std.specs.Prelude.{◌≡◌, refl, Bool, cond, length, get_or}
use Rattle.std.proofs.Math.Path.{sym, ap, ap₂}
use Rattle.std.proofs.Common.{◌∙◌, arith, lt-ltb, le-ltb}
use mathlib.Core.List.{List, [], ◌∷◌, ◌++◌, flat_map}
use Prim.Native.Nat.{ℕ, ◌+◌, ◌*◌, ◌<◌}
use Rattle.lists.specs.Flat.{flat, flat-same}
use Rattle.rules.specs.Quantities.{LoopAllowed}
use Rattle.rules.specs.Table.{Node}
use Rattle.rules.specs.Rows.{Row, slack_rows, goal_row, rows_of}
use Rattle.mps.specs.Page.{entry_line, cost_line, column_lines}
use Rattle.cursor.specs.declared.Cursor.{Cursor}
use Rattle.mps_line.specs.Emitted.{Emitted, emitted-also, emitted_as}
use Rattle.mps_users.specs.Users.{users, user_text, variable_text}
use Rattle.mps_users.specs.Picked.{gather_listed}
use Rattle.mps_users.specs.Around.{column-text}
use Rattle.mps_users.specs.Found.{Found}

module _ (T M L : ℕ) (loop : LoopAllowed T L) (ns : List Node) (x s v : ℕ) (is : v ≡ x * T + s) (low : s < T) where
  -- in the rows of all users, and in the goal row
  pub users-emitted : {count rows : ℕ} {list : List ℕ} {goal : Row} {a b c : Cursor} → Found M ns x list count →
      Emitted (flat (λ j. user_text T M L ns v (get_or list j 0)) count) a b →
      rows ≡ length (slack_rows T M L ns) → goal ≡ goal_row T M ns → Emitted (entry_line v rows goal) b c →
      Emitted (variable_text T M L ns x s) a c
  unfolding variable_text
  users-emitted {count = count} {rows} {list} {goal = goal} f p e g q =
      let around : ℕ → List ℕ = user_text T M L ns v in
      let listed : flat (λ j. around (get_or list j 0)) count ≡ flat_map around (users M ns x) =
      flat-same (λ j. around (get_or list j 0)) (λ j. around (get_or (users M ns x) j 0)) count (λ j h. ap around (f.are j h))
      ∙ ap (flat (λ j. around (get_or (users M ns x) j 0))) f.counted ∙ sym (gather_listed around (users M ns x)) in
      let goals : entry_line v rows goal ≡ entry_line v (length (slack_rows T M L ns)) (goal_row T M ns) = ap₂ (entry_line v) e g in
      emitted_as (ap₂ ◌++◌ listed goals
      ∙ ap (λ (w : ℕ). flat_map (user_text T M L ns w) (users M ns x) ++ entry_line w (length (slack_rows T M L ns)) (goal_row T M ns)) is) (emitted-also p q)

  abbrev column : List ℕ
  column = column_lines (rows_of T M L ns) (x * T + s)

  -- there are some, or none
  pub column-some : {a b : Cursor} → Emitted (variable_text T M L ns x s) a b → (b.at ≡ a.at → ⊥) → Emitted column a b
  column-some {a} {b} p h =
      let some : 0 < length (variable_text T M L ns x s) =
      more (length (variable_text T M L ns x s)) (λ z. h (p.ends ∙ (let e : a.at + length (variable_text T M L ns x s) ≡ a.at = omega arith in e))) in
      emitted_as (sym (column-text T M L loop ns x s low ∙ ap (λ (b : Bool). cond b (variable_text T M L ns x s) (cost_line (x * T + s)))
      (lt-ltb 0 (length (variable_text T M L ns x s)) some))) p
    where
      more : (k : ℕ) → (k ≡ 0 → ⊥) → 0 < k
      more k h = omega arith

  pub column-none : {a b c : Cursor} → Emitted (variable_text T M L ns x s) a b → b.at ≡ a.at → Emitted (cost_line v) b c → Emitted column a c
  column-none {a} {b} {c} p e q =
      let none : length (variable_text T M L ns x s) ≡ 0 = omega (arith, p.ends) in
      let empty : variable_text T M L ns x s ≡ [] = no_length (variable_text T M L ns x s) none in
      let text : cost_line v ≡ column =
      ap cost_line is ∙ sym (column-text T M L loop ns x s low ∙ ap (λ (b : Bool). cond b (variable_text T M L ns x s) (cost_line (x * T + s)))
      (le-ltb 0 (length (variable_text T M L ns x s)) (omega arith))) in
      emitted_as (ap (λ (t : List ℕ). t ++ cost_line v) empty ∙ text) (emitted-also p q)
    where
      no_length : (t : List ℕ) → length t ≡ 0 → t ≡ []
      no_length [] h = refl
      no_length (b ∷ t) h = absurd (omega arith)
