-- A variable's lines are those of the nodes in whose rows its part stands, and the goal row's.
use Rattle.std.specs.Prelude.{◌≡◌, Bool, false, ◌||◌, ◌&&◌, ℕ, zero, suc, ◌+◌, ◌-◌, ◌*◌, ◌≤◌, ◌<◌, ltb, length}
use Rattle.std.proofs.Math.Path.{refl, ap, subst⁻¹}
use Rattle.std.proofs.Common.{sym, ◌∙◌, arith}
use Rattle.std.proofs.Math.Bool.{true, cond}
use mathlib.Core.List.{List, [], ◌∷◌, ◌++◌, map}
use Rattle.std.proofs.Math.Dec.{eqb}
use borrow.Author.Tests.{ltb-true, eqb-false}
use Rattle.lists.specs.Every.{Every, every_append}
use Rattle.lists.specs.Passing.{every-passing}
use Rattle.lists.specs.Place.{place_unique}
use Rattle.rules.specs.Quantities.{LoopAllowed}
use Rattle.rules.specs.Rule.{Unary, Binary, Window}
use Rattle.rules.specs.Rule.Unary.{not, eventually, always}
use Rattle.rules.specs.Rule.Binary.{and, or, implies, until}
use Rattle.rules.specs.Table.{Node, node_at}
use Rattle.rules.specs.Table.Node.{atom, unary, binary, windowed}
use Rattle.rules.specs.Rows.{Row, unary_loops, binary_loops, loops, loop_slack, unary_rows, binary_rows, in_window, window_slots, window_rows, slack}
use Rattle.rules.specs.Rows.{goes_on, next_slack, rows_at, loop_rows_at, slots_rows, node_rows, slack_rows, goal_row, rows_of}
use Rattle.rules.proofs.WindowParts.{window-variables}
use Rattle.mps.specs.Page.{entry_line, each_row, cost_line, column_lines}
use Rattle.row.specs.NodeRows.{rows_to}
use Rattle.mps_row.specs.Laws.{node_text, all-text}
use Rattle.mps_row.specs.Absent.{Lacks, absent, lines-empty}
use Rattle.mps_window.specs.Entries.{Others, over_lacks}
use Rattle.mps_users.specs.Users.{has_part, kept_part, uses, users, user_text, variable_text}
use Rattle.mps_users.specs.Picked.{gather_picked}

-- ---- rows that lack a variable, by the variables that they have

unary_lacks : (v : ℕ) (u : Unary) (inner : Bool) {P p P' : ℕ} → (P ≡ v → ⊥) → (p ≡ v → ⊥) → (unary_loops u ≡ true → inner ≡ true → P' ≡ v → ⊥)
    → Every (Lacks v) (unary_rows u inner P p P')
unary_lacks v not inner a b c = omega arith
unary_lacks v eventually true a b c = let d = c refl refl in omega arith
unary_lacks v eventually false a b c = omega arith
unary_lacks v always true a b c = let d = c refl refl in omega arith
unary_lacks v always false a b c = omega arith

binary_lacks : (v : ℕ) (o : Binary) (inner : Bool) {P p q P' : ℕ} → (P ≡ v → ⊥) → (p ≡ v → ⊥) → (q ≡ v → ⊥)
    → (binary_loops o ≡ true → inner ≡ true → P' ≡ v → ⊥) →
    Every (Lacks v) (binary_rows o inner P p q P')
binary_lacks v and inner a b c d = omega arith
binary_lacks v or inner a b c d = omega arith
binary_lacks v implies inner a b c d = omega arith
binary_lacks v until true a b c d = let e = d refl refl in omega arith
binary_lacks v until false a b c d = omega arith

-- a property of each part that stands in the rows of node n
abbrev EachPart : (ℕ → Type 0) → (M n : ℕ) → Node → Type 0
EachPart Q M n (atom a) = Q (M + n) × Q a
EachPart Q M n (unary u c) = Q (M + n) × Q (M + c)
EachPart Q M n (binary o l r) = Q (M + n) × (Q (M + l) × Q (M + r))
EachPart Q M n (windowed w a b c) = Q (M + n) × Q (M + c)

every-part : (Q : ℕ → Type 0) (M n : ℕ) (nd : Node) → ((y : ℕ) → Q y) → EachPart Q M n nd
every-part Q M n (atom a) f = (f (M + n), f a)
every-part Q M n (unary u c) f = (f (M + n), f (M + c))
every-part Q M n (binary o l r) f = (f (M + n), (f (M + l), f (M + r)))
every-part Q M n (windowed w a b c) f = (f (M + n), f (M + c))

or-false : (a b : Bool) → (a || b) ≡ false → (a ≡ false) × (b ≡ false)
or-false true b e = let z : ◌≡◌ {A = ℕ} 0 1 = cc in absurd (omega arith)
or-false false b e = (refl, e)

-- a node that does not use part x has other parts
other-parts : (M x n : ℕ) (nd : Node) → has_part M x n nd ≡ false → (Q : ℕ → Type 0) → ((y : ℕ) → (y ≡ x → ⊥) → Q y) → EachPart Q M n nd
other-parts M x n nd e Q f = go nd e
  where
    other : (y : ℕ) → eqb x y ≡ false → Q y
    other y g = f y (λ q. eqb-false x y g (sym q))

    go : (nd : Node) → has_part M x n nd ≡ false → EachPart Q M n nd
    go (atom a) e =
        let g = or-false (eqb x (M + n)) (eqb x a) e in
        (other (M + n) g.0, other a g.1)
    go (unary u c) e =
        let g = or-false (eqb x (M + n)) (eqb x (M + c)) e in
        (other (M + n) g.0, other (M + c) g.1)
    go (binary o l r) e =
        let g = or-false (eqb x (M + n)) (eqb x (M + l) || eqb x (M + r)) e in
        let k = or-false (eqb x (M + l)) (eqb x (M + r)) g.1 in
        (other (M + n) g.0, (other (M + l) k.0, other (M + r) k.1))
    go (windowed w a b c) e =
        let g = or-false (eqb x (M + n)) (eqb x (M + c)) e in
        (other (M + n) g.0, other (M + c) g.1)

-- a window's rows have the node's variable, and its part's at slots of the window
others-map : (v : ℕ) (p : ℕ → ℕ) (ss : List ℕ) → Every (λ s. p s ≡ v → ⊥) ss → Others v (map p ss)
others-map v p [] h = tt
others-map v p (s ∷ ss) h = (h.0, others-map v p ss h.1)

window_lacks : (w : Window) (P v : ℕ) (p : ℕ → ℕ) (ss : List ℕ) → (P ≡ v → ⊥) → Every (λ s. p s ≡ v → ⊥) ss → Every (Lacks v) (window_rows w P p ss)
window_lacks w P v p ss a h = subst⁻¹ (Every (Lacks v)) (window-variables P p w ss) (over_lacks w P v (map p ss) a (others-map v p ss h))

-- rows that are there or not, and at all slots
if-lacks : (v : ℕ) (b : Bool) (rows : List Row) → (b ≡ true → Every (Lacks v) rows) → Every (Lacks v) (cond b rows [])
if-lacks v true rows h = h refl
if-lacks v false rows h = tt

slots_lack : (v : ℕ) (f : ℕ → List Row) (T k t : ℕ) → ((i : ℕ) → i < T → Every (Lacks v) (f (i + 1))) → 1 ≤ t → t + k ≤ T + 1
    → Every (Lacks v) (slots_rows f k t)
slots_lack v f T zero t h l u = tt
slots_lack v f T (suc k) t h l u =
    let e : t - 1 + 1 ≡ t = omega arith in
    (every_append (Lacks v) (f t) (slots_rows f k (t + 1))).1 (
      ap_every e (h (t - 1) (omega arith)),
      slots_lack v f T k (t + 1) h (omega arith) (omega arith),
    )
  where
    ap_every : {i j : ℕ} → i ≡ j → Every (Lacks v) (f i) → Every (Lacks v) (f j)
    ap_every e x = rw e at x

pub and-false : (a b : Bool) → (a && b) ≡ false → a ≡ true → b ≡ false
and-false true b e h = e
and-false false b e h = let z : ◌≡◌ {A = ℕ} 0 1 = cc in absurd (omega arith)

-- ---- the variable of part x at slot s + 1: none of its lines are of a node that does not use part x

module _ (T M L : ℕ) (loop : LoopAllowed T L) (ns : List Node) (x s : ℕ) (h : s < T) where
  abbrev v : ℕ
  v = x * T + s

  -- another part has other variables
  apart : (y i : ℕ) → i < T → (y ≡ x → ⊥) → y * T + i ≡ v → ⊥
  apart y i l f q = f (place_unique T l h q).0

  module _ (n : ℕ) (nd : Node) (is : node_at ns n ≡ nd) (e : has_part M x n nd ≡ false) (k : loops nd ≡ true → kept_part M ns n ≡ x → ⊥) where
    others : EachPart (λ y. y ≡ x → ⊥) M n nd
    others = other-parts M x n nd e (λ y. y ≡ x → ⊥) (λ y f. f)

    own : (i : ℕ) → i < T → (M + n ≡ x → ⊥) → slack T M n (i + 1) ≡ v → ⊥
    own i l f = apart (M + n) (i + 1 - 1) (omega arith) f

    kept : (i : ℕ) → i < T → loops nd ≡ true → loop_slack T M ns n (i + 1) ≡ v → ⊥
    kept i l g = apart (kept_part M ns n) (i + 1 - 1) (omega arith) (k g)

    next : (i : ℕ) → i < T → (M + n ≡ x → ⊥) → loops nd ≡ true → goes_on T L (i + 1) ≡ true → next_slack T M L ns n (i + 1) ≡ v → ⊥
    next i l f g c = go (ltb (i + 1) T) refl
      where
        go : (b : Bool) → ltb (i + 1) T ≡ b → cond b (slack T M n (i + 1 + 1)) (loop_slack T M ns n L) ≡ v → ⊥
        go true z = apart (M + n) (i + 1 + 1 - 1) (let w = ltb-true (i + 1) T z in omega arith) f
        go false z = apart (kept_part M ns n) (L - 1) (omega (arith, loop)) (k g)

  at_lacks : (n i : ℕ) (nd : Node) → node_at ns n ≡ nd → i < T → has_part M x n nd ≡ false → (loops nd ≡ true → kept_part M ns n ≡ x → ⊥) →
      Every (Lacks v) (rows_at T M L ns n nd (i + 1))
  at_lacks n i (atom a) is l e k =
      let o = others n (atom a) is e k in
      ((own n (atom a) is e k i l o.0, (apart a (i + 1 - 1) (omega arith) o.1, tt)), tt)
  at_lacks n i (unary u c) is l e k =
      let o = others n (unary u c) is e k in
      unary_lacks v u (goes_on T L (i + 1)) (own n (unary u c) is e k i l o.0) (apart (M + c) (i + 1 - 1) (omega arith) o.1)
      (next n (unary u c) is e k i l o.0)
  at_lacks n i (binary b c d) is l e k =
      let o = others n (binary b c d) is e k in
      binary_lacks v b (goes_on T L (i + 1)) (own n (binary b c d) is e k i l o.0) (apart (M + c) (i + 1 - 1) (omega arith) o.1.0)
      (apart (M + d) (i + 1 - 1) (omega arith) o.1.1) (next n (binary b c d) is e k i l o.0)
  at_lacks n i (windowed w a b c) is l e k =
      let o = others n (windowed w a b c) is e k in
      window_lacks w (slack T M n (i + 1)) v (slack T M c) (window_slots T L (i + 1) a b) (own n (windowed w a b c) is e k i l o.0)
      (every-passing (in_window T L (i + 1) a b) (λ j. slack T M c j ≡ v → ⊥) T 1 (λ j p q z. apart (M + c) (j - 1) (omega arith) o.1))

  loop-lacks : (n i : ℕ) (nd : Node) → node_at ns n ≡ nd → i < T → has_part M x n nd ≡ false → (loops nd ≡ true → kept_part M ns n ≡ x → ⊥) →
      Every (Lacks v) (loop_rows_at T M ns n nd (i + 1))
  loop-lacks n i (atom a) is l e k = tt
  loop-lacks n i (unary u c) is l e k =
      let o = others n (unary u c) is e k in
      if-lacks v (unary_loops u) _ (λ g. unary_lacks v u (ltb (i + 1) T) (kept n (unary u c) is e k i l g) (apart (M + c) (i + 1 - 1) (omega arith) o.1)
      (λ f z. kept n (unary u c) is e k (i + 1) (ltb-true (i + 1) T z) g))
  loop-lacks n i (binary b c d) is l e k =
      let o = others n (binary b c d) is e k in
      if-lacks v (binary_loops b) _ (λ g. binary_lacks v b (ltb (i + 1) T) (kept n (binary b c d) is e k i l g)
      (apart (M + c) (i + 1 - 1) (omega arith) o.1.0)
      (apart (M + d) (i + 1 - 1) (omega arith) o.1.1) (λ f z. kept n (binary b c d) is e k (i + 1) (ltb-true (i + 1) T z) g))
  loop-lacks n i (windowed w a b c) is l e k = tt

  unused : (n : ℕ) → uses M ns x n ≡ false → user_text T M L ns v n ≡ []
  unfolding node_text
  unused n e =
      let nd = node_at ns n in
      let f = or-false (has_part M x n nd) (loops nd && eqb x (kept_part M ns n)) e in
      let k : loops nd ≡ true → kept_part M ns n ≡ x → ⊥ =
      λ g q. eqb-false x (kept_part M ns n) (and-false (loops nd) (eqb x (kept_part M ns n)) f.1 g) (sym q) in
      absent v (length (rows_to T M L ns n)) (node_rows T M L ns n nd)
      ((every_append (Lacks v) (cond (ltb L T) (slots_rows (loop_rows_at T M ns n nd) T 1) []) (slots_rows (rows_at T M L ns n nd) T 1)).1 (
        if-lacks v (ltb L T) _ (λ z. slots_lack v (loop_rows_at T M ns n nd) T T 1 (λ i l. loop-lacks n i nd refl l f.0 k) (omega arith) (omega arith)),
        slots_lack v (rows_at T M L ns n nd) T T 1 (λ i l. at_lacks n i nd refl l f.0 k) (omega arith) (omega arith),
      ))

  pub variable-text : each_row (entry_line v) 0 (rows_of T M L ns) ≡ variable_text T M L ns x s
  unfolding users variable_text
  variable-text =
      all-text T M L ns (entry_line v)
      ∙ ap (λ (l : List ℕ). l ++ entry_line v (length (slack_rows T M L ns)) (goal_row T M ns))
      (gather_picked (user_text T M L ns v) (λ n. uses M ns x n) (length ns) (λ n g. unused n))

  -- "A variable in no row has one COST line with 0.": it has that line where it has no others
  pub column-text : column_lines (rows_of T M L ns) v ≡ cond (ltb 0 (length (variable_text T M L ns x s))) (variable_text T M L ns x s) (cost_line v)
  unfolding column_lines
  column-text =
      ap (λ (b : Bool). cond b (each_row (entry_line v) 0 (rows_of T M L ns)) (cost_line v)) (lines-empty v 0 (rows_of T M L ns))
      ∙ ap (λ (l : List ℕ). cond (ltb 0 (length l)) l (cost_line v)) variable-text
