-- The meaning of a table's rows is kept: their variables are the table's, and rows over those keep their sums.
use Rattle.std.specs.Prelude.{◌≡◌, refl, ◌↔◌, Bool, true, false, cond, ◌||◌, List, [], ◌∷◌, ◌++◌, map, ℕ, zero, suc, ◌+◌, ◌-◌, ◌*◌, ◌≤◌, ◌<◌, ltb, ℤ, pos, ◌*ℤ◌, length, take}
use Rattle.std.proofs.Common.{sym, ap, subst, ◌∙◌, arith, ltb-true, lt-ltb, add-zero, zero-add, add-mul}
use Rattle.lists.specs.Every.{Every, every_append}
use Rattle.lists.specs.Place.{place_lt}
use Rattle.lists.specs.Passing.{every-passing}
use Rattle.rules.specs.Quantities.{LoopAllowed}
use Rattle.rules.specs.Rule.{Unary, Binary, Window}
use Rattle.rules.specs.Rule.Unary.{not, eventually, always}
use Rattle.rules.specs.Rule.Binary.{and, or, implies, until}
use Rattle.rules.specs.Rule.Window.{within, throughout}
use Rattle.rules.specs.Table.{Node, NodeGood, node_at, root}
use Rattle.rules.specs.Table.Node.{atom, unary, binary, windowed}
use Rattle.rules.specs.Rows.{Term, Row, plus, minus, ge, atom_variable, slack, unary_loops, binary_loops, loops, looping, loop_slack, variable_count, unary_rows}
use Rattle.rules.specs.Rows.{binary_rows, in_window, window_slots, window_rows, goes_on, rows_at, loop_rows_at, slots_rows, node_rows}
use Rattle.rules.specs.Rows.{nodes_rows, slack_rows, goal_row, rows_of, sum_of, MeetsBy, Meets}
use Rattle.rules.proofs.Solution.Looping.{looping_lt}
use Rattle.mps.specs.Merged.{merged}
use Rattle.mps.proofs.Sums.{merged-sum}
use Rattle.mps.specs.Says.{SameMeaning}

-- ---- every variable of a table's rows is below a count

abbrev pub Below : ℕ → Row → Type 0
Below n r = Every (λ (t : Term). t.variable < n) r.terms

unary-below : (n : ℕ) (u : Unary) (inner : Bool) {P p P' : ℕ} → P < n → p < n → (unary_loops u ≡ true → inner ≡ true → P' < n) →
    Every (Below n) (unary_rows u inner P p P')
unary-below n not inner a b c = omega arith
unary-below n eventually true a b c = let d = c refl refl in omega arith
unary-below n eventually false a b c = omega arith
unary-below n always true a b c = let d = c refl refl in omega arith
unary-below n always false a b c = omega arith

binary-below : (n : ℕ) (o : Binary) (inner : Bool) {P p q P' : ℕ} → P < n → p < n → q < n → (binary_loops o ≡ true → inner ≡ true → P' < n) →
    Every (Below n) (binary_rows o inner P p q P')
binary-below n and inner a b c d = omega arith
binary-below n or inner a b c d = omega arith
binary-below n implies inner a b c d = omega arith
binary-below n until true a b c d = let e = d refl refl in omega arith
binary-below n until false a b c d = omega arith

-- windows: the parts at the slots of the window
pluses-below : (n : ℕ) (p : ℕ → ℕ) (ss : List ℕ) (rest : List Term) → Every (λ s. p s < n) ss → Every (λ (t : Term). t.variable < n) rest →
    Every (λ (t : Term). t.variable < n) (map (λ s. plus (p s)) ss ++ rest)
pluses-below n p [] rest h g = g
pluses-below n p (s ∷ ss) rest h g = (h.0, pluses-below n p ss rest h.1 g)

minuses-below : (n : ℕ) (p : ℕ → ℕ) (ss : List ℕ) → Every (λ s. p s < n) ss → Every (λ (t : Term). t.variable < n) (map (λ s. minus (p s)) ss)
minuses-below n p [] h = tt
minuses-below n p (s ∷ ss) h = (h.0, minuses-below n p ss h.1)

pairs_below : (n : ℕ) (f : ℕ → Row) (p : ℕ → ℕ) (ss : List ℕ) → ((s : ℕ) → p s < n → Below n (f s)) → Every (λ s. p s < n) ss → Every (Below n) (map f ss)
pairs_below n f p [] g h = tt
pairs_below n f p (s ∷ ss) g h = (g s h.0, pairs_below n f p ss g h.1)

window-below : (n : ℕ) (w : Window) (P : ℕ) (p : ℕ → ℕ) (ss : List ℕ) → P < n → Every (λ s. p s < n) ss → Every (Below n) (window_rows w P p ss)
window-below n within P p ss a h =
    let pair : ℕ → Row = λ s. ge (plus P ∷ minus (p s) ∷ []) (pos 0) in
    (every_append (Below n) (map pair ss) _).1 (pairs_below n pair p ss (λ s g. (a, (g, tt))) h, (pluses-below n p ss (minus P ∷ []) h (a, tt), tt))
window-below n throughout P p ss a h =
    let pair : ℕ → Row = λ s. ge (plus (p s) ∷ minus P ∷ []) (pos 0) in
    (every_append (Below n) (map pair ss) _).1 (pairs_below n pair p ss (λ s g. (g, (a, tt))) h, ((a, minuses-below n p ss h), tt))

slots-below : (P : Row → Type 0) (f : ℕ → List Row) (T k t : ℕ) → ((s : ℕ) → 1 ≤ s → s ≤ T → Every P (f s)) → 1 ≤ t → t + k ≤ T + 1 → Every P (slots_rows f k t)
slots-below P f T zero t h s e = tt
slots-below P f T (suc k) t h s e =
    (every_append P (f t) (slots_rows f k (t + 1))).1 (h t s (omega arith), slots-below P f T k (t + 1) h (omega arith) (omega arith))

if-below : (P : Row → Type 0) (b : Bool) (rows : List Row) → (b ≡ true → Every P rows) → Every P (cond b rows [])
if-below P true rows h = h refl
if-below P false rows h = tt

module _ (T M L : ℕ) (loop : LoopAllowed T L) (ns : List Node) where
  abbrev All : ℕ
  All = variable_count T M L ns

  block-below : (c t : ℕ) → c < length ns + cond (ltb L T) (looping ns) 0 → 1 ≤ t → t ≤ T → (M + c) * T + (t - 1) < All
  block-below c t h s e =
      let b = length ns + cond (ltb L T) (looping ns) 0 in
      let l : (M + c) * T + (t - 1) < (M + b) * T = place_lt {c = M + c} {n = M + b} {s = t - 1} {T = T} (omega arith) (omega arith) in
      omega (arith, add-mul M b T)

  slack-below : (n t : ℕ) → n < length ns → 1 ≤ t → t ≤ T → slack T M n t < All
  slack-below n t h s e = block-below n t (omega arith) s e

  atom-below : (a t : ℕ) → a < M → 1 ≤ t → t ≤ T → atom_variable T a t < All
  atom-below a t h s e =
      let l : a * T + (t - 1) < M * T = place_lt {c = a} {n = M} {s = t - 1} {T = T} h (omega arith) in
      omega arith

  loop-below : (n t : ℕ) → n < length ns → loops (node_at ns n) ≡ true → L < T → 1 ≤ t → t ≤ T → loop_slack T M ns n t < All
  loop-below n t h k w s e =
      let j = looping_lt ns n k in
      block-below (length ns + looping (take n ns)) t (rw (lt-ltb L T w) (omega arith)) s e

  next-below : (n t : ℕ) → n < length ns → 1 ≤ t → t ≤ T → loops (node_at ns n) ≡ true → (c d : Bool) → ltb t T ≡ c → ltb L T ≡ d → (c || d) ≡ true →
      cond c (slack T M n (t + 1)) (loop_slack T M ns n L) < All
  next-below n t h s e k true d p q g = slack-below n (t + 1) h (omega arith) (let l = ltb-true t T p in omega arith)
  next-below n t h s e k false true p q g = loop-below n L h k (ltb-true L T q) loop.0 loop.1
  next-below n t h s e k false false p q g = let z : ◌≡◌ {A = ℕ} 0 1 = cc in absurd (omega arith)

  at-below : (n : ℕ) (nd : Node) (t : ℕ) → node_at ns n ≡ nd → n < length ns → NodeGood M n nd → 1 ≤ t → t ≤ T → Every (Below All) (rows_at T M L ns n nd t)
  at-below n (atom a) t z h g s e = ((slack-below n t h s e, (atom-below a t g s e, tt)), tt)
  at-below n (unary u c) t z h g s e =
      unary-below All u (goes_on T L t) (slack-below n t h s e) (slack-below c t (omega arith) s e)
      (λ k i. next-below n t h s e (ap loops z ∙ k) (ltb t T) (ltb L T) refl refl i)
  at-below n (binary o l r) t z h g s e =
      binary-below All o (goes_on T L t) (slack-below n t h s e) (slack-below l t (omega arith) s e) (slack-below r t (omega arith) s e)
      (λ k i. next-below n t h s e (ap loops z ∙ k) (ltb t T) (ltb L T) refl refl i)
  at-below n (windowed w a b c) t z h g s e =
      window-below All w (slack T M n t) (slack T M c) (window_slots T L t a b) (slack-below n t h s e)
      (every-passing (in_window T L t a b) (λ i. slack T M c i < All) T 1 (λ i u v x. slack-below c i (omega arith) u (omega arith)))

  later-below : (n t : ℕ) → n < length ns → loops (node_at ns n) ≡ true → L < T → ltb t T ≡ true → loop_slack T M ns n (t + 1) < All
  later-below n t h k w e = loop-below n (t + 1) h k w (omega arith) (let l = ltb-true t T e in omega arith)

  V_below : (n : ℕ) (nd : Node) (t : ℕ) → node_at ns n ≡ nd → L < T → n < length ns → NodeGood M n nd → 1 ≤ t → t ≤ T →
      Every (Below All) (loop_rows_at T M ns n nd t)
  V_below n (atom a) t z w h g s e = tt
  V_below n (unary u c) t z w h g s e =
      if-below (Below All) (unary_loops u) _ (λ k. unary-below All u (ltb t T) (loop-below n t h (ap loops z ∙ k) w s e) (slack-below c t (omega arith) s e)
      (λ i. later-below n t h (ap loops z ∙ k) w))
  V_below n (binary o l r) t z w h g s e =
      if-below (Below All) (binary_loops o) _
      (λ k. binary-below All o (ltb t T) (loop-below n t h (ap loops z ∙ k) w s e) (slack-below l t (omega arith) s e) (slack-below r t (omega arith) s e)
      (λ i. later-below n t h (ap loops z ∙ k) w))
  V_below n (windowed w a b c) t z v h g s e = tt

  node-below : (n : ℕ) (nd : Node) → node_at ns n ≡ nd → n < length ns → NodeGood M n nd → Every (Below All) (node_rows T M L ns n nd)
  node-below n nd z h g =
      (every_append (Below All) (cond (ltb L T) (slots_rows (loop_rows_at T M ns n nd) T 1) []) (slots_rows (rows_at T M L ns n nd) T 1)).1 (
        if-below (Below All) (ltb L T) _
            (λ w. slots-below (Below All) (loop_rows_at T M ns n nd) T T 1 (λ t s e. V_below n nd t z (ltb-true L T w) h g s e) (omega arith) (omega arith)),
        slots-below (Below All) (rows_at T M L ns n nd) T T 1 (λ t s e. at-below n nd t z h g s e) (omega arith) (omega arith),
      )

  nodes-below : (n : ℕ) (l : List Node) → n + length l ≡ length ns →
      ((i : ℕ) → i < length l → (node_at ns (n + i) ≡ node_at l i) × NodeGood M (n + i) (node_at l i)) → Every (Below All) (nodes_rows T M L ns n l)
  nodes-below n [] e g = tt
  nodes-below n (nd ∷ l) e g =
      let first = subst (λ (i : ℕ). (node_at ns i ≡ nd) × NodeGood M i nd) (add-zero n) (g 0 (omega arith)) in
      (every_append (Below All) (node_rows T M L ns n nd) (nodes_rows T M L ns (n + 1) l)).1 (
        node-below n nd first.0 (omega arith) first.1,
        nodes-below (n + 1) l (omega arith)
            (λ i h. subst (λ (j : ℕ). (node_at ns j ≡ node_at l i) × NodeGood M j (node_at l i)) (omega arith) (g (suc i) (omega arith))),
      )

  pub rows-below : 1 ≤ length ns → ((n : ℕ) → n < length ns → NodeGood M n (node_at ns n)) → Every (Below All) (rows_of T M L ns)
  rows-below some g =
      (every_append (Below All) (slack_rows T M L ns) (goal_row T M ns ∷ [])).1 (
        nodes-below 0 ns (omega arith) (λ i h. subst (λ (j : ℕ). (node_at ns j ≡ node_at ns i) × NodeGood M j (node_at ns i)) (sym (zero-add i)) (refl, g i h)),
        ((slack-below (root ns) 1 (omega arith) (omega arith) (omega (arith, loop)), tt), tt),
      )

-- ---- so numerators meet a row after the adding and dropping exactly when they meet it as written

same_meets : (D : ℕ) (xs : List ℤ) (n : ℕ) (r : Row) → Below n r → Meets D xs (merged n r) ↔ Meets D xs r
unfolding merged
same_meets D xs n r h = (λ m. subst Met e m, λ m. subst Met (sym e) m)
  where
    Met : ℤ → Type 0
    Met s = MeetsBy r.relation (r.right *ℤ pos D) s

    e : sum_of xs (merged n r).terms ≡ sum_of xs r.terms
    e = merged-sum xs r n h

same_rows : (D : ℕ) (xs : List ℤ) (n : ℕ) (rs : List Row) → Every (Below n) rs → Every (λ (r : Row). Meets D xs (merged n r) ↔ Meets D xs r) rs
same_rows D xs n [] h = tt
same_rows D xs n (r ∷ rs) h = (same_meets D xs n r h.0, same_rows D xs n rs h.1)

pub same_meaning : SameMeaning
same_meaning T M L table ns s a loop good D xs =
    same_rows D xs (variable_count T M L ns) (rows_of T M L ns) (rows-below T M L loop ns good.some good.nodes)
