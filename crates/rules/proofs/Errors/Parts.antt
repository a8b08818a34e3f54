-- A node's parts at a slot, kind by kind: the variables that its error figure counts. The figure is e and theirs.
use Rattle.std.specs.Prelude.{◌≡◌, refl, Bool, true, false, cond, ◌||◌, List, [], ◌∷◌, map, ℕ, ◌+◌, ◌≤◌, ◌<◌, min, ltb, length}
use Rattle.std.proofs.Common.{sym, ap, ◌∙◌, mul-le-mul_right, arith, lt-ltb, ltb→lt}
use Rattle.lists.specs.Every.{Every}
use Rattle.lists.specs.Passing.{every-passing}
use Rattle.rules.specs.Quantities.{one, LoopAllowed}
use Rattle.rules.specs.Rule.{Unary, Binary}
use Rattle.rules.specs.Rule.Unary.{not, eventually, always}
use Rattle.rules.specs.Rule.Binary.{and, or, implies, until}
use Rattle.rules.specs.Table.{Node, NodeGood, node_at}
use Rattle.rules.specs.Table.Node.{atom, unary, binary, windowed}
use Rattle.rules.specs.TableRules.{NodesGood}
use Rattle.rules.specs.Rows.{slack, atom_variable, unary_loops, binary_loops, loops, loop_slack, variable_count, unary_rows, binary_rows, in_window}
use Rattle.rules.specs.Rows.{window_slots, goes_on, next_slack, rows_at, loop_rows_at}
use Rattle.rules.proofs.Solution.Families.{every_map}
use Rattle.rules.proofs.Solution.Looping.{looping_lt}
use Rattle.rules.specs.ErrorFigure.{others, ErrorFigures}
use Rattle.rules.specs.Errors.Sums.{sum_over}
use Rattle.rules.proofs.Errors.Counting.{Counts, others-parts, count_same, count-not, count-and, count-or, count_implies, count-until, count-window}

abbrev pub unary_parts : Unary → (inner : Bool) → (p P' : ℕ) → List ℕ
unary_parts not inner p P' = p ∷ []
unary_parts eventually inner p P' = cond inner (p ∷ P' ∷ []) (p ∷ [])
unary_parts always inner p P' = cond inner (p ∷ P' ∷ []) (p ∷ [])

abbrev pub binary_parts : Binary → (inner : Bool) → (p q P' : ℕ) → List ℕ
binary_parts and inner p q P' = p ∷ q ∷ []
binary_parts or inner p q P' = p ∷ q ∷ []
binary_parts implies inner p q P' = p ∷ q ∷ []
binary_parts until inner p q P' = cond inner (p ∷ q ∷ P' ∷ []) (q ∷ [])

abbrev pub parts_at : (T M L : ℕ) → List Node → (n : ℕ) → Node → (t : ℕ) → List ℕ
parts_at T M L ns n (atom a) t = atom_variable T a t ∷ []
parts_at T M L ns n (unary u c) t = unary_parts u (goes_on T L t) (slack T M c t) (next_slack T M L ns n t)
parts_at T M L ns n (binary o l r) t = binary_parts o (goes_on T L t) (slack T M l t) (slack T M r t) (next_slack T M L ns n t)
parts_at T M L ns n (windowed w a b c) t = map (slack T M c) (window_slots T L t a b)

-- those of a node's V
abbrev pub loop_parts_at : (T M : ℕ) → List Node → (n : ℕ) → Node → (t : ℕ) → List ℕ
loop_parts_at T M ns n (atom a) t = []
loop_parts_at T M ns n (unary u c) t = cond (unary_loops u) (unary_parts u (ltb t T) (slack T M c t) (loop_slack T M ns n (t + 1))) []
loop_parts_at T M ns n (binary o l r) t = cond (binary_loops o) (binary_parts o (ltb t T) (slack T M l t) (slack T M r t) (loop_slack T M ns n (t + 1))) []
loop_parts_at T M ns n (windowed w a b c) t = []

-- ---- what holds of every part

module _ (Q : ℕ → Type 0) (p P' : ℕ) (here : Q p) where
  unary-all : (u : Unary) (inner : Bool) → (unary_loops u ≡ true → inner ≡ true → Q P') → Every Q (unary_parts u inner p P')
  unary-all not inner g = (here, tt)
  unary-all eventually true g = (here, (g refl refl, tt))
  unary-all eventually false g = (here, tt)
  unary-all always true g = (here, (g refl refl, tt))
  unary-all always false g = (here, tt)

  binary-all : (q : ℕ) → Q q → (o : Binary) (inner : Bool) → (binary_loops o ≡ true → inner ≡ true → Q P') → Every Q (binary_parts o inner p q P')
  binary-all q there and inner g = (here, (there, tt))
  binary-all q there or inner g = (here, (there, tt))
  binary-all q there implies inner g = (here, (there, tt))
  binary-all q there until true g = (here, (there, (g refl refl, tt)))
  binary-all q there until false g = (there, tt)

-- what holds of a window's slots
pub window-all : (Q : ℕ → Type 0) (T L t a b : ℕ) → ((s : ℕ) → 1 ≤ s → s ≤ T → Q s) → Every Q (window_slots T L t a b)
window-all Q T L t a b f = every-passing (in_window T L t a b) Q T 1 (λ s l h x. f s l (omega arith))

-- the next part of a node that loops
pub next-part : (Q : ℕ → Type 0) (T M L : ℕ) (ns : List Node) (n t : ℕ) → (t < T → Q (slack T M n (t + 1))) → (L < T → Q (loop_slack T M ns n L)) →
    goes_on T L t ≡ true → Q (next_slack T M L ns n t)
next-part Q T M L ns n t f g h = go (ltb t T) (ltb L T) refl refl h
  where
    go : (b c : Bool) → ltb t T ≡ b → ltb L T ≡ c → (b || c) ≡ true → Q (cond b (slack T M n (t + 1)) (loop_slack T M ns n L))
    go true c x y z = f (ltb→lt t T (rw x tt))
    go false true x y z = g (ltb→lt L T (rw y tt))
    go false false x y z = let w : ◌≡◌ {A = ℕ} 0 1 = cc in absurd (omega arith)

module _ (Q : ℕ → Type 0) (T M L : ℕ) (ns : List Node) (n t : ℕ) (l : 1 ≤ t) (u : t ≤ T) (below : (c s : ℕ) → c < n → 1 ≤ s → s ≤ T → Q (slack T M c s)) where
  -- a part is an atom's variable, a lower node at some slot, the node itself one slot later, or after the last slot its V
  pub parts_all : ((a : ℕ) → a < M → Q (atom_variable T a t)) → (nd : Node) →
      (loops nd ≡ true → goes_on T L t ≡ true → Q (next_slack T M L ns n t)) → NodeGood M n nd →
      Every Q (parts_at T M L ns n nd t)
  parts_all atoms (atom a) next h = (atoms a h, tt)
  parts_all atoms (unary o c) next h = unary-all Q (slack T M c t) (next_slack T M L ns n t) (below c t h l u) o (goes_on T L t) next
  parts_all atoms (binary o p q) next h = binary-all Q (slack T M p t) (next_slack T M L ns n t) (below p t h.0 l u)
      (slack T M q t) (below q t h.1 l u) o (goes_on T L t) next
  parts_all atoms (windowed w a b c) next h =
      (every_map Q (slack T M c) (λ s. Q (slack T M c s)) (λ s. (λ q. q, λ q. q)) (window_slots T L t a b)).1
      (window-all (λ s. Q (slack T M c s)) T L t a b (λ s i j. below c s h.0 i j))

  pub loop-parts-all : (ltb t T ≡ true → Q (loop_slack T M ns n (t + 1))) → (nd : Node) → NodeGood M n nd → Every Q (loop_parts_at T M ns n nd t)
  loop-parts-all next (atom a) h = tt
  loop-parts-all next (unary o c) h = go (unary_loops o)
    where
      go : (b : Bool) → Every Q (cond b (unary_parts o (ltb t T) (slack T M c t) (loop_slack T M ns n (t + 1))) [])
      go true = unary-all Q (slack T M c t) (loop_slack T M ns n (t + 1)) (below c t h l u) o (ltb t T) (λ k. next)
      go false = tt
  loop-parts-all next (binary o p q) h = go (binary_loops o)
    where
      go : (b : Bool) → Every Q (cond b (binary_parts o (ltb t T) (slack T M p t) (slack T M q t) (loop_slack T M ns n (t + 1))) [])
      go true = binary-all Q (slack T M p t) (loop_slack T M ns n (t + 1)) (below p t h.0 l u) (slack T M q t) (below q t h.1 l u) o (ltb t T) (λ k. next)
      go false = tt
  loop-parts-all next (windowed w a b c) h = tt

-- ---- counting

count-unary : (P p P' : ℕ) (u : Unary) (inner : Bool) → Counts P (unary_rows u inner P p P') (unary_parts u inner p P')
count-unary P p P' not inner = count-not P p
count-unary P p P' eventually true = count-or P p P'
count-unary P p P' eventually false = count_same P p
count-unary P p P' always true = count-and P p P'
count-unary P p P' always false = count_same P p

count-binary : (P p q P' : ℕ) → (P' ≡ p → ⊥) → (P' ≡ q → ⊥) → (o : Binary) (inner : Bool) → Counts P (binary_rows o inner P p q P') (binary_parts o inner p q P')
count-binary P p q P' f g and inner = count-and P p q
count-binary P p q P' f g or inner = count-or P p q
count-binary P p q P' f g implies inner = count_implies P p q
count-binary P p q P' f g until true = count-until P p q P' f g
count-binary P p q P' f g until false = count_same P q

module _ (T M L : ℕ) (ns : List Node) (loop : LoopAllowed T L) (n t : ℕ) (in_table : n < length ns) (low : 1 ≤ t) (high : t ≤ T) where
  abbrev kept_at : ℕ → ℕ
  kept_at s = loop_slack T M ns n s

  -- a lower node's variable is neither the next part nor a V
  later : (c : ℕ) → c < n → (s : ℕ) → t ≤ s → slack T M n (s + 1) ≡ slack T M c t → ⊥
  later c h s l e = omega (arith, mul-le-mul_right T h)

  past : (c : ℕ) → c < length ns → (s u : ℕ) → 1 ≤ u → u ≤ T → kept_at s ≡ slack T M c u → ⊥
  past c h s u l g e = omega (arith, mul-le-mul_right T h)

  next-other : (c : ℕ) → c < n → next_slack T M L ns n t ≡ slack T M c t → ⊥
  next-other c h = go (ltb t T)
    where
      go : (b : Bool) → cond b (slack T M n (t + 1)) (kept_at L) ≡ slack T M c t → ⊥
      go true e = later c h t (omega arith) e
      go false e = past c (omega arith) L t low high e

  count-node : (nd : Node) → NodeGood M n nd → Counts (slack T M n t) (rows_at T M L ns n nd t) (parts_at T M L ns n nd t)
  count-node (atom a) h = count_same (slack T M n t) (atom_variable T a t)
  count-node (unary u c) h = count-unary (slack T M n t) (slack T M c t) (next_slack T M L ns n t) u (goes_on T L t)
  count-node (binary o l r) h =
      count-binary (slack T M n t) (slack T M l t) (slack T M r t) (next_slack T M L ns n t) (next-other l h.0) (next-other r h.1) o (goes_on T L t)
  count-node (windowed w a b c) h = count-window (slack T M n t) w (slack T M c) (window_slots T L t a b)

  none : (P : ℕ) → Counts P [] []
  none P v x = refl

  count-loop : (nd : Node) → NodeGood M n nd → Counts (kept_at t) (loop_rows_at T M ns n nd t) (loop_parts_at T M ns n nd t)
  count-loop (atom a) h = none (kept_at t)
  count-loop (unary u c) h = go (unary_loops u)
    where
      go : (b : Bool) → Counts (kept_at t) (cond b (unary_rows u (ltb t T) (kept_at t) (slack T M c t) (kept_at (t + 1))) [])
          (cond b (unary_parts u (ltb t T) (slack T M c t) (kept_at (t + 1))) [])
      go true = count-unary (kept_at t) (slack T M c t) (kept_at (t + 1)) u (ltb t T)
      go false = none (kept_at t)
  count-loop (binary o l r) h = go (binary_loops o)
    where
      go : (b : Bool) → Counts (kept_at t) (cond b (binary_rows o (ltb t T) (kept_at t) (slack T M l t) (slack T M r t) (kept_at (t + 1))) [])
          (cond b (binary_parts o (ltb t T) (slack T M l t) (slack T M r t) (kept_at (t + 1))) [])
      go true = count-binary (kept_at t) (slack T M l t) (slack T M r t) (kept_at (t + 1)) (past l (omega (arith, h.0)) (t + 1) t low high)
          (past r (omega (arith, h.1)) (t + 1) t low high) o (ltb t T)
      go false = none (kept_at t)
  count-loop (windowed w a b c) h = none (kept_at t)

  -- ---- places

  abbrev all : ℕ
  all = variable_count T M L ns

  atom-below : (a : ℕ) → a < M → atom_variable T a t < all
  atom-below a z = omega (arith, mul-le-mul_right T z)

  pub node-below : (c s : ℕ) → c < length ns → 1 ≤ s → s ≤ T → slack T M c s < all
  node-below c s z i j = omega (arith, mul-le-mul_right T z)

  pub loop-below : loops (node_at ns n) ≡ true → L < T → (s : ℕ) → 1 ≤ s → s ≤ T → kept_at s < all
  loop-below k w s i j = rw (lt-ltb L T w) (omega (arith, mul-le-mul_right T (looping_lt ns n k)))

  next-below : loops (node_at ns n) ≡ true → goes_on T L t ≡ true → next_slack T M L ns n t < all
  next-below k g =
      next-part (λ v. v < all) T M L ns n t (λ w. node-below n (t + 1) in_table (omega arith) (omega arith)) (λ w. loop-below k w L loop.0 loop.1) g

  next-not-own : goes_on T L t ≡ true → slack T M n t ≡ next_slack T M L ns n t → ⊥
  next-not-own g = next-part (λ v. slack T M n t ≡ v → ⊥) T M L ns n t (λ w e. omega arith) (λ w e. past n in_table L t low high (sym e)) g

  -- "all other variables that stand in its rows for that slot", each as often as it is counted, are its parts
  pub others-are : NodeGood M n (node_at ns n) → (f : ℕ → ℕ) →
      others f (slack T M n t) (rows_at T M L ns n (node_at ns n) t) all ≡ sum_over f (parts_at T M L ns n (node_at ns n) t)
  others-are g f =
      others-parts f (slack T M n t) (rows_at T M L ns n (node_at ns n) t) (parts_at T M L ns n (node_at ns n) t) (count-node (node_at ns n) g) all
      (parts_all (λ p. p < all) T M L ns n t low high (λ c s z i j. node-below c s (omega arith) i j) atom-below (node_at ns n) next-below g)
      (parts_all (λ p. slack T M n t ≡ p → ⊥) T M L ns n t low high (λ c s z i j e. omega (arith, mul-le-mul_right T z))
      (λ a z e. omega (arith, mul-le-mul_right T z))
      (node_at ns n) (λ k. next-not-own) g)

  pub others-kept : loops (node_at ns n) ≡ true → L < T → NodeGood M n (node_at ns n) → (f : ℕ → ℕ) →
      others f (kept_at t) (loop_rows_at T M ns n (node_at ns n) t) all ≡ sum_over f (loop_parts_at T M ns n (node_at ns n) t)
  others-kept k w g f =
      others-parts f (kept_at t) (loop_rows_at T M ns n (node_at ns n) t) (loop_parts_at T M ns n (node_at ns n) t) (count-loop (node_at ns n) g) all
      (loop-parts-all (λ p. p < all) T M L ns n t low high (λ c s z i j. node-below c s (omega arith) i j)
      (λ e. let z = ltb→lt t T (rw e tt) in loop-below k w (t + 1) (omega arith) (omega arith)) (node_at ns n) g)
      (loop-parts-all (λ p. kept_at t ≡ p → ⊥) T M L ns n t low high (λ c s z i j. past c (omega arith) t s i j) (λ e z. omega arith) (node_at ns n) g)

module _ (T M L e : ℕ) (ns : List Node) (loop : LoopAllowed T L) (f : ℕ → ℕ) (good : NodesGood M ns) (x : ErrorFigures T M L e ns f) (n t : ℕ)
    (h : n < length ns) (l : 1 ≤ t) (u : t ≤ T) where
  pub figure-is : f (slack T M n t) ≡ min one (e + sum_over f (parts_at T M L ns n (node_at ns n) t))
  figure-is = x.nodes n t h l u ∙ ap (λ (k : ℕ). min one (e + k)) (others-are T M L ns loop n t h l u (good n h) f)

  pub kept-figure-is : loops (node_at ns n) ≡ true → L < T → f (loop_slack T M ns n t) ≡ min one (e + sum_over f (loop_parts_at T M ns n (node_at ns n) t))
  kept-figure-is k w = x.kept n t h k w l u ∙ ap (λ (i : ℕ). min one (e + i)) (others-kept T M L ns loop n t h l u k w (good n h) f)
