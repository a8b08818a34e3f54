-- The error figures computed kind by kind, from the last slot backwards; that they are those of ErrorFigure.antt, and that a table has one of each.
use Rattle.rules.specs.Errors.Figures.{binary_count, binary_error, chain, chain_to, error, error_at, kept_count, kept_error, looped, next_error, node_count, raised, root_error, unary_count, unary_error}
use Rattle.std.proofs.Math.Path.{◌≡◌, refl}
use Rattle.std.proofs.Common.{sym, ap, subst, ◌∙◌, mul-le-mul_right, mod-lt, div-lt_iff_lt-mul, div-add-mod', arith, lt-ltb, le-ltb, ltb→lt, nltb→le}
use Rattle.std.specs.Prelude.{Bool, true, false, cond, ◌||◌, List, ℕ, zero, suc, ◌+◌, ◌-◌, ◌*◌, ◌/◌, ◌%◌, ◌≤◌, ◌<◌, ltb, length, take}
use Rattle.std.proofs.Math.Decide.{dec_lt}
use Rattle.rules.specs.Quantities.{LoopAllowed}
use Rattle.rules.specs.Rule.{Unary, Binary, Rule}
use Rattle.rules.specs.Rule.Unary.{not, eventually, always}
use Rattle.rules.specs.Rule.Binary.{and, or, implies, until}
use Rattle.rules.specs.Table.{Node, NodeGood, node_at, grow, rule_at, root}
use Rattle.rules.specs.TableRules.{NodesGood}
use Rattle.rules.proofs.TableRules.{rule_at-is}
use Rattle.rules.specs.Rows.{slack, atom_variable, unary_loops, binary_loops, loops, looping, loop_slack, variable_count, window_slots, goes_on, next_slack}
use Rattle.rules.proofs.Solution.Ranked.{by_rank}
use Rattle.rules.specs.Solution.Looping.{looping_at}
use Rattle.rules.proofs.Solution.Looping.{at-looping, looping-node, looping-loops, looping-at}
use Rattle.rules.proofs.Solution.Truths.{place-div, place-mod, place_lt}
use Rattle.rules.specs.ErrorFigure.{ErrorFigures}
use Rattle.rules.specs.Errors.Sums.{sum_over}
use Rattle.rules.proofs.Errors.Sums.{sum-map, sum_same}
use Rattle.rules.proofs.Errors.Parts.{unary_parts, binary_parts, parts_at, loop_parts_at, window-all, others-are, others-kept, figure-is, kept-figure-is}

module _ (e : ℕ) (last step : ℕ → ℕ) where
  chain-at : (d b : ℕ) → d ≡ suc b → chain e last step d ≡ raised e (step d + chain e last step b)
  chain-at d b h = rw h refl

  chain-end : (d : ℕ) → d ≡ 0 → chain e last step d ≡ raised e (last d)
  chain-end d h = rw h refl

  to_at : (end d b : ℕ) → d ≡ suc b → chain_to e step end d ≡ raised e (step d + chain_to e step end b)
  to_at end d b h = rw h refl

  to_end : (end d : ℕ) → d ≡ 0 → chain_to e step end d ≡ raised e (step d + end)
  to_end end d h = rw h refl

  module _ (T L t : ℕ) (high : t ≤ T) where
    chain_now : chain e last step (T - t) ≡ raised e (cond (ltb t T) (step (T - t) + chain e last step (T - (t + 1))) (last (T - t)))
    chain_now = go (ltb t T) refl
      where
        go : (b : Bool) → ltb t T ≡ b → chain e last step (T - t) ≡ raised e (cond b (step (T - t) + chain e last step (T - (t + 1))) (last (T - t)))
        go true h = let z = ltb→lt t T (rw h tt) in chain-at (T - t) (T - (t + 1)) (omega arith)
        go false h = let z = nltb→le t T (rw h tt) in chain-end (T - t) (omega arith)

    abbrev after : (c : ℕ) → ℕ
    after c = cond (ltb t T) (looped e last step c (T - (t + 1))) (chain e last step (T - L))

    looped_now : looped e last step (T - L) (T - t) ≡ raised e (cond (goes_on T L t) (step (T - t) + after (T - L)) (last (T - t)))
    looped_now = go (T - L) (ltb t T) (ltb L T) refl refl refl
      where
        go : (c : ℕ) (i j : Bool) → T - L ≡ c → ltb t T ≡ i → ltb L T ≡ j →
            looped e last step c (T - t)
            ≡ raised e (cond (i || j) (step (T - t) + cond i (looped e last step c (T - (t + 1))) (chain e last step (T - L))) (last (T - t)))
        go zero true j x y z = let w = ltb→lt t T (rw y tt) in chain-at (T - t) (T - (t + 1)) (omega arith)
        go zero false true x y z = let w = ltb→lt L T (rw z tt) in absurd (omega arith)
        go zero false false x y z = let w = nltb→le t T (rw y tt) in chain-end (T - t) (omega arith)
        go (suc c) true j x y z = let w = ltb→lt t T (rw y tt) in to_at (chain e last step (suc c)) (T - t) (T - (t + 1)) (omega arith)
        go (suc c) false true x y z = let w = nltb→le t T (rw y tt) in to_end (chain e last step (suc c)) (T - t) (omega arith) ∙ rw x refl
        go (suc c) false false x y z = let w = nltb→le L T (rw z tt) in absurd (omega arith)

module _ (T L e t : ℕ) (h : t ≤ T) where
  unary-now : (u : Unary) (f : ℕ → ℕ) → unary_error e u f (T - L) (T - t) ≡
      raised e (unary_count u (goes_on T L t) (f (T - t)) (cond (ltb t T) (unary_error e u f (T - L) (T - (t + 1))) (unary_error e u f 0 (T - L))))
  unary-now not f = refl
  unary-now eventually f = looped_now e f f T L t h
  unary-now always f = looped_now e f f T L t h

  binary-now : (o : Binary) (f g : ℕ → ℕ) → binary_error e o f g (T - L) (T - t) ≡
      raised e (binary_count o (goes_on T L t) (f (T - t)) (g (T - t))
      (cond (ltb t T) (binary_error e o f g (T - L) (T - (t + 1))) (binary_error e o f g 0 (T - L))))
  binary-now and f g = refl
  binary-now or f g = refl
  binary-now implies f g = refl
  binary-now until f g = looped_now e g (λ i. f i + g i) T L t h

  unary_kept : (u : Unary) (f : ℕ → ℕ) → unary_error e u f 0 (T - t) ≡ raised e (unary_count u (ltb t T) (f (T - t)) (unary_error e u f 0 (T - (t + 1))))
  unary_kept not f = refl
  unary_kept eventually f = chain_now e f f T L t h
  unary_kept always f = chain_now e f f T L t h

  binary-kept : (o : Binary) (f g : ℕ → ℕ) →
      binary_error e o f g 0 (T - t) ≡ raised e (binary_count o (ltb t T) (f (T - t)) (g (T - t)) (binary_error e o f g 0 (T - (t + 1))))
  binary-kept and f g = refl
  binary-kept or f g = refl
  binary-kept implies f g = refl
  binary-kept until f g = chain_now e g (λ i. f i + g i) T L t h

  module _ (rule : ℕ → Rule) where
    abbrev part : ℕ → ℕ → ℕ
    part c d = error_at T L e (rule c) (T - d)

    here : (c : ℕ) → part c (T - t) ≡ error_at T L e (rule c) t
    here c = let z : T - (T - t) ≡ t = omega arith in ap (error_at T L e (rule c)) z

    grow-error : (nd : Node) → error T L e (grow rule nd) t ≡ raised e (node_count T L e t (λ c. error T L e (rule c)) (next_error T L e (grow rule nd) t) nd)
    unfolding error kept_error
    grow-error (Node.atom a) = refl
    grow-error (Node.unary u c) = rw (← here c) (unary-now u (part c))
    grow-error (Node.binary o l r) = rw (← here l, ← here r) (binary-now o (part l) (part r))
    grow-error (Node.windowed w a b c) = refl

    grow-kept : (nd : Node) → loops nd ≡ true →
        kept_error T L e (grow rule nd) t ≡ raised e (kept_count T t (λ c. error T L e (rule c)) (kept_error T L e (grow rule nd) (t + 1)) nd)
    unfolding error kept_error
    grow-kept (Node.atom a) k = let z : ◌≡◌ {A = ℕ} 0 1 = cc in absurd (omega arith)
    grow-kept (Node.unary u c) k = rw (← here c) (unary_kept u (part c))
    grow-kept (Node.binary o l r) k = rw (← here l, ← here r) (binary-kept o (part l) (part r))
    grow-kept (Node.windowed w a b c) k = let z : ◌≡◌ {A = ℕ} 0 1 = cc in absurd (omega arith)

-- node n of a table whose nodes are good
module _ (T M L e : ℕ) (ns : List Node) (good : NodesGood M ns) (n t : ℕ) (h : n < length ns) (u : t ≤ T) where
  rule-is : rule_at ns n ≡ grow (rule_at ns) (node_at ns n)
  rule-is = rule_at-is M ns good n h

  pub error_now : error T L e (rule_at ns n) t ≡ raised e (node_count T L e t (λ c. error T L e (rule_at ns c)) (next_error T L e (rule_at ns n) t) (node_at ns n))
  error_now =
      ap (λ (r : Rule). error T L e r t) rule-is ∙ grow-error T L e t u (rule_at ns) (node_at ns n)
      ∙ ap (λ (r : Rule). raised e (node_count T L e t (λ c. error T L e (rule_at ns c)) (next_error T L e r t) (node_at ns n))) (sym rule-is)

  pub kept-error_now : loops (node_at ns n) ≡ true →
      kept_error T L e (rule_at ns n) t ≡ raised e (kept_count T t (λ c. error T L e (rule_at ns c)) (kept_error T L e (rule_at ns n) (t + 1)) (node_at ns n))
  kept-error_now k =
      ap (λ (r : Rule). kept_error T L e r t) rule-is ∙ grow-kept T L e t u (rule_at ns) (node_at ns n) k
      ∙ ap (λ (r : Rule). raised e (kept_count T t (λ c. error T L e (rule_at ns c)) (kept_error T L e r (t + 1)) (node_at ns n))) (sym rule-is)

-- ---- the parts' figures are what the node counts

module _ (f : ℕ → ℕ) (p P' i x : ℕ) (here : f p ≡ i) where
  unary-sum : (u : Unary) (inner : Bool) → (unary_loops u ≡ true → inner ≡ true → f P' ≡ x) → sum_over f (unary_parts u inner p P') ≡ unary_count u inner i x
  unary-sum not inner g = omega arith
  unary-sum eventually true g = omega (arith, g refl refl)
  unary-sum eventually false g = omega arith
  unary-sum always true g = omega (arith, g refl refl)
  unary-sum always false g = omega arith

  binary-sum : (q j : ℕ) → f q ≡ j → (o : Binary) (inner : Bool) → (binary_loops o ≡ true → inner ≡ true → f P' ≡ x) →
      sum_over f (binary_parts o inner p q P') ≡ binary_count o inner i j x
  binary-sum q j there and inner g = omega arith
  binary-sum q j there or inner g = omega arith
  binary-sum q j there implies inner g = omega arith
  binary-sum q j there until true g = omega (arith, g refl refl)
  binary-sum q j there until false g = omega arith

module _ (f : ℕ → ℕ) (T M L e : ℕ) (ns : List Node) (n t : ℕ) (low : 1 ≤ t) (high : t ≤ T) (parts : ℕ → ℕ → ℕ)
    (below : (c s : ℕ) → c < n → 1 ≤ s → s ≤ T → f (slack T M c s) ≡ parts c s) (x : ℕ) where
  parts-sum : ((a : ℕ) → a < M → f (atom_variable T a t) ≡ e) → (nd : Node) →
      (loops nd ≡ true → goes_on T L t ≡ true → f (next_slack T M L ns n t) ≡ x) → NodeGood M n nd →
      sum_over f (parts_at T M L ns n nd t) ≡ node_count T L e t parts x nd
  parts-sum atoms (Node.atom a) next h = omega (arith, atoms a h)
  parts-sum atoms (Node.unary u c) next h = unary-sum f (slack T M c t) (next_slack T M L ns n t) (parts c t) x (below c t h low high) u (goes_on T L t) next
  parts-sum atoms (Node.binary o l r) next h =
      binary-sum f (slack T M l t) (next_slack T M L ns n t) (parts l t) x (below l t h.0 low high)
      (slack T M r t) (parts r t) (below r t h.1 low high) o (goes_on T L t) next
  parts-sum atoms (Node.windowed w a b c) next h =
      sum-map f (slack T M c) (window_slots T L t a b)
      ∙ sum_same (λ s. f (slack T M c s)) (parts c) (window_slots T L t a b)
      (window-all (λ s. f (slack T M c s) ≡ parts c s) T L t a b (λ s i j. below c s h.0 i j))

  kept-sum : (ltb t T ≡ true → f (loop_slack T M ns n (t + 1)) ≡ x) → (nd : Node) → loops nd ≡ true → NodeGood M n nd →
      sum_over f (loop_parts_at T M ns n nd t) ≡ kept_count T t parts x nd
  kept-sum next (Node.atom a) k h = refl
  kept-sum next (Node.unary u c) k h =
      rw k (unary-sum f (slack T M c t) (loop_slack T M ns n (t + 1)) (parts c t) x (below c t h low high) u (ltb t T) (λ i. next))
  kept-sum next (Node.binary o l r) k h =
      rw k (binary-sum f (slack T M l t) (loop_slack T M ns n (t + 1)) (parts l t) x (below l t h.0 low high)
      (slack T M r t) (parts r t) (below r t h.1 low high) o (ltb t T) (λ i. next))
  kept-sum next (Node.windowed w a b c) k h = refl

-- a slack: a node at a slot, or the node's V there
data Slack : Type 0 where
  own kept-to-T : (n t : ℕ) → Slack

module _ (T M L e : ℕ) (ns : List Node) (loop : LoopAllowed T L) (good : NodesGood M ns) where
  abbrev N : ℕ
  N = length ns

  -- at a node's next slot
  next-is : (f : ℕ → ℕ) (n t : ℕ) → (t < T → f (slack T M n (t + 1)) ≡ error T L e (rule_at ns n) (t + 1)) →
      (L < T → f (loop_slack T M ns n L) ≡ kept_error T L e (rule_at ns n) L) →
      goes_on T L t ≡ true → f (next_slack T M L ns n t) ≡ next_error T L e (rule_at ns n) t
  next-is f n t a b g = go (ltb t T) (ltb L T) refl refl g
    where
      go : (i j : Bool) → ltb t T ≡ i → ltb L T ≡ j → (i || j) ≡ true →
          f (cond i (slack T M n (t + 1)) (loop_slack T M ns n L)) ≡ cond i (error T L e (rule_at ns n) (t + 1)) (kept_error T L e (rule_at ns n) L)
      go true j x y z = a (ltb→lt t T (rw x tt))
      go false true x y z = b (ltb→lt L T (rw y tt))
      go false false x y z = let w : ◌≡◌ {A = ℕ} 0 1 = cc in absurd (omega arith)

  -- ---- every table has them

  abbrev by_block : (b t : ℕ) → ℕ
  by_block b t = cond (ltb b N) (error T L e (rule_at ns b) t) (kept_error T L e (rule_at ns (looping_at ns (b - N))) t)

  abbrev pub figure_of : ℕ → ℕ
  figure_of v = cond (ltb v (M * T)) e (by_block (v / T - M) (suc (v % T)))

  atom-figure : (v : ℕ) → v < M * T → figure_of v ≡ e
  atom-figure v h = rw (lt-ltb v (M * T) h)

  block-figure : (b t : ℕ) → 1 ≤ t → t ≤ T → figure_of ((M + b) * T + (t - 1)) ≡ by_block b t
  block-figure b t l u =
      let past : M * T ≤ (M + b) * T + (t - 1) = omega arith in
      let less : M + b - M ≡ b = omega arith in
      rw (le-ltb ((M + b) * T + (t - 1)) (M * T) past, place-div T (M + b) t l u, place-mod T (M + b) t l u, less)

  slack-figure : (n t : ℕ) → n < N → 1 ≤ t → t ≤ T → figure_of (slack T M n t) ≡ error T L e (rule_at ns n) t
  slack-figure n t h l u = block-figure n t l u ∙ rw (lt-ltb n N h) refl

  kept-figure : (n t : ℕ) → loops (node_at ns n) ≡ true → 1 ≤ t → t ≤ T → figure_of (loop_slack T M ns n t) ≡ kept_error T L e (rule_at ns n) t
  kept-figure n t k l u =
      let j = looping (take n ns) in
      let less : N + j - N ≡ j = omega arith in
      block-figure (N + j) t l u ∙ rw (le-ltb (N + j) N (omega arith), less, at-looping ns n k) refl

  pub figures_exist : ErrorFigures T M L e ns figure_of
  figures_exist = record {
    atoms = atom-figure;
    nodes = λ n t h l u.
        slack-figure n t h l u ∙ error_now T M L e ns good n t h u
        ∙ ap (raised e) (sym (others-are T M L ns loop n t h l u (good n h) figure_of
        ∙ parts-sum figure_of T M L e ns n t l u (λ c. error T L e (rule_at ns c)) (λ c s z i j. slack-figure c s (omega arith) i j)
        (next_error T L e (rule_at ns n) t)
        (λ a z. atom-figure (atom_variable T a t) (place_lt T M a t z l u)) (node_at ns n)
        (λ k. next-is figure_of n t (λ w. slack-figure n (t + 1) h (omega arith) (omega arith)) (λ w. kept-figure n L k loop.0 loop.1)) (good n h)));
    kept = λ n t h k w l u.
        kept-figure n t k l u ∙ kept-error_now T M L e ns good n t h u k
        ∙ ap (raised e) (sym (others-kept T M L ns loop n t h l u k w (good n h) figure_of
        ∙ kept-sum figure_of T M L e ns n t l u (λ c. error T L e (rule_at ns c)) (λ c s z i j. slack-figure c s (omega arith) i j)
        (kept_error T L e (rule_at ns n) (t + 1))
        (λ c. let z = ltb→lt t T (rw c tt) in kept-figure n (t + 1) k (omega arith) (omega arith)) (node_at ns n) k (good n h)));
  }

  -- ---- and one of each

  module _ (f : ℕ → ℕ) (figures : ErrorFigures T M L e ns f) where
    abbrev Ok : Slack → Type 0
    Ok (own n t) = n < N → 1 ≤ t → t ≤ T → f (slack T M n t) ≡ error T L e (rule_at ns n) t
    Ok (kept-to-T n t) = n < N → loops (node_at ns n) ≡ true → L < T → 1 ≤ t → t ≤ T → f (loop_slack T M ns n t) ≡ kept_error T L e (rule_at ns n) t

    abbrev rank : Slack → ℕ
    rank (own n t) = n * (T + T) + (T + (T - t))
    rank (kept-to-T n t) = n * (T + T) + (T - t)

    abbrev Lower : Slack → Type 0
    Lower x = (z : Slack) → rank z < rank x → Ok z

    own-step : (n t : ℕ) → Lower (own n t) → Ok (own n t)
    own-step n t lower h l u =
        figure-is T M L e ns loop f good figures n t h l u
        ∙ ap (raised e) (parts-sum f T M L e ns n t l u (λ c. error T L e (rule_at ns c))
        (λ c s z i j. lower (own c s) (omega (arith, mul-le-mul_right (T + T) z)) (omega arith) i j)
        (next_error T L e (rule_at ns n) t) (λ a z. figures.atoms (atom_variable T a t) (place_lt T M a t z l u)) (node_at ns n)
        (λ k. next-is f n t (λ w. lower (own n (t + 1)) (omega arith) h (omega arith) (omega arith))
        (λ w. lower (kept-to-T n L) (omega arith) h k w loop.0 loop.1)) (good n h))
        ∙ sym (error_now T M L e ns good n t h u)

    kept_step : (n t : ℕ) → Lower (kept-to-T n t) → Ok (kept-to-T n t)
    kept_step n t lower h k w l u =
        kept-figure-is T M L e ns loop f good figures n t h l u k w
        ∙ ap (raised e) (kept-sum f T M L e ns n t l u (λ c. error T L e (rule_at ns c))
        (λ c s z i j. lower (own c s) (omega (arith, mul-le-mul_right (T + T) z)) (omega arith) i j)
        (kept_error T L e (rule_at ns n) (t + 1))
        (λ c. let z = ltb→lt t T (rw c tt) in lower (kept-to-T n (t + 1)) (omega arith) h k w (omega arith) (omega arith)) (node_at ns n) k (good n h))
        ∙ sym (kept-error_now T M L e ns good n t h u k)

    step : (x : Slack) → Lower x → Ok x
    step (own n t) = own-step n t
    step (kept-to-T n t) = kept_step n t

    all_are : (x : Slack) → Ok x
    all_are = by_rank rank Ok step

    pub figures-are : (n t : ℕ) → n < N → 1 ≤ t → t ≤ T → f (slack T M n t) ≡ error T L e (rule_at ns n) t
    figures-are n t = all_are (own n t)

    pub kept-are : (n t : ℕ) → n < N → loops (node_at ns n) ≡ true → L < T → 1 ≤ t → t ≤ T → f (loop_slack T M ns n t) ≡ kept_error T L e (rule_at ns n) t
    kept-are n t = all_are (kept-to-T n t)

    -- the root's at slot 1
    pub root-figure : 1 ≤ N → f (slack T M (root ns) 1) ≡ root_error T L e ns
    root-figure some = figures-are (root ns) 1 (omega arith) (omega arith) (omega (arith, loop))

  pub one-figure : (f g : ℕ → ℕ) → ErrorFigures T M L e ns f → ErrorFigures T M L e ns g → (v : ℕ) → v < variable_count T M L ns → f v ≡ g v
  one-figure f g x y v h = go (dec_lt v (M * T))
    where
      i : ℕ
      i = v - M * T

      t : ℕ
      t = suc (i % T)

      0<T : 1 ≤ T
      0<T = omega (arith, loop)

      t≤T : t ≤ T
      t≤T = mod-lt i 0<T

      is : (M + i / T) * T + (t - 1) ≡ M * T + i
      is = omega (arith, div-add-mod' i T)

      -- the variable stands in a node's block, or in a V's
      at : M * T ≤ v → Dec (i / T < N) → f v ≡ g v
      at z (yes n) =
          subst (λ (w : ℕ). f w ≡ g w) (omega (arith, is)) (figures-are f x (i / T) t n (omega arith) t≤T ∙ sym (figures-are g y (i / T) t n (omega arith) t≤T))
      at z (no n) = behind (ltb L T) refl h
        where
          behind : (b : Bool) → ltb L T ≡ b → v < M * T + (N + cond b (looping ns) 0) * T → f v ≡ g v
          behind false e k = absurd (n ((div-lt_iff_lt-mul 0<T).1 (omega arith)))
          behind true e k =
              let block : i / T < N + looping ns = (div-lt_iff_lt-mul 0<T).1 (omega arith) in
              let j = i / T - N in
              let few : j < looping ns = omega arith in
              let m = looping_at ns j in
              let w = ltb→lt L T (rw e tt) in
              let count = looping-at ns j few in
              let block-is : N + looping (take m ns) ≡ i / T = omega arith in
              let place : loop_slack T M ns m t ≡ v = ap (λ (b : ℕ). (M + b) * T + (t - 1)) block-is ∙ omega (arith, is) in
              subst (λ (w : ℕ). f w ≡ g w) place
              (kept-are f x m t (looping-node ns j few) (looping-loops ns j few) w (omega arith) t≤T
              ∙ sym (kept-are g y m t (looping-node ns j few) (looping-loops ns j few) w (omega arith) t≤T))

      go : Dec (v < M * T) → f v ≡ g v
      go (yes z) = x.atoms v z ∙ sym (y.atoms v z)
      go (no z) = at (omega arith) (dec_lt (i / T) N)
