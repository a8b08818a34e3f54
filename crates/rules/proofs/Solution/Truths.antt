-- The rows of a good table are such a system: a slack is a node at a slot or its V there, and a node's V rank below the node's own, later slots below earlier.
use Rattle.std.specs.Prelude.{◌≡◌, refl, ◌↔◌, ◌⊎◌, Bool, true, false, cond, ◌||◌, List, [], ◌∷◌, ◌++◌, ℕ, zero, suc, ◌+◌, ◌-◌, ◌*◌, ◌/◌, ◌%◌, ◌^◌, ◌≤◌, ◌<◌, eqb, ltb, length, get_or, take, ℤ, pos, nat_abs}
use Rattle.std.proofs.Common.{sym, ap, ap₂, ◌∙◌, inl, inr, add-zero, zero-add, eq-or-lt_of_le, mul-le-mul_right, div-lt_iff_lt-mul, mod-lt, div-add-mod', mod-eq_of_lt, arith, lt-ltb, le-ltb, ltb-true, ltb-false}
use Rattle.std.proofs.Math.Path.{subst}
use Rattle.std.proofs.Math.Logic.Iff as Iff
use Rattle.std.proofs.Math.Nat.{div-eq_of_lt, mul-add-div_right, mul-add-mod_self_right}
use Rattle.std.proofs.Math.Dec.{T as Is}
use Rattle.lists.specs.Every.{Every, every_append}
use Rattle.lists.specs.Tabulate.{tabulate, length-tabulate, get_d_tabulate}
use Rattle.rules.specs.Quantities.{bit_at, LoopAllowed}
use Rattle.rules.specs.Table.{Node, node_at, rule_at, root}
use Rattle.rules.specs.TableRules.{NodesGood}
use Rattle.rules.specs.Rows.{Row, Meets, value_at, plus, eq, atom_variable, slack, loops, looping, loop_slack, slack_count, rows_at, loop_rows_at}
use Rattle.rules.specs.Rows.{slots_rows, node_rows, nodes_rows, slack_rows, goal_row}
use Rattle.rules.specs.Demands.{AtomNumerators, OnlyTheTruth}
use Rattle.rules.specs.Evaluation.{bit_set, truth}
use Rattle.rules.proofs.Evaluation.{kept, next_truth, truth-holds, kept-holds, truth_now, kept-now}
use Rattle.rules.proofs.Solution.Integers.{Met}
use Rattle.rules.proofs.Solution.Families.{scale, pin_node, pin_loop}
use Rattle.rules.specs.Solution.Looping.{looping_at}
use Rattle.rules.proofs.Solution.Looping.{looping_lt, at-looping, looping-node, looping-loops, looping-at}
use Rattle.rules.proofs.Solution.Ranked.{System, low-tabulate, truths, truths-at, truths-fit, truths-only, goal-is}

-- ---- places

pub place-div : (T n t : ℕ) → 1 ≤ t → t ≤ T → (n * T + (t - 1)) / T ≡ n
place-div T n t l h = mul-add-div_right {m = T} (omega arith) n (t - 1) ∙ rw (div-eq_of_lt {n = t - 1} {m = T} (omega arith)) (add-zero n)

pub place-mod : (T n t : ℕ) → 1 ≤ t → t ≤ T → suc ((n * T + (t - 1)) % T) ≡ t
place-mod T n t l h = ap suc (mul-add-mod_self_right n T (t - 1) ∙ mod-eq_of_lt (omega arith)) ∙ omega arith

pub place_lt : (T N n t : ℕ) → n < N → 1 ≤ t → t ≤ T → n * T + (t - 1) < N * T
place_lt T N n t h l u = omega (arith, mul-le-mul_right T h)

-- ---- every row but the goal row: the rows of each node at each slot

module _ (P : Row → Type 0) where
  every-slot : (f : ℕ → List Row) (k t : ℕ) → Every P (slots_rows f k t) → (s : ℕ) → t ≤ s → s < t + k → Every P (f s)
  every-slot f zero t h s u v = absurd (omega arith)
  every-slot f (suc k) t h s u v = go ((every_append P (f t) (slots_rows f k (t + 1))).0 h) (every-slot f k (t + 1)) (eq-or-lt_of_le u)
    where
      go : (Every P (f t) × Every P (slots_rows f k (t + 1))) → (Every P (slots_rows f k (t + 1)) → (s : ℕ) → t + 1 ≤ s → s < t + 1 + k → Every P (f s)) →
          (t ≡ s) ⊎ (t < s) → Every P (f s)
      go a ih (inl e) = subst (λ (r : ℕ). Every P (f r)) e a.0
      go a ih (inr l) = ih a.1 s (omega arith) (omega arith)

  slots-every : (f : ℕ → List Row) (k t : ℕ) → ((s : ℕ) → t ≤ s → s < t + k → Every P (f s)) → Every P (slots_rows f k t)
  slots-every f zero t h = tt
  slots-every f (suc k) t h =
      (every_append P (f t) (slots_rows f k (t + 1))).1 (h t (omega arith) (omega arith), slots-every f k (t + 1) (λ s u v. h s (omega arith) (omega arith)))

  -- rows that are there or not
  if-every : (b : Bool) (rows : List Row) → Every P (cond b rows []) ↔ (b ≡ true → Every P rows)
  if-every true rows = (λ h e. h, λ h. h refl)
  if-every false rows = (λ h e. let z : ◌≡◌ {A = ℕ} 0 1 = cc in absurd (omega arith), λ h. tt)

  module _ (T M L : ℕ) (ns : List Node) where
    -- a node's rows: those of its V and its own
    abbrev AtSlots : (ℕ → List Row) → Type 0
    AtSlots f = (t : ℕ) → 1 ≤ t → t ≤ T → Every P (f t)

    abbrev Both : ℕ → Node → Type 0
    Both n nd = (L < T → AtSlots (loop_rows_at T M ns n nd)) × AtSlots (rows_at T M L ns n nd)

    node-both : (n : ℕ) (nd : Node) → Every P (node_rows T M L ns n nd) ↔ Both n nd
    node-both n nd =
        let v = slots_rows (loop_rows_at T M ns n nd) T 1 in
        let p = slots_rows (rows_at T M L ns n nd) T 1 in
        Iff.trans (every_append P (cond (ltb L T) v []) p) (
          λ h. (
            λ k t l u. every-slot (loop_rows_at T M ns n nd) T 1 ((if-every (ltb L T) v).0 h.0 (lt-ltb L T k)) t l (omega arith),
            λ t l u. every-slot (rows_at T M L ns n nd) T 1 h.1 t l (omega arith),
          ),
          λ h. (
            (if-every (ltb L T) v).1 (λ e. slots-every (loop_rows_at T M ns n nd) T 1 (λ s u v. h.0 (ltb-true L T e) s u (omega arith))),
            slots-every (rows_at T M L ns n nd) T 1 (λ s u v. h.1 s u (omega arith)),
          ),
        )

    every-node : (l : List Node) (m : ℕ) → Every P (nodes_rows T M L ns m l) → (i : ℕ) → i < length l → Every P (node_rows T M L ns (m + i) (node_at l i))
    every-node [] m h i u = absurd (omega arith)
    every-node (nd ∷ l) m h zero u = rw (add-zero m) ((every_append P (node_rows T M L ns m nd) (nodes_rows T M L ns (m + 1) l)).0 h).0
    every-node (nd ∷ l) m h (suc i) u =
        subst (λ (j : ℕ). Every P (node_rows T M L ns j (node_at l i))) (omega arith)
        (every-node l (m + 1) ((every_append P (node_rows T M L ns m nd) (nodes_rows T M L ns (m + 1) l)).0 h).1 i (omega arith))

    nodes-every : (l : List Node) (m : ℕ) → ((i : ℕ) → i < length l → Every P (node_rows T M L ns (m + i) (node_at l i))) → Every P (nodes_rows T M L ns m l)
    nodes-every [] m h = tt
    nodes-every (nd ∷ l) m h =
        (every_append P (node_rows T M L ns m nd) (nodes_rows T M L ns (m + 1) l)).1 (
          subst (λ (j : ℕ). Every P (node_rows T M L ns j nd)) (add-zero m) (h 0 (omega arith)),
          nodes-every l (m + 1) (λ i u. subst (λ (j : ℕ). Every P (node_rows T M L ns j (node_at l i))) (omega arith) (h (suc i) (omega arith))),
        )

    pub every-row : Every P (slack_rows T M L ns) ↔ ((n : ℕ) → n < length ns → Both n (node_at ns n))
    every-row = (
      λ h n u. (node-both n (node_at ns n)).0 (subst (λ (j : ℕ). Every P (node_rows T M L ns j (node_at ns n))) (zero-add n) (every-node ns 0 h n u)),
      λ h. nodes-every ns 0 (λ i u. subst (λ (j : ℕ). Every P (node_rows T M L ns j (node_at ns i))) (sym (zero-add i)) ((node-both i (node_at ns i)).1 (h i u))),
    )

-- what has no V has no V rows
no_loop-rows : (T M : ℕ) (ns : List Node) (n : ℕ) (nd : Node) (t : ℕ) → loops nd ≡ false → loop_rows_at T M ns n nd t ≡ []
no_loop-rows T M ns n (Node.atom a) t k = refl
no_loop-rows T M ns n (Node.unary u c) t k = rw k refl
no_loop-rows T M ns n (Node.binary o l r) t k = rw k refl
no_loop-rows T M ns n (Node.windowed w a b c) t k = refl

-- ---- the system of a good table

-- a slack: a node at a slot, or the node's V there
data Slack : Type 0 where
  own kept-to-T : (n t : ℕ) → Slack

-- the atoms' numerators, in the order of their variables
abbrev atom_numerators : (T M D : ℕ) → List ℕ → List ℤ
atom_numerators T M D run = tabulate (M * T) (λ v. pos (bit_at run (suc (v % T)) (v / T) * D))

bit-scale : (D x : ℕ) → x < 2 → x * D ≡ scale D (eqb x 1)
bit-scale D zero h = omega arith
bit-scale D (suc zero) h = omega arith
bit-scale D (suc (suc x)) h = absurd (omega arith)

module _ (T M D : ℕ) (run : List ℕ) where
  atom-value : (a t : ℕ) → a < M → 1 ≤ t → t ≤ T → value_at (atom_numerators T M D run) (atom_variable T a t) ≡ pos (bit_at run t a * D)
  atom-value a t h l u =
      get_d_tabulate (M * T) (λ v. pos (bit_at run (suc (v % T)) (v / T) * D)) (a * T + (t - 1)) (pos 0) (place_lt T M a t h l u)
      ∙ ap₂ (λ (b s : ℕ). pos (bit_at run s b * D)) (place-div T a t l u) (place-mod T a t l u)

  pub atoms_are : AtomNumerators T M D run (atom_numerators T M D run)
  atoms_are = record { count = length-tabulate (M * T) (λ v. pos (bit_at run (suc (v % T)) (v / T) * D)); at = atom-value }

  atom-scale : (a t : ℕ) → a < M → 1 ≤ t → t ≤ T → nat_abs (value_at (atom_numerators T M D run) (atom_variable T a t)) ≡ scale D (bit_set run t a)
  atom-scale a t h l u = ap nat_abs (atom-value a t h l u) ∙ bit-scale D (bit_at run t a) (mod-lt (get_or run (t - 1) 0 / 2 ^ a) {m = 2} (omega arith))

module _ (T M L D : ℕ) (loop : LoopAllowed T L) (run : List ℕ) (ns : List Node) (good : NodesGood M ns) where
  abbrev N : ℕ
  N = length ns

  abbrev Within : (n t : ℕ) → Type 0
  Within n t = (n < N) × (1 ≤ t) × (t ≤ T)

  abbrev is_slack : Slack → Type 0
  is_slack (own n t) = Within n t
  is_slack (kept-to-T n t) = Within n t × (loops (node_at ns n) ≡ true) × (L < T)

  abbrev place : Slack → ℕ
  place (own n t) = n * T + (t - 1)
  place (kept-to-T n t) = (N + looping (take n ns)) * T + (t - 1)

  abbrev block : (b t : ℕ) → Slack
  block b t = cond (ltb b N) (own b t) (kept-to-T (looping_at ns (b - N)) t)

  abbrev at : ℕ → Slack
  at i = block (i / T) (suc (i % T))

  abbrev want : Slack → Bool
  want (own n t) = truth T L run (rule_at ns n) t
  want (kept-to-T n t) = kept T L run (rule_at ns n) t

  abbrev rows_owned : Slack → List Row
  rows_owned (own n t) = rows_at T M L ns n (node_at ns n) t
  rows_owned (kept-to-T n t) = loop_rows_at T M ns n (node_at ns n) t

  abbrev rank : Slack → ℕ
  rank (own n t) = n * (T + T) + (T + (T - t))
  rank (kept-to-T n t) = n * (T + T) + (T - t)

  -- ---- places

  abbrev blocks : ℕ
  blocks = N + cond (ltb L T) (looping ns) 0

  at_block : (b t : ℕ) → 1 ≤ t → t ≤ T → at (b * T + (t - 1)) ≡ block b t
  at_block b t l u = ap₂ block (place-div T b t l u) (place-mod T b t l u)

  at_place : (x : Slack) → is_slack x → at (place x) ≡ x
  at_place (own n t) (h, l, u) = at_block n t l u ∙ rw (lt-ltb n N h) refl
  at_place (kept-to-T n t) ((h, l, u), k, w) =
      let j = looping (take n ns) in
      let e : N + j - N ≡ j = omega arith in
      at_block (N + j) t l u ∙ rw (le-ltb (N + j) N (omega arith), e) (ap (λ (m : ℕ). kept-to-T m t) (at-looping ns n k))

  more-blocks : (j : ℕ) → L < T → j < looping ns → N + j < blocks
  more-blocks j w h = rw (lt-ltb L T w) (omega arith)

  place-below : (x : Slack) → is_slack x → place x < slack_count T L ns
  place-below (own n t) (h, l, u) = place_lt T blocks n t (omega arith) l u
  place-below (kept-to-T n t) ((h, l, u), k, w) = place_lt T blocks (N + looping (take n ns)) t (more-blocks (looping (take n ns)) w (looping_lt ns n k)) l u

  -- a block past the nodes is that of a V
  later-block : (b : ℕ) → N ≤ b → b < blocks → (L < T) × (b - N < looping ns)
  later-block b h = go (ltb L T) refl
    where
      go : (c : Bool) → ltb L T ≡ c → b < N + cond c (looping ns) 0 → (L < T) × (b - N < looping ns)
      go true e g = (ltb-true L T e, omega arith)
      go false e g = absurd (omega arith)

  block-slack : (b t : ℕ) → b < blocks → 1 ≤ t → t ≤ T → is_slack (block b t)
  block-slack b t h l u = go (ltb b N) refl
    where
      go : (c : Bool) → ltb b N ≡ c → is_slack (cond c (own b t) (kept-to-T (looping_at ns (b - N)) t))
      go true e = (ltb-true b N e, l, u)
      go false e =
          let g = later-block b (ltb-false b N e) h in
          ((looping-node ns (b - N) g.1, l, u), looping-loops ns (b - N) g.1, g.0)

  block-place : (b t : ℕ) → b < blocks → place (block b t) ≡ b * T + (t - 1)
  block-place b t h = go (ltb b N) refl
    where
      go : (c : Bool) → ltb b N ≡ c → place (cond c (own b t) (kept-to-T (looping_at ns (b - N)) t)) ≡ b * T + (t - 1)
      go true e = refl
      go false e =
          let n = ltb-false b N e in
          let g = later-block b n h in
          let same : N + (b - N) ≡ b = omega arith in
          rw (looping-at ns (b - N) g.1, same) refl

  0<T : 1 ≤ T
  0<T = omega (arith, loop)

  block_lt : (i : ℕ) → i < slack_count T L ns → i / T < blocks
  block_lt i h = (div-lt_iff_lt-mul 0<T).1 h

  place_at : (i : ℕ) → i < slack_count T L ns → place (at i) ≡ i
  place_at i h = block-place (i / T) (suc (i % T)) (block_lt i h) ∙ omega (arith, div-add-mod' i T)

  -- ---- rows

  split : (y : ℕ → ℕ) → Every (Met D y) (slack_rows T M L ns) ↔ ((x : Slack) → is_slack x → Every (Met D y) (rows_owned x))
  split y = Iff.trans (every-row (Met D y) T M L ns) (to, from)
    where
      to : ((n : ℕ) → n < N → Both (Met D y) T M L ns n (node_at ns n)) → (x : Slack) → is_slack x → Every (Met D y) (rows_owned x)
      to h (own n t) (u, l, v) = (h n u).1 t l v
      to h (kept-to-T n t) ((u, l, v), k, w) = (h n u).0 w t l v

      from : ((x : Slack) → is_slack x → Every (Met D y) (rows_owned x)) → (n : ℕ) → n < N → Both (Met D y) T M L ns n (node_at ns n)
      from h n u = (λ w t l v. of_V (loops (node_at ns n)) refl w t l v, λ t l v. h (own n t) (u, l, v))
        where
          of_V : (b : Bool) → loops (node_at ns n) ≡ b → L < T → (t : ℕ) → 1 ≤ t → t ≤ T → Every (Met D y) (loop_rows_at T M ns n (node_at ns n) t)
          of_V true k w t l v = h (kept-to-T n t) ((u, l, v), k, w)
          of_V false k w t l v = subst (Every (Met D y)) (sym (no_loop-rows T M ns n (node_at ns n) t k)) tt

  own-variable : (n t : ℕ) → slack T M n t ≡ M * T + place (own n t)
  own-variable n t = omega arith

  kept-variable : (n t : ℕ) → loop_slack T M ns n t ≡ M * T + place (kept-to-T n t)
  kept-variable n t = omega arith

  -- ---- each slack's rows pin it, given the slacks of lower rank

  module _ (y : ℕ → ℕ) (atoms : (v : ℕ) → v < M * T → y v ≡ nat_abs (value_at (atom_numerators T M D run) v)) where
    abbrev Lower : Slack → Type 0
    Lower x = (z : Slack) → is_slack z → rank z < rank x → y (M * T + place z) ≡ scale D (want z)

    -- at the next slot, or after the last
    next-value : (n t : ℕ) → Within n t → loops (node_at ns n) ≡ true → Lower (own n t) → (c d : Bool) → ltb t T ≡ c → ltb L T ≡ d → (c || d) ≡ true →
        y (cond c (slack T M n (t + 1)) (loop_slack T M ns n L)) ≡ scale D (cond c (truth T L run (rule_at ns n) (t + 1)) (kept T L run (rule_at ns n) L))
    next-value n t (h, l, u) k lower true d e f g =
        let z = ltb-true t T e in
        ap y (own-variable n (t + 1)) ∙ lower (own n (t + 1)) (h, omega arith, omega arith) (omega arith)
    next-value n t (h, l, u) k lower false true e f g =
        ap y (kept-variable n L) ∙ lower (kept-to-T n L) ((h, loop.0, loop.1), k, ltb-true L T f) (omega arith)
    next-value n t (h, l, u) k lower false false e f g = let z : ◌≡◌ {A = ℕ} 0 1 = cc in absurd (omega arith)

    parts_below : (n : ℕ) → n < N → (x : Slack) → n * (T + T) ≤ rank x → Lower x → (c s : ℕ) → c < n → 1 ≤ s → s ≤ T →
        y (slack T M c s) ≡ scale D (truth T L run (rule_at ns c) s)
    parts_below n h x r lower c s z p q = ap y (own-variable c s) ∙ lower (own c s) (omega arith, p, q) (omega (arith, mul-le-mul_right (T + T) z))

    pins : (x : Slack) → is_slack x → y (M * T + place x) ≤ D → Lower x → Every (Met D y) (rows_owned x) ↔ (y (M * T + place x) ≡ scale D (want x))
    pins (own n t) (h, l, u) top lower =
        subst (λ (v : ℕ). Every (Met D y) (rows_owned (own n t)) ↔ (y v ≡ scale D (want (own n t)))) (own-variable n t)
        (rw (truth_now T M L run ns good n t h u)
        (pin_node T M L D ns y n t l u (λ c. truth T L run (rule_at ns c)) (parts_below n h (own n t) (omega arith) lower)
        loop (rw (own-variable n t) top) (bit_set run t)
        (next_truth T L run (rule_at ns n) t) (λ a z. atoms (atom_variable T a t) (place_lt T M a t z l u) ∙ atom-scale T M D run a t z l u) (node_at ns n)
        (λ k g. next-value n t (h, l, u) k lower (ltb t T) (ltb L T) refl refl g) (good n h)))
    pins (kept-to-T n t) ((h, l, u), k, w) top lower =
        subst (λ (v : ℕ). Every (Met D y) (rows_owned (kept-to-T n t)) ↔ (y v ≡ scale D (want (kept-to-T n t)))) (kept-variable n t)
        (rw (kept-now T M L run ns good n t h u k)
        (pin_loop T M L D ns y n t l u (λ c. truth T L run (rule_at ns c)) (parts_below n h (kept-to-T n t) (omega arith) lower) (rw (kept-variable n t) top)
        (kept T L run (rule_at ns n) (t + 1))
        (λ e. let z = ltb-true t T e in ap y (kept-variable n (t + 1)) ∙ lower (kept-to-T n (t + 1)) ((h, omega arith, omega arith), k, w) (omega arith))
        (node_at ns n) k (good n h)))

  system : System Slack D (M * T) (slack_count T L ns) (atom_numerators T M D run) (slack_rows T M L ns)
  system = record {
    counted = length-tabulate (M * T) (λ v. pos (bit_at run (suc (v % T)) (v / T) * D));
    low = low-tabulate (M * T) (λ v. bit_at run (suc (v % T)) (v / T) * D);
    slack = is_slack;
    place = place;
    at = at;
    place_lt = place-below;
    at_place = at_place;
    at-slack = λ i h. block-slack (i / T) (suc (i % T)) (block_lt i h) (omega arith) (mod-lt i 0<T);
    place_at = place_at;
    want = want;
    own = rows_owned;
    rank = rank;
    split = split;
    pins = pins;
  }

-- ---- demand 3 for every table whose nodes are good

scale-true : (D : ℕ) (b : Bool) → Is b → scale D b ≡ D
scale-true D true h = refl
scale-true D false h = absurd h

scale-false : (D : ℕ) (b : Bool) → (Is b → ⊥) → scale D b ≡ 0
scale-false D true h = absurd (h tt)
scale-false D false h = refl

module _ (T M L D : ℕ) (loop : LoopAllowed T L) (run : List ℕ) (ns : List Node) (good : NodesGood M ns) where
  abbrev A : ℕ
  A = M * T

  abbrev S : ℕ
  S = slack_count T L ns

  abbrev sys : System Slack D A S (atom_numerators T M D run) (slack_rows T M L ns)
  sys = system T M L D loop run ns good

  abbrev numerators : List ℤ
  numerators = truths Slack D A S (atom_numerators T M D run) (slack_rows T M L ns) sys

  numerator_is : (n t : ℕ) → n < length ns → 1 ≤ t → t ≤ T → value_at numerators (n * T + (t - 1)) ≡ pos (scale D (truth T L run (rule_at ns n) t))
  unfolding system
  numerator_is n t h l u = truths-at Slack D A S (atom_numerators T M D run) (slack_rows T M L ns) sys (own n t) (h, l, u)

  kept-is : (n t : ℕ) → n < length ns → loops (node_at ns n) ≡ true → L < T → 1 ≤ t → t ≤ T →
      value_at numerators ((length ns + looping (take n ns)) * T + (t - 1)) ≡ pos (scale D (kept T L run (rule_at ns n) t))
  unfolding system
  kept-is n t h k w l u = truths-at Slack D A S (atom_numerators T M D run) (slack_rows T M L ns) sys (kept-to-T n t) ((h, l, u), k, w)

  goal-at : 1 ≤ D → (n t : ℕ) → n < length ns → 1 ≤ t → t ≤ T →
      Meets D (atom_numerators T M D run ++ numerators) (eq (plus (slack T M n t) ∷ []) (pos 1)) ↔ Is (truth T L run (rule_at ns n) t)
  unfolding system
  goal-at z n t h l u =
      subst (λ (v : ℕ). Meets D (atom_numerators T M D run ++ numerators) (eq (plus v ∷ []) (pos 1)) ↔ Is (truth T L run (rule_at ns n) t)) (omega arith)
      (goal-is Slack D A S (atom_numerators T M D run) (slack_rows T M L ns) sys z (own n t) (h, l, u))

  pub only_the_truth : 1 ≤ D → 1 ≤ length ns → OnlyTheTruth T M L D run ns (slack_rows T M L ns) (goal_row T M ns)
  only_the_truth 0<D 0<N = record {
    atoms = atom_numerators T M D run;
    atoms_are = atoms_are T M D run;
    slacks = numerators;
    fits = truths-fit Slack D A S (atom_numerators T M D run) (slack_rows T M L ns) sys;
    only = truths-only Slack D A S (atom_numerators T M D run) (slack_rows T M L ns) sys;
    one = λ n t h l u x. numerator_is n t h l u ∙ ap pos (scale-true D (truth T L run (rule_at ns n) t) ((truth-holds T L loop run (rule_at ns n) t l u).0 x));
    zero = λ n t h l u x. numerator_is n t h l u
        ∙ ap pos (scale-false D (truth T L run (rule_at ns n) t) (λ z. x ((truth-holds T L loop run (rule_at ns n) t l u).1 z)));
    kept-one = λ n t h k w l u x. kept-is n t h k w l u
        ∙ ap pos (scale-true D (kept T L run (rule_at ns n) t) ((kept-holds T L loop run (rule_at ns n) t l u).0 x));
    kept-zero = λ n t h k w l u x. kept-is n t h k w l u
        ∙ ap pos (scale-false D (kept T L run (rule_at ns n) t) (λ z. x ((kept-holds T L loop run (rule_at ns n) t l u).1 z)));
    goal-met = Iff.trans (goal-at 0<D (root ns) 1 (omega arith) (omega arith) (omega (arith, loop)))
        (Iff.symm (truth-holds T L loop run (rule_at ns (root ns)) 1 (omega arith) (omega (arith, loop))));
  }
