-- What a loop leaves that writes one node's error figures, from the last slot to the first. Slots count from 0 here.
use Rattle.std.specs.Prelude.{◌≡◌, Bool, true, false, cond, List, ltb, length, get_or, set, replicate}
use Rattle.std.proofs.Math.Path.{refl, ap}
use Rattle.std.proofs.Common.{sym, ◌∙◌, lt-ltb, le-ltb, length-set, get_or-set_same, get_or-set_other}
use Prim.Native.Nat.{ℕ, zero, suc, ◌+◌, ◌-◌, ◌*◌, ◌^◌, ◌≤◌, ◌<◌, min}
use Rattle.std.proofs.Math.Decide.{ℕ_discrete, dec_lt}
use native.Mathlib.Omega.{arith}
use Rattle.std.proofs.lemmas.List.{length-replicate, get_or-replicate}
use Rattle.std.proofs.Math.ListN.{get_or-eq_default}
use Rattle.lists.specs.Place.{place_lt}
use Rattle.rules.specs.Quantities.{node_limit, one}

-- node n has its places, all of them, among those of at most 128 nodes at at most 64 slots
pub record Room (T n : ℕ) (l : List ℕ) : Type 0 where
  pub inside : n * T + T ≤ length l
  pub nodes : n < 128
  pub slots : T ≤ 64

-- the places of the error figures of all nodes at 64 slots
abbrev pub places : ℕ
places = node_limit * 64

-- what a slot adds to a sum at most: a tolerance of 16 bits, and the error figures of two parts
abbrev pub per_slot : ℕ
per_slot = 2 ^ 16 + 2 * one

-- no error figure is above one
abbrev pub Small : List ℕ → Type 0
Small l = (i : ℕ) → get_or l i 0 ≤ one

-- the error figure of node c at slot s
abbrev pub figure_at : (T : ℕ) → List ℕ → (c s : ℕ) → ℕ
figure_at T l c s = get_or l (c * T + s) 0

-- that of node n at slot s, and 0 where s is behind the last slot
abbrev pub ahead : (T n : ℕ) → List ℕ → ℕ → ℕ
ahead T n l s = cond (ltb s T) (figure_at T l n s) 0

-- Node n has been worked from slot k on, and the nodes below are as they were: at each slot s it has f s x, x being its figure one slot later.
pub record Worked (T n : ℕ) (f : (s x : ℕ) → ℕ) (l : List ℕ) (k : ℕ) (m : List ℕ) : Type 0 where
  pub same : length m ≡ length l
  pub here : (s : ℕ) → k ≤ s → s < T → figure_at T m n s ≡ f s (ahead T n m (s + 1))
  pub before : (i : ℕ) → i < n * T → get_or m i 0 ≡ get_or l i 0

-- all slots of node n have been worked
abbrev pub Done : (T n : ℕ) (f : (s x : ℕ) → ℕ) (l m : List ℕ) → Type 0
Done T n f l m = Worked T n f l 0 m × Small m

-- by another name of f
pub worked_as : {T n : ℕ} {f g : (s x : ℕ) → ℕ} {l : List ℕ} {k : ℕ} {m : List ℕ} → ((s x : ℕ) → f s x ≡ g s x) → Worked T n f l k m → Worked T n g l k m
worked_as {T} {n} {f} {g} {l} {k} {m} e w = record { same = w.same; here = λ s h g. w.here s h g ∙ e s (ahead T n m (s + 1)); before = w.before }

pub worked_none : (T n : ℕ) (f : (s x : ℕ) → ℕ) (l : List ℕ) → Worked T n f l T l
worked_none T n f l = record { same = refl; here = λ s h g. absurd (omega arith); before = λ i h. refl }

-- a figure that is written at slot k changes no later one
ahead-set : (T n : ℕ) (m : List ℕ) (k s v : ℕ) → k < s → ahead T n (set m (n * T + k) v) s ≡ ahead T n m s
ahead-set T n m k s v h = ap (λ (b : ℕ). cond (ltb s T) b 0) (get_or-set_other m (n * T + k) (n * T + s) v 0 (λ e. omega arith))

module _ {T n : ℕ} {f : (s x : ℕ) → ℕ} {l : List ℕ} {k : ℕ} {m : List ℕ} (w : Worked T n f l k m) where
  -- the nodes below stand as they stood
  pub worked_below : {c s : ℕ} → c < n → s < T → figure_at T m c s ≡ figure_at T l c s
  worked_below {c} {s} h g = w.before (c * T + s) (place_lt h g)

  -- one slot more
  pub worked_more : n * T + T ≤ length l → 0 < k → k ≤ T → (v : ℕ) → v ≡ f (k - 1) (ahead T n m k) → Worked T n f l (k - 1) (set m (n * T + (k - 1)) v)
  worked_more room low high v e = record {
    same = length-set m (n * T + (k - 1)) v ∙ w.same;
    here = λ s h g. at s h g (ℕ_discrete (k - 1) s);
    before = λ i h. get_or-set_other m (n * T + (k - 1)) i v 0 (λ z. omega arith) ∙ w.before i h;
  }
    where
      new : List ℕ
      new = set m (n * T + (k - 1)) v

      at : (s : ℕ) → k - 1 ≤ s → s < T → Dec (k - 1 ≡ s) → figure_at T new n s ≡ f s (ahead T n new (s + 1))
      at s h g (yes z) =
          let i : n * T + (k - 1) < length m = omega (arith, w.same) in
          let j : k - 1 + 1 ≡ k = omega arith in
          rw (← z, j, ahead-set T n m (k - 1) k v (omega arith)) (get_or-set_same m (n * T + (k - 1)) v 0 i ∙ e)
      at s h g (no z) =
          let i : k ≤ s = omega arith in
          rw (ahead-set T n m (k - 1) (s + 1) v (omega arith)) (get_or-set_other m (n * T + (k - 1)) (n * T + s) v 0 (λ y. omega arith) ∙ w.here s i g)

-- ---- a node's V, worked from the last slot on: at each slot s it has f s x, x being its figure one slot later

-- after d slots
unfoldable pub down : (T : ℕ) (f : (s x : ℕ) → ℕ) (d : ℕ) → ℕ
down T f zero = 0
down T f (suc d) = f (T - suc d) (down T f d)

module _ (T : ℕ) (f : (s x : ℕ) → ℕ) where
  pub down-none : (s : ℕ) → T ≤ s → down T f (T - s) ≡ 0
  unfolding down
  down-none s h = let z : T - s ≡ 0 = omega arith in rw z refl

  -- one slot more
  pub down-more : (s : ℕ) → 0 < s → s ≤ T → down T f (T - (s - 1)) ≡ f (s - 1) (down T f (T - s))
  unfolding down
  down-more s l h =
      let z : T - (s - 1) ≡ suc (T - s) = omega arith in
      let y : T - suc (T - s) ≡ s - 1 = omega arith in
      ap (down T f) z ∙ ap (λ (i : ℕ). f i (down T f (T - s))) y

pub down-same : (T : ℕ) (f g : (s x : ℕ) → ℕ) → ((s x : ℕ) → f s x ≡ g s x) → (d : ℕ) → down T f d ≡ down T g d
unfolding down
down-same T f g e zero = refl
down-same T f g e (suc d) = e (T - suc d) (down T f d) ∙ ap (g (T - suc d)) (down-same T f g e d)

-- at slot L, where L is below T: the node has it behind its last slot
abbrev pub end_of : (T L : ℕ) (f : (s x : ℕ) → ℕ) → ℕ
end_of T L f = cond (ltb L T) (down T f (T + 1 - L)) 0

-- ---- a loop that goes on with a sum, which stopped at one is the figure

-- the sum that was reached at slot k, whose figure is x
pub record Summed (T k x sum : ℕ) : Type 0 where
  pub stopped : min one sum ≡ x
  pub few : sum ≤ one + (T - k) * per_slot

pub summed_none : (T x : ℕ) → x ≤ one → Summed T T x x
summed_none T x h = record { stopped = omega arith; few = omega arith }

-- what comes next counts p and the figure, or q alone where nothing follows
pub summed_more : (e p q x sum : ℕ) (follows : Bool) → min one sum ≡ x → (follows ≡ false → x ≡ 0) →
    min one (sum + (e + cond follows p q)) ≡ min one (e + cond follows (p + x) q)
summed_more e p q x sum true h z = omega arith
summed_more e p q x sum false h z = let y = z refl in omega arith

-- the node's own figure at slot k, and what it has behind its last slot
abbrev pub next_at : (T n end : ℕ) → List ℕ → (k : ℕ) → ℕ
next_at T n end m k = cond (ltb k T) (figure_at T m n k) end

pub next_last : (T n end : ℕ) (m : List ℕ) → end ≡ next_at T n end m T
next_last T n end m = rw (le-ltb T T (omega arith)) refl

-- it was written at slot k
pub summed_at : (T n k end : ℕ) (m : List ℕ) (i v sum : ℕ) → k < T → n * T + T ≤ length m → sum ≤ one + (T - k) * per_slot → i ≡ n * T + k → v ≡ min one sum →
    Summed T k (next_at T n end (set m i v) k) sum
summed_at T n k end m i v sum in-run inside few place is =
    rw place (record { stopped = rw (lt-ltb k T in-run) (sym (get_or-set_same m (n * T + k) v 0 (omega arith) ∙ is)); few = few })

-- ---- figures stay small

pub small-set : (l : List ℕ) (i v : ℕ) → Small l → v ≤ one → Small (set l i v)
small-set l i v h b j = go (ℕ_discrete j i) (dec_lt i (length l))
  where
    go : Dec (j ≡ i) → Dec (i < length l) → get_or (set l i v) j 0 ≤ one
    go (no z) d = rw (get_or-set_other l i j v 0 z) (h j)
    go (yes z) (yes y) = rw (z, get_or-set_same l i v 0 y) b
    go (yes z) (no y) = rw (get_or-eq_default (set l i v) 0 {n = j} (omega (arith, length-set l i v))) (omega arith)

pub small-zeros : (n : ℕ) → Small (replicate n 0)
small-zeros n i = go (dec_lt i n)
  where
    go : Dec (i < n) → get_or (replicate n 0) i 0 ≤ one
    go (yes h) = rw (get_or-replicate {A = ℕ} n i 0 0 h) (omega arith)
    go (no h) = rw (get_or-eq_default {A = ℕ} (replicate n 0) 0 {n = i} (omega (arith, length-replicate {A = ℕ} n 0))) (omega arith)

-- ---- one step of each loop

-- what is written at slot k - 1 is stopped: the node has been worked from there on, and the figures stay small
pub step : {T n : ℕ} {f : (s x : ℕ) → ℕ} {l : List ℕ} {k : ℕ} {m : List ℕ} → Worked T n f l k m → Small m → Room T n l → 0 < k → k ≤ T → (i v sum : ℕ) →
    i ≡ n * T + (k - 1) → v ≡ min one sum → min one sum ≡ f (k - 1) (ahead T n m k) → Worked T n f l (k - 1) (set m i v) × Small (set m i v)
step {m = m} w small room low high i v sum place is counts =
    (rw place (worked_more w room.inside low high v (is ∙ counts)), small-set m i v small (omega arith))
