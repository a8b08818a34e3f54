-- From the nodes' error figures, one node after the other, to those of the table.
use Rattle.std.specs.Prelude.{◌≡◌, refl, Bool, true, false, cond, ◌||◌, List, ◌⊎◌, ltb, length, get_or}
use Rattle.std.proofs.Math.Path.{sym, ap}
use Rattle.std.proofs.Common.{ap₂, ◌∙◌, ⊎_elim, add-zero, eq-or-lt_of_le, ltb→lt}
use Prim.Native.Nat.{ℕ, zero, suc, ◌+◌, ◌-◌, ◌*◌, ◌≤◌, ◌<◌}
use native.Mathlib.Omega.{arith}
use Rattle.lists.specs.Place.{place_lt}
use Rattle.rules.specs.Quantities.{LoopAllowed}
use Rattle.rules.specs.Rule.Unary.{not, eventually, always}
use Rattle.rules.specs.Rule.Binary.{and, or, implies, until}
use Rattle.rules.specs.Rule.{Unary, Binary}
use Rattle.rules.specs.Table.{Node, NodeGood, node_at, rule_at, root}
use Rattle.rules.specs.Table.Node.{atom, unary, binary, windowed}
use Rattle.rules.specs.Rows.{unary_loops, binary_loops, loops, window_slots, goes_on}
use Rattle.rules.specs.TableRules.{NodesGood}
use Rattle.rules.specs.TableTest.{record_count, nodes_in}
use Rattle.rules.proofs.TableTest.{length-nodes_in}
use Rattle.rules.proofs.Errors.Sums.{sum_same}
use Rattle.rules.proofs.Errors.Parts.{window-all}
use Rattle.rules.specs.Errors.Figures.{error, kept_error, next_error, raised, unary_count, binary_count, node_count, kept_count, root_error}
use Rattle.rules.proofs.Errors.Figures.{error_now, kept-error_now}
use Rattle.table.specs.Checks.{Ready}
use Rattle.judge_errors.specs.Worked.{Small, figure_at, ahead, Worked, down, end_of}
use Rattle.judge_errors.specs.Count.{kept_now, figure_now}

-- the error figures of the first n nodes stand in m, which has so many places
pub record Known (T L e : ℕ) (ns : List Node) (places n : ℕ) (m : List ℕ) : Type 0 where
  pub below : (c t : ℕ) → c < n → 1 ≤ t → t ≤ T → figure_at T m c (t - 1) ≡ error T L e (rule_at ns c) t
  pub small : Small m
  pub long : length m ≡ places

-- a table whose error figures can be counted
pub record Countable (T L : ℕ) (table : List ℕ) : Type 0 where
  pub slots-low : 1 ≤ T
  pub slots-high : T ≤ 64
  pub loop : LoopAllowed T L
  pub some-nodes : 1 ≤ record_count table
  pub few-nodes : record_count table ≤ 128
  pub good : NodesGood 16 (nodes_in table)

-- fewer atoms than 16 are below 16
below_16 : (M n : ℕ) → M ≤ 16 → (nd : Node) → NodeGood M n nd → NodeGood 16 n nd
below_16 M n h (atom a) g = omega arith
below_16 M n h (unary u c) g = g
below_16 M n h (binary o l r) g = g
below_16 M n h (windowed w a b c) g = g

pub countable : (T M L : ℕ) (table : List ℕ) → Ready T M L table → Countable T L table
countable T M L table r = record {
  slots-low = r.slots-low;
  slots-high = r.slots-high;
  loop = (r.loop-low, r.loop-high);
  some-nodes = r.some-nodes;
  few-nodes = r.few-nodes;
  good = λ n h. below_16 M n r.atoms-high (node_at (nodes_in table) n) (r.nodes n (omega (arith, length-nodes_in M table)));
}

pub known_none : (T L e : ℕ) (ns : List Node) (m : List ℕ) → Small m → Known T L e ns (length m) 0 m
known_none T L e ns m small = record { below = λ c t h l u. absurd (omega arith); small = small; long = refl }

-- what a node counts where nothing follows has nothing of what follows
unary-same : (u : Unary) (inner : Bool) (p x y : ℕ) → (unary_loops u ≡ true → inner ≡ true → x ≡ y) → unary_count u inner p x ≡ unary_count u inner p y
unary-same not inner p x y k = refl
unary-same eventually true p x y k = ap (λ (z : ℕ). p + z) (k refl refl)
unary-same eventually false p x y k = refl
unary-same always true p x y k = ap (λ (z : ℕ). p + z) (k refl refl)
unary-same always false p x y k = refl

binary-same : (o : Binary) (inner : Bool) (p q x y : ℕ) → (binary_loops o ≡ true → inner ≡ true → x ≡ y) → binary_count o inner p q x ≡ binary_count o inner p q y
binary-same and inner p q x y k = refl
binary-same or inner p q x y k = refl
binary-same implies inner p q x y k = refl
binary-same until true p q x y k = ap (λ (z : ℕ). p + q + z) (k refl refl)
binary-same until false p q x y k = refl

module _ (T L e t : ℕ) (low : 1 ≤ t) (high : t ≤ T) (f g : ℕ → ℕ → ℕ) (x y M n : ℕ) (h : (c s : ℕ) → c < n → 1 ≤ s → s ≤ T → f c s ≡ g c s) where
  unary-parts : (o : Unary) (c : ℕ) (inner : Bool) → c < n → (unary_loops o ≡ true → inner ≡ true → x ≡ y) →
      unary_count o inner (f c t) x ≡ unary_count o inner (g c t) y
  unary-parts o c inner u k = ap (λ (z : ℕ). unary_count o inner z x) (h c t u low high) ∙ unary-same o inner (g c t) x y k

  binary-parts : (o : Binary) (l r : ℕ) (inner : Bool) → l < n → r < n → (binary_loops o ≡ true → inner ≡ true → x ≡ y) →
      binary_count o inner (f l t) (f r t) x ≡ binary_count o inner (g l t) (g r t) y
  binary-parts o l r inner u v k =
      ap₂ (λ (z w : ℕ). binary_count o inner z w x) (h l t u low high) (h r t v low high) ∙ binary-same o inner (g l t) (g r t) x y k

  count_same : (nd : Node) → NodeGood M n nd → (loops nd ≡ true → goes_on T L t ≡ true → x ≡ y) → node_count T L e t f x nd ≡ node_count T L e t g y nd
  count_same (atom a) u k = refl
  count_same (unary o c) u k = unary-parts o c (goes_on T L t) u k
  count_same (binary o l r) u k = binary-parts o l r (goes_on T L t) u.0 u.1 k
  count_same (windowed w a b c) u k = sum_same (f c) (g c) (window_slots T L t a b) (window-all (λ s. f c s ≡ g c s) T L t a b (λ s i j. h c s u.0 i j))

  kept_same : (nd : Node) → NodeGood M n nd → (ltb t T ≡ true → x ≡ y) → kept_count T t f x nd ≡ kept_count T t g y nd
  kept_same (atom a) u k = refl
  kept_same (unary o c) u k = unary-parts o c (ltb t T) u (λ z. k)
  kept_same (binary o l r) u k = binary-parts o l r (ltb t T) u.0 u.1 (λ z. k)
  kept_same (windowed w a b c) u k = refl

-- the next node has been worked
module _ (T M L e : ℕ) (ns : List Node) (loop : LoopAllowed T L) (good : NodesGood M ns) (places n : ℕ) (inside : n < length ns) (m new : List ℕ)
    (k : Known T L e ns places n m) (w : Worked T n (figure_now T L e m (node_at ns n)) m 0 new) (small : Small new) where
  abbrev kept : (s x : ℕ) → ℕ
  kept = kept_now T e m (node_at ns n)

  -- its V, d slots before the last
  kept_from : loops (node_at ns n) ≡ true → (d t : ℕ) → t + d ≡ T → 1 ≤ t → (ltb t T ≡ true → down T kept d ≡ kept_error T L e (rule_at ns n) (t + 1)) →
      down T kept (suc d) ≡ kept_error T L e (rule_at ns n) t
  unfolding down
  kept_from z d t u l h =
      let slot : T - suc d + 1 ≡ t = omega arith in
      ap (λ (i : ℕ). raised e (kept_count T i (λ c t. figure_at T m c (t - 1)) (down T kept d) (node_at ns n))) slot
      ∙ ap (raised e) (kept_same T L e t l (omega arith) (λ c t. figure_at T m c (t - 1)) (λ c. error T L e (rule_at ns c)) (down T kept d)
      (kept_error T L e (rule_at ns n) (t + 1)) M n
      k.below (node_at ns n) (good n inside) h)
      ∙ sym (kept-error_now T M L e ns good n t inside (omega arith) z)

  kept_back : loops (node_at ns n) ≡ true → (d t : ℕ) → t + d ≡ T → 1 ≤ t → down T kept (suc d) ≡ kept_error T L e (rule_at ns n) t
  kept_back z zero t u l = kept_from z zero t u l (λ b. let y = ltb→lt t T (rw b tt) in absurd (omega arith))
  kept_back z (suc d) t u l = kept_from z (suc d) t u l (λ b. kept_back z d (t + 1) (omega arith) (omega arith))

  -- what the node has behind its last slot
  end_is : loops (node_at ns n) ≡ true → ltb L T ≡ true → end_of T L kept ≡ kept_error T L e (rule_at ns n) L
  end_is z b = let d : T + 1 - L ≡ suc (T - L) = omega (arith, loop) in rw (b, d) (kept_back z (T - L) L (omega (arith, loop)) loop.0)

  here-from : (s : ℕ) → s < T → (s + 1 < T → figure_at T new n (s + 1) ≡ error T L e (rule_at ns n) (s + 1 + 1)) →
      figure_at T new n s ≡ error T L e (rule_at ns n) (s + 1)
  here-from s g h =
      w.here s (omega arith) g
      ∙ ap (raised e) (count_same T L e (s + 1) (omega arith) (omega arith) (λ c t. figure_at T m c (t - 1)) (λ c. error T L e (rule_at ns c))
      (cond (ltb (s + 1) T) (ahead T n new (s + 1)) end) (next_error T L e (rule_at ns n) (s + 1)) M n k.below (node_at ns n) (good n inside)
      (λ z v. next (ltb (s + 1) T) (ltb L T) refl refl z v))
      ∙ sym (error_now T M L e ns good n (s + 1) inside (omega arith))
    where
      end : ℕ
      end = end_of T L kept

      next : (i j : Bool) → ltb (s + 1) T ≡ i → ltb L T ≡ j → loops (node_at ns n) ≡ true → (i || j) ≡ true →
          cond i (cond i (figure_at T new n (s + 1)) 0) end ≡ cond i (error T L e (rule_at ns n) (s + 1 + 1)) (kept_error T L e (rule_at ns n) L)
      next true j p q z v = h (ltb→lt (s + 1) T (rw p tt))
      next false true p q z v = end_is z q
      next false false p q z v = let y : ◌≡◌ {A = ℕ} 0 1 = cc in absurd (omega arith)

  -- d slots before the last
  here_back : (d s : ℕ) → s + suc d ≡ T → figure_at T new n s ≡ error T L e (rule_at ns n) (s + 1)
  here_back zero s z = here-from s (omega arith) (λ h. absurd (omega arith))
  here_back (suc d) s z = here-from s (omega arith) (λ h. here_back d (s + 1) (omega arith))

  here-at : (t : ℕ) → 1 ≤ t → t ≤ T → figure_at T new n (t - 1) ≡ error T L e (rule_at ns n) t
  here-at t l u = let z : t - 1 + 1 ≡ t = omega arith in here_back (T - t) (t - 1) (omega arith) ∙ ap (error T L e (rule_at ns n)) z

  pub known_more : Known T L e ns places (n + 1) new
  known_more = record {
    below = λ c t h l u. ⊎_elim (λ z. rw z (here-at t l u)) (λ v. w.before (c * T + (t - 1)) (place_lt v (omega arith)) ∙ k.below c t v l u) (cases c h);
    small = small;
    long = w.same ∙ k.long;
  }
    where
      cases : (c : ℕ) → c < n + 1 → (c ≡ n) ⊎ (c < n)
      cases c h = let u : c ≤ n = omega arith in eq-or-lt_of_le u

-- "Passed carries the root's figure at slot 1."
pub root_known : (T L e : ℕ) (ns : List Node) (places : ℕ) (m : List ℕ) → 0 < T → 0 < length ns → Known T L e ns places (length ns) m → (n : ℕ) → n ≡ root ns →
    get_or m (n * T) 0 ≡ root_error T L e ns
root_known T L e ns places m some nodes k n z = rw z (rw (add-zero (root ns * T)) at (k.below (root ns) 1 (omega arith) (omega arith) some))
