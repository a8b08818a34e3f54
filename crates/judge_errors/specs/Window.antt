-- The error figures of a part at the slots of a window, together, and by the sums of its first ones.
use Rattle.std.specs.Prelude.{◌≡◌, List, length, set}
use Rattle.std.proofs.Math.Path.{refl, sym, ap}
use Rattle.std.proofs.Common.{ap₂, ◌∙◌, lt-ltb, le-ltb, get_or-set_same, get_or-set_other}
use Prim.Native.Nat.{ℕ, zero, suc, ◌+◌, ◌-◌, ◌*◌, ◌≤◌, ◌<◌}
use Rattle.std.proofs.Math.Numerals.{add-one}
use Rattle.std.proofs.Math.Decide.{ℕ_discrete}
use native.Mathlib.Omega.{arith}
use Rattle.std.proofs.Math.ListN.{get_or}
use Rattle.lists.specs.Sums as Sums
use Rattle.lists.specs.Tabulate.{tabulate}
use Rattle.rules.specs.Quantities.{one}
use Rattle.rules.specs.Rows.{window_slots}
use Rattle.rules.specs.Errors.Sums.{sum_over}
use Rattle.rules.proofs.Errors.Sums.{sum-map}
use Rattle.window.specs.declared.Looks.{Looks}
use Rattle.window.specs.Slots.{variable_at, variables, Few, Looking}
use Rattle.judge_errors.specs.Worked.{Small}

first-apart : (f : ℕ → ℕ) (k : ℕ) → Sums.sum_to f (suc k) ≡ f 0 + Sums.sum_to (λ i. f (suc i)) k
first-apart f zero = omega arith
first-apart f (suc k) = omega (arith, first-apart f k)

sum-tabulate : (g h : ℕ → ℕ) (k : ℕ) → sum_over g (tabulate k h) ≡ Sums.sum_to (λ i. g (h i)) k
sum-tabulate g h zero = refl
sum-tabulate g h (suc k) = ap (λ (y : ℕ). g (h 0) + y) (sum-tabulate g (λ i. h (suc i)) k) ∙ sym (first-apart (λ i. g (h i)) k)

-- the figures of k places, the i-th of which is `at i`
module _ (l : List ℕ) where
  unfoldable pub sum_to : (at : ℕ → ℕ) (k : ℕ) → ℕ
  sum_to at k = Sums.sum_to (λ i. get_or l (at i) 0) k

  pub sum-none : (at : ℕ → ℕ) → sum_to at 0 ≡ 0
  unfolding sum_to
  sum-none at = refl

  pub sum_more : (at : ℕ → ℕ) (k : ℕ) → sum_to at (k + 1) ≡ sum_to at k + get_or l (at k) 0
  unfolding sum_to
  sum_more at k = rw add-one

  -- of a part at the slots of a window, in one range or in two; p is the place of its figure at the first slot of all
  module _ (w : Looks) (p : ℕ) where
    abbrev next : ℕ
    next = w.first + w.head + w.skip

    in_head : sum_to (λ i. p + w.first + i) w.head ≡ sum_to (variable_at w p) w.head
    unfolding sum_to
    in_head = Sums.sum_same _ _ w.head (λ i z. ap (λ (v : ℕ). get_or l v 0) (rw (lt-ltb i w.head z) (omega arith)))

    in_rest : (k : ℕ) → sum_to (λ i. p + next + i) k ≡ sum_to (λ i. variable_at w p (w.head + i)) k
    unfolding sum_to
    in_rest k = Sums.sum_same _ _ k (λ i z. ap (λ (v : ℕ). get_or l v 0) (rw (le-ltb (w.head + i) w.head (omega arith)) (omega arith)))

    joined : (k : ℕ) → sum_to (variable_at w p) w.head + sum_to (λ i. variable_at w p (w.head + i)) k ≡ sum_to (variable_at w p) (w.head + k)
    unfolding sum_to
    joined k = sym (Sums.sum-split (λ i. get_or l (variable_at w p i) 0) w.head k)

    pub sum-two : Few w → sum_to (λ i. p + w.first + i) w.head + sum_to (λ i. p + next + i) w.rest ≡ sum_to (variable_at w p) w.count
    sum-two f = ap₂ ◌+◌ in_head (in_rest w.rest) ∙ joined w.rest ∙ ap (sum_to (variable_at w p)) f.ranges

  pub sum-all : (w : Looks) (p : ℕ) {T L t a b : ℕ} → Looking T L t a b w →
      sum_to (variable_at w p) w.count ≡ sum_over (λ s. get_or l (p + (s - 1)) 0) (window_slots T L t a b)
  unfolding sum_to variables
  sum-all w p {T} {L} {t} {a} {b} h =
      sym (sum-tabulate (λ v. get_or l v 0) (variable_at w p) w.count)
      ∙ ap (sum_over (λ v. get_or l v 0)) (h.is p)
      ∙ sum-map (λ v. get_or l v 0) (λ s. p + (s - 1)) (window_slots T L t a b)

-- ---- by the sums of the part's first figures: a range is a difference of two

-- of the figures from place p on, at place i the first i together, up to k of them
abbrev pub Running : List ℕ → (p k : ℕ) → List ℕ → Type 0
Running l p k m = (i : ℕ) → i ≤ k → get_or m i 0 ≡ sum_to l (λ j. p + j) i

-- of k from the i-th on, and of the slots of a window
abbrev pub rise : List ℕ → (i k : ℕ) → ℕ
rise m i k = get_or m (i + k) 0 - get_or m i 0

abbrev pub window_rise : Looks → List ℕ → ℕ
window_rise w m = rise m w.first w.head + rise m (w.first + w.head + w.skip) w.rest

-- the first n of them are there, none is below one before it, and they are small
pub record Rising (n : ℕ) (m : List ℕ) : Type 0 where
  pub inside : n < length m
  pub rises : (i k : ℕ) → i + k ≤ n → get_or m i 0 ≤ get_or m (i + k) 0
  pub low : (i : ℕ) → i ≤ n → get_or m i 0 ≤ 64 * one

module _ (l : List ℕ) where
  pub sum-small : Small l → (at : ℕ → ℕ) (k : ℕ) → sum_to l at k ≤ k * one
  unfolding sum_to
  sum-small h at zero = omega arith
  sum-small h at (suc k) = omega (arith, sum-small h at k, h (at k))

  sum-apart : (p i k : ℕ) → sum_to l (λ j. p + j) (i + k) ≡ sum_to l (λ j. p + j) i + sum_to l (λ j. p + i + j) k
  unfolding sum_to
  sum-apart p i k =
      Sums.sum-split (λ j. get_or l (p + j) 0) i k
      ∙ ap (λ (x : ℕ). Sums.sum_to (λ j. get_or l (p + j) 0) i + x)
      (Sums.sum_same (λ j. get_or l (p + (i + j)) 0) (λ j. get_or l (p + i + j) 0) k (λ j z. ap (λ (v : ℕ). get_or l v 0) (omega arith)))

  pub running_none : (p : ℕ) (m : List ℕ) → get_or m 0 0 ≡ 0 → Running l p 0 m
  running_none p m e i h = let z : i ≡ 0 = omega arith in rw z (e ∙ sym (sum-none l (λ j. p + j)))

  module _ (p k : ℕ) (m : List ℕ) (r : Running l p k m) where
    pub running_more : (v : ℕ) → k + 1 < length m → v ≡ sum_to l (λ j. p + j) (k + 1) → Running l p (k + 1) (set m (k + 1) v)
    running_more v inside e i h = go (ℕ_discrete i (k + 1))
      where
        go : Dec (i ≡ k + 1) → get_or (set m (k + 1) v) i 0 ≡ sum_to l (λ j. p + j) i
        go (yes z) = rw z (get_or-set_same m (k + 1) v 0 inside ∙ e)
        go (no z) = get_or-set_other m (k + 1) i v 0 z ∙ r i (omega arith)

    pub running_rises : Small l → k ≤ 64 → k < length m → (n : ℕ) → n ≤ k → Rising n m
    running_rises small few inside n h = record {
      inside = omega arith;
      rises = λ i d g. omega (arith, r i (omega arith), r (i + d) (omega arith), sum-apart p i d);
      low = λ i g. omega (arith, r i (omega arith), sum-small small (λ j. p + j) i);
    }

    rise-is : (i d : ℕ) → i + d ≤ k → rise m i d ≡ sum_to l (λ j. p + i + j) d
    rise-is i d g = omega (arith, r i (omega arith), r (i + d) g, sum-apart p i d)

    pub window-rise : (w : Looks) → Few w → w.first + w.count + w.skip ≤ k → window_rise w m ≡ sum_to l (variable_at w p) w.count
    window-rise w f g =
        ap₂ ◌+◌ (rise-is w.first w.head (omega (arith, f.ranges))) (rise-is (w.first + w.head + w.skip) w.rest (omega (arith, f.ranges)))
        ∙ sum-two l w p f
