-- Rows that pin each slack, given the slacks of lower rank, are met by exactly one list of numerators. Neither a table nor a slot stands here.
use Rattle.std.specs.Prelude.{◌≡◌, refl, ◌↔◌, Bool, true, false, List, [], ◌∷◌, ◌++◌, ℕ, zero, suc, ◌+◌, ◌≤◌, ◌<◌, T as Is, length, ℤ, pos, negsuc, nat_abs, ◌≤ℤ◌}
use Rattle.std.proofs.Common.{sym, ap, subst, ◌∙◌, arith, leb→le, le→leb, get_or-append-add, ext_get_or}
use Rattle.std.proofs.Math.Logic.Iff as Iff
use Rattle.std.proofs.Math.ListN.{get_or-append}
use Rattle.lists.specs.Every.{Every}
use Rattle.lists.specs.Tabulate.{tabulate, length-tabulate, get_d_tabulate}
use Rattle.rules.specs.Rows.{Row, Meets, value_at, plus, eq}
use Rattle.rules.specs.Demands.{Fits}
use Rattle.rules.proofs.Solution.Integers.{Met, meets-met, every-met}
use Rattle.rules.proofs.Solution.Families.{scale, scale_le}

-- The slacks are the X that satisfy `slack`, each at its place below `count`: the truth of each, the rows that it owns, its rank, and that its own rows pin it.
-- The atoms' numerators stand first; there are A of them.
pub record System (X : Type 0) (D A count : ℕ) (atoms : List ℤ) (rows : List Row) : Type 1 where
  pub counted : length atoms ≡ A
  pub low : (v : ℕ) → pos 0 ≤ℤ value_at atoms v
  pub slack : X → Type 0
  pub place : X → ℕ
  pub at : ℕ → X
  pub place_lt : (x : X) → slack x → place x < count
  pub at_place : (x : X) → slack x → at (place x) ≡ x
  pub at-slack : (i : ℕ) → i < count → slack (at i)
  pub place_at : (i : ℕ) → i < count → place (at i) ≡ i
  pub want : X → Bool
  pub own : X → List Row
  pub rank : X → ℕ
  pub split : (y : ℕ → ℕ) → Every (Met D y) rows ↔ ((x : X) → slack x → Every (Met D y) (own x))
  pub pins : (y : ℕ → ℕ) → ((v : ℕ) → v < A → y v ≡ nat_abs (value_at atoms v)) → (x : X) → slack x → y (A + place x) ≤ D →
      ((z : X) → slack z → rank z < rank x → y (A + place z) ≡ scale D (want z)) → Every (Met D y) (own x) ↔ (y (A + place x) ≡ scale D (want x))

-- induction over anything that has a rank
pub by_rank : {X : Type 0} (rank : X → ℕ) (Ok : X → Type 0) → ((v : X) → ((u : X) → rank u < rank v → Ok u) → Ok v) → (v : X) → Ok v
by_rank {X} rank Ok step v = go (suc (rank v)) v (omega arith)
  where
    go : (k : ℕ) (v : X) → rank v < k → Ok v
    go zero v h = absurd (omega arith)
    go (suc k) v h = step v (λ u l. go k u (omega arith))

-- ---- signs

pos_abs : (z : ℤ) → pos 0 ≤ℤ z → z ≡ pos (nat_abs z)
pos_abs (pos m) h = refl
pos_abs (negsuc m) h = absurd h.le

abs_le : (z : ℤ) (D : ℕ) → pos 0 ≤ℤ z → z ≤ℤ pos D → nat_abs z ≤ D
abs_le (pos m) D h k = leb→le m D k.le
abs_le (negsuc m) D h k = absurd h.le

pos_le : (m n : ℕ) → m ≤ n → pos m ≤ℤ pos n
pos_le m n h = record { le = le→leb m n h }

pub low-tabulate : (n : ℕ) (f : ℕ → ℕ) (v : ℕ) → pos 0 ≤ℤ value_at (tabulate n (λ i. pos (f i))) v
low-tabulate zero f v = pos_le 0 0 (omega arith)
low-tabulate (suc n) f zero = pos_le 0 (f 0) (omega arith)
low-tabulate (suc n) f (suc v) = low-tabulate n (λ i. f (suc i)) v

low-append : (xs ys : List ℤ) → ((v : ℕ) → pos 0 ≤ℤ value_at xs v) → ((v : ℕ) → pos 0 ≤ℤ value_at ys v) → (v : ℕ) → pos 0 ≤ℤ value_at (xs ++ ys) v
low-append [] ys h k v = k v
low-append (x ∷ xs) ys h k zero = h 0
low-append (x ∷ xs) ys h k (suc v) = low-append xs ys (λ i. h (suc i)) k v

low-all : (xs : List ℤ) → ((i : ℕ) → i < length xs → pos 0 ≤ℤ value_at xs i) → (v : ℕ) → pos 0 ≤ℤ value_at xs v
low-all [] h v = pos_le 0 0 (omega arith)
low-all (x ∷ xs) h zero = h 0 (omega arith)
low-all (x ∷ xs) h (suc v) = low-all xs (λ i u. h (suc i) (omega arith)) v

goal_pin : (D : ℕ) → 1 ≤ D → (y : ℕ → ℕ) (P : ℕ) (b : Bool) → y P ≡ scale D b → Met D y (eq (plus P ∷ []) (pos 1)) ↔ Is b
goal_pin D z y P true e = (λ h. tt, λ h. omega arith)
goal_pin D z y P false e = (λ h. absurd (omega arith), λ h. absurd h)

-- ---- the theorem

module _ (X : Type 0) (D A count : ℕ) (atoms : List ℤ) (rows : List Row) (s : System X D A count atoms rows) where
  abbrev abs : List ℤ → ℕ → ℕ
  abs xs v = nat_abs (value_at (atoms ++ xs) v)

  at-slack : (xs : List ℤ) (i : ℕ) → value_at (atoms ++ xs) (A + i) ≡ value_at xs i
  at-slack xs i = ap (λ (k : ℕ). value_at (atoms ++ xs) (k + i)) (sym s.counted) ∙ get_or-append-add atoms xs i (pos 0)

  at-atom : (xs : List ℤ) (v : ℕ) → v < A → abs xs v ≡ nat_abs (value_at atoms v)
  at-atom xs v h = ap nat_abs (get_or-append atoms xs (pos 0) v (omega (arith, s.counted)))

  is-abs : (xs : List ℤ) → ((i : ℕ) → i < length xs → pos 0 ≤ℤ value_at xs i) → (v : ℕ) → value_at (atoms ++ xs) v ≡ pos (abs xs v)
  is-abs xs low v = pos_abs (value_at (atoms ++ xs) v) (low-append atoms xs s.low (low-all xs low) v)

  -- what fits holds the truth
  fits-truth : (xs : List ℤ) → Fits D count atoms rows xs → (x : X) → s.slack x → value_at xs (s.place x) ≡ pos (scale D (s.want x))
  fits-truth xs f x h =
      sym (at-slack xs (s.place x)) ∙ is-abs xs (λ k z. (f.limits k z).0) (A + s.place x)
      ∙ ap pos (by_rank s.rank (λ x. s.slack x → abs xs (A + s.place x) ≡ scale D (s.want x)) step x h)
    where
      met : (x : X) → s.slack x → Every (Met D (abs xs)) (s.own x)
      met = (s.split (abs xs)).0 ((every-met D (atoms ++ xs) (abs xs) (is-abs xs (λ k z. (f.limits k z).0)) rows).0 f.meets)

      top : (x : X) → s.slack x → abs xs (A + s.place x) ≤ D
      top x z =
          let l = f.limits (s.place x) (rw f.counted (s.place_lt x z)) in
          rw (at-slack xs (s.place x)) (abs_le (value_at xs (s.place x)) D l.0 l.1)

      step : (x : X) → ((z : X) → s.rank z < s.rank x → s.slack z → abs xs (A + s.place z) ≡ scale D (s.want z)) →
          s.slack x → abs xs (A + s.place x) ≡ scale D (s.want x)
      step x ih z = (s.pins (abs xs) (at-atom xs) x z (top x z) (λ w u l. ih w l u)).0 (met x z)

  abbrev truth_at : ℕ → ℕ
  truth_at i = scale D (s.want (s.at i))

  abbrev pub truths : List ℤ
  truths = tabulate count (λ i. pos (truth_at i))

  truths-low : (i : ℕ) → i < length truths → pos 0 ≤ℤ value_at truths i
  truths-low i h = low-tabulate count truth_at i

  truths-high : (i : ℕ) → i < length truths → value_at truths i ≤ℤ pos D
  truths-high i h = rw (get_d_tabulate count (λ i. pos (truth_at i)) i (pos 0) (rw length-tabulate at h)) (pos_le _ _ (scale_le D (s.want (s.at i))))

  pub truths-at : (x : X) → s.slack x → value_at truths (s.place x) ≡ pos (scale D (s.want x))
  truths-at x h =
      get_d_tabulate count (λ i. pos (truth_at i)) (s.place x) (pos 0) (s.place_lt x h) ∙ ap (λ (z : X). pos (scale D (s.want z))) (s.at_place x h)

  truths-abs : (x : X) → s.slack x → abs truths (A + s.place x) ≡ scale D (s.want x)
  truths-abs x h = ap nat_abs (at-slack truths (s.place x) ∙ truths-at x h)

  pub truths-fit : Fits D count atoms rows truths
  truths-fit = record {
    counted = length-tabulate count (λ i. pos (truth_at i));
    limits = λ i h. (truths-low i h, truths-high i h);
    meets = (every-met D (atoms ++ truths) (abs truths) (is-abs truths truths-low) rows).1
        ((s.split (abs truths)).1
        (λ x h. (s.pins (abs truths) (at-atom truths) x h (rw (truths-abs x h) (scale_le D (s.want x))) (λ z u l. truths-abs z u)).1 (truths-abs x h)));
  }

  pub truths-only : (ys : List ℤ) → Fits D count atoms rows ys → ys ≡ truths
  truths-only ys f = ext_get_or (pos 0) ys truths (f.counted ∙ sym truths-fit.counted) (λ i h. same i (rw f.counted at h))
    where
      same : (i : ℕ) → i < count → value_at ys i ≡ value_at truths i
      same i h =
          subst (λ (k : ℕ). value_at ys k ≡ value_at truths k) (s.place_at i h)
          (fits-truth ys f (s.at i) (s.at-slack i h) ∙ sym (truths-at (s.at i) (s.at-slack i h)))

  -- a row that asks a slack to be 1
  pub goal-is : 1 ≤ D → (x : X) → s.slack x → Meets D (atoms ++ truths) (eq (plus (A + s.place x) ∷ []) (pos 1)) ↔ Is (s.want x)
  goal-is z x h =
      Iff.trans (meets-met D (atoms ++ truths) (abs truths) (is-abs truths truths-low) (eq (plus (A + s.place x) ∷ []) (pos 1)))
      (goal_pin D z (abs truths) (A + s.place x) (s.want x) (truths-abs x h))
