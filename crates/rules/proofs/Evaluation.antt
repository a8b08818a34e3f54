-- The truth of a rule at a slot, computed from the last slot backwards, where after slot T comes slot L again; and that it is the truth of Truth.antt.
use Rattle.rules.specs.Evaluation.{binary_from, binary_last, binary_step, binary_to, bit_set, truth, truth_at, unary_from, unary_last, unary_step, unary_to, window_now}
use Rattle.std.specs.Prelude.{◌≡◌, true, false, not as notb, cond, ◌&&◌, ◌||◌, ◌↔◌, ◌⊎◌, List, T as Is, leb, eqb, ltb, length}
use Rattle.std.proofs.Math.Path.{refl}
use Rattle.std.proofs.Common.{sym, ap, subst, ◌∙◌, inl, inr, ⊎_elim, add-zero, add-suc, suc-add, eq-or-lt_of_le, ltb→lt, nltb→le, leb→le, le→leb, eqb→eq}
use Rattle.std.proofs.Math.Bool.{Bool}
use Rattle.std.proofs.Math.Logic.Iff as Iff
use Rattle.std.proofs.Math.Logic.{⊎_map}
use Prim.Native.Nat.{ℕ, zero, suc, ◌+◌, ◌-◌, ◌≤◌, ◌<◌}
use native.Mathlib.Omega.{arith}
use Rattle.std.proofs.Math.Dec.{eqb_refl}
use Rattle.lists.specs.Any.{any_iff}
use Rattle.lists.specs.Passing.{some_of-passing, every_of-passing}
use Rattle.lists.specs.Tests.{or_cases, or_left, or_right, and_left, and_right, and_both, not_iff, imp_iff}
use Rattle.rules.specs.Quantities.{bit_at, LoopAllowed}
use Rattle.rules.specs.Rule.{Unary, Binary, Window, Rule}
use Rattle.rules.specs.Rule.Unary.{not, eventually, always}
use Rattle.rules.specs.Rule.Binary.{and, or, implies, until}
use Rattle.rules.specs.Rule.Window.{within, throughout}
use Rattle.rules.specs.Rule.Rule.{atom, unary, binary, windowed}
use Rattle.rules.specs.Table.{Node, NodeGood, node_at, grow, rule_at}
use Rattle.rules.proofs.TableRules.{rule_at-is}
use Rattle.rules.specs.Truth.{HoldsUnary, HoldsBinary, HoldsWindow, Holds, HoldsKept, Endless, endless, slot_of}
use Rattle.rules.specs.Rows.{unary_loops, binary_loops, loops, goes_on, in_window, window_slots}
use Rattle.rules.proofs.Slots.{slot_le, slot_pos, slot_is, slot-ahead, distance, distance_next, distance-last, distance_back}

-- the truth of a V slack
abbrev pub kept_at : (T L : ℕ) → (ℕ → ℕ → Bool) → Rule → ℕ → Bool
kept_at T L on (atom a) t = false
kept_at T L on (unary u p) t = unary_loops u && unary_from u (λ d. truth_at T L on p (T - d)) (T - t)
kept_at T L on (binary o p q) t = binary_loops o && binary_from o (λ d. truth_at T L on p (T - d)) (λ d. truth_at T L on q (T - d)) (T - t)
kept_at T L on (windowed w a b p) t = false

unfoldable pub kept : (T L : ℕ) → List ℕ → Rule → ℕ → Bool
kept T L run p t = kept_at T L (bit_set run) p t

-- ---- what looks at its own slot alone

pub not-to : (f : ℕ → Bool) (e : Bool) (d : ℕ) → unary_to not f e d ≡ notb (f d)
not-to f e zero = refl
not-to f e (suc d) = refl

pub at_once : (o : Binary) → ((p q e : Bool) → binary_step o p q e ≡ binary_last o p q) → (f g : ℕ → Bool) (e : Bool) (d : ℕ) →
    binary_to o f g e d ≡ binary_last o (f d) (g d)
at_once o h f g e zero = h (f zero) (g zero) e
at_once o h f g e (suc d) = h (f (suc d)) (g (suc d)) (binary_to o f g e d)

-- ---- where the loop closes: what holds from c on with the truth of c after the last slot holds up to the last slot

some-loop : (g : ℕ → Bool) (e : Bool) (d : ℕ) → Is (unary_to eventually g e d) → Is (unary_from eventually g d) ⊎ Is e
some-loop g e zero t = or_cases (g 0) e t
some-loop g e (suc d) t = ⊎_elim (λ x. inl (or_left (g (suc d)) (unary_from eventually g d) x))
    (λ x. ⊎_elim (λ z. inl (or_right (g (suc d)) (unary_from eventually g d) z)) inr (some-loop g e d x)) (or_cases (g (suc d)) (unary_to eventually g e d) t)

every-loop : (g : ℕ → Bool) (e : Bool) (d : ℕ) → Is (unary_from always g d) → Is e → Is (unary_to always g e d)
every-loop g e zero t u = and_both (g 0) e t u
every-loop g e (suc d) t u = and_both (g (suc d)) (unary_to always g e d) (and_left (g (suc d)) (unary_from always g d) t)
    (every-loop g e d (and_right (g (suc d)) (unary_from always g d) t) u)

until-loop : (f g : ℕ → Bool) (e : Bool) (d : ℕ) → Is (binary_to until f g e d) → Is (binary_from until f g d) ⊎ Is e
until-loop f g e zero t = ⊎_elim inl (λ x. inr (and_right (f 0) e x)) (or_cases (g 0) (f 0 && e) t)
until-loop f g e (suc d) t = ⊎_elim (λ x. inl (or_left (g (suc d)) (f (suc d) && binary_from until f g d) x))
    (λ x. ⊎_elim (λ z. inl (or_right (g (suc d)) (f (suc d) && binary_from until f g d)
    (and_both (f (suc d)) (binary_from until f g d) (and_left (f (suc d)) (binary_to until f g e d) x) z))) inr
    (until-loop f g e d (and_right (f (suc d)) (binary_to until f g e d) x)))
    (or_cases (g (suc d)) (f (suc d) && binary_to until f g e d) t)

-- ---- operators kind by kind: G is a part's truth at every time from 1, g its test by the distance from the last slot, δ the distance at a time

module _ (δ : ℕ → ℕ) (c : ℕ) (st : (k d : ℕ) → δ k ≡ suc d → δ (suc k) ≡ d) (sz : (k : ℕ) → δ k ≡ 0 → δ (suc k) ≡ c) where
  module _ (G : ℕ → Type 0) (g : ℕ → Bool) (e : (k : ℕ) → 1 ≤ k → G k ↔ Is (g (δ k))) where
    some-kept : (d k : ℕ) → 1 ≤ k → δ k ≡ d → Is (unary_from eventually g d) → (j : ℕ) × (k ≤ j) × G j
    some-kept zero k h p t = (k, omega arith, (e k h).1 (rw p t))
    some-kept (suc d) k h p t = ⊎_elim {C = (j : ℕ) × (k ≤ j) × G j} (λ s. (k, omega arith, (e k h).1 (rw p s)))
        (λ s. let r = some-kept d (suc k) (omega arith) (st k d p) s in (r.0, omega arith, r.2)) (or_cases (g (suc d)) (unary_from eventually g d) t)

    some-sound : (d k : ℕ) → 1 ≤ k → δ k ≡ d → Is (unary_to eventually g (unary_from eventually g c) d) → (j : ℕ) × (k ≤ j) × G j
    some-sound zero k h p t = ⊎_elim {C = (j : ℕ) × (k ≤ j) × G j} (λ s. (k, omega arith, (e k h).1 (rw p s)))
        (λ s. let r = some-kept c (suc k) (omega arith) (sz k p) s in (r.0, omega arith, r.2)) (or_cases (g 0) (unary_from eventually g c) t)
    some-sound (suc d) k h p t = ⊎_elim {C = (j : ℕ) × (k ≤ j) × G j} (λ s. (k, omega arith, (e k h).1 (rw p s)))
        (λ s. let r = some-sound d (suc k) (omega arith) (st k d p) s in (r.0, omega arith, r.2))
        (or_cases (g (suc d)) (unary_to eventually g (unary_from eventually g c) d) t)

    some-head : (d : ℕ) → Is (g d) → Is (unary_to eventually g (unary_from eventually g c) d)
    some-head zero t = or_left (g 0) (unary_from eventually g c) t
    some-head (suc d) t = or_left (g (suc d)) (unary_to eventually g (unary_from eventually g c) d) t

    some_back : (k d : ℕ) → δ k ≡ d → Is (unary_to eventually g (unary_from eventually g c) (δ (suc k))) → Is (unary_to eventually g (unary_from eventually g c) d)
    some_back k zero p t = or_right (g 0) (unary_from eventually g c) (⊎_elim (λ x. x) (λ x. x) (some-loop g (unary_from eventually g c) c (rw (sz k p) at t)))
    some_back k (suc d) p t = or_right (g (suc d)) (unary_to eventually g (unary_from eventually g c) d) (rw (st k d p) at t)

    some_full : (m k : ℕ) → 1 ≤ k → G (k + m) → Is (unary_to eventually g (unary_from eventually g c) (δ k))
    some_full zero k h x = some-head (δ k) ((e k h).0 (rw (← add-zero k) x))
    some_full (suc m) k h x = some_back k (δ k) refl (some_full m (suc k) (omega arith) (rw suc-add (rw add-suc at x)))

    every-kept : (d k : ℕ) → 1 ≤ k → δ k ≡ d → ((j : ℕ) → k ≤ j → G j) → Is (unary_from always g d)
    every-kept zero k h p x = rw p at ((e k h).0 (x k (omega arith)))
    every-kept (suc d) k h p x = and_both (g (suc d)) (unary_from always g d) (rw p at ((e k h).0 (x k (omega arith))))
        (every-kept d (suc k) (omega arith) (st k d p) (λ j u. x j (omega arith)))

    every_full : (d k : ℕ) → 1 ≤ k → δ k ≡ d → ((j : ℕ) → k ≤ j → G j) → Is (unary_to always g (unary_from always g c) d)
    every_full zero k h p x = and_both (g 0) (unary_from always g c) (rw p at ((e k h).0 (x k (omega arith))))
        (every-kept c (suc k) (omega arith) (sz k p) (λ j u. x j (omega arith)))
    every_full (suc d) k h p x = and_both (g (suc d)) (unary_to always g (unary_from always g c) d) (rw p at ((e k h).0 (x k (omega arith))))
        (every_full d (suc k) (omega arith) (st k d p) (λ j u. x j (omega arith)))

    every-head : (d : ℕ) → Is (unary_to always g (unary_from always g c) d) → Is (g d)
    every-head zero t = and_left (g 0) (unary_from always g c) t
    every-head (suc d) t = and_left (g (suc d)) (unary_to always g (unary_from always g c) d) t

    every-on : (k d : ℕ) → δ k ≡ d → Is (unary_to always g (unary_from always g c) d) → Is (unary_to always g (unary_from always g c) (δ (suc k)))
    every-on k zero p t =
        rw (sz k p) (every-loop g (unary_from always g c) c (and_right (g 0) (unary_from always g c) t) (and_right (g 0) (unary_from always g c) t))
    every-on k (suc d) p t = rw (st k d p) (and_right (g (suc d)) (unary_to always g (unary_from always g c) d) t)

    every-sound : (m k : ℕ) → 1 ≤ k → Is (unary_to always g (unary_from always g c) (δ k)) → G (k + m)
    every-sound zero k h t = rw add-zero ((e k h).1 (every-head (δ k) t))
    every-sound (suc m) k h t = rw (add-suc, ← suc-add) (every-sound m (suc k) (omega arith) (every-on k (δ k) refl t))

    pub unary-holds : (u : Unary) (k : ℕ) → 1 ≤ k → HoldsUnary u G k ↔ Is (unary_to u g (unary_from u g c) (δ k))
    unary-holds not k l =
        rw (not-to g (unary_from not g c) (δ k)) (λ x. (not_iff (g (δ k))).1 (λ t. x ((e k l).1 t)), λ t x. (not_iff (g (δ k))).0 t ((e k l).0 x))
    unary-holds eventually k l =
        (λ x. some_full (x.0 - k) k l (subst G (omega (arith, x.1)) x.2), λ t. some-sound (δ k) k l refl t)
    unary-holds always k l =
        (λ x. every_full (δ k) k l refl x, λ t j h. subst G (omega arith) (every-sound (j - k) k l t))

  module _ (F G : ℕ → Type 0) (f g : ℕ → Bool) (b : (k : ℕ) → 1 ≤ k → F k ↔ Is (f (δ k))) (e : (k : ℕ) → 1 ≤ k → G k ↔ Is (g (δ k))) where
    abbrev Until : ℕ → Type 0
    Until k = (j : ℕ) × (k ≤ j) × G j × ((i : ℕ) → k ≤ i → i < j → F i)

    abbrev E : Bool
    E = binary_from until f g c

    until_now : (k : ℕ) → G k → Until k
    until_now k x = (k, omega arith, x, λ i u v. absurd (omega arith))

    until-later : (k : ℕ) → F k → Until (suc k) → Until k
    until-later k x r = (r.0, omega (arith, r.1), r.2, λ i u v. go i v (eq-or-lt_of_le u))
      where
        go : (i : ℕ) → i < r.0 → (k ≡ i) ⊎ (k < i) → F i
        go i v (inl z) = rw (← z) x
        go i v (inr z) = r.3 i z v

    until-kept : (d k : ℕ) → 1 ≤ k → δ k ≡ d → Is (binary_from until f g d) → Until k
    until-kept zero k h p t = until_now k ((e k h).1 (rw p t))
    until-kept (suc d) k h p t = ⊎_elim {C = Until k} (λ s. until_now k ((e k h).1 (rw p s)))
        (λ s. until-later k ((b k h).1 (rw p (and_left (f (suc d)) (binary_from until f g d) s)))
        (until-kept d (suc k) (omega arith) (st k d p) (and_right (f (suc d)) (binary_from until f g d) s)))
        (or_cases (g (suc d)) (f (suc d) && binary_from until f g d) t)

    until-sound : (d k : ℕ) → 1 ≤ k → δ k ≡ d → Is (binary_to until f g E d) → Until k
    until-sound zero k h p t = ⊎_elim {C = Until k} (λ s. until_now k ((e k h).1 (rw p s)))
        (λ s. until-later k ((b k h).1 (rw p (and_left (f 0) E s))) (until-kept c (suc k) (omega arith) (sz k p) (and_right (f 0) E s)))
        (or_cases (g 0) (f 0 && E) t)
    until-sound (suc d) k h p t = ⊎_elim {C = Until k} (λ s. until_now k ((e k h).1 (rw p s)))
        (λ s. until-later k ((b k h).1 (rw p (and_left (f (suc d)) (binary_to until f g E d) s)))
        (until-sound d (suc k) (omega arith) (st k d p) (and_right (f (suc d)) (binary_to until f g E d) s)))
        (or_cases (g (suc d)) (f (suc d) && binary_to until f g E d) t)

    until-head : (d : ℕ) → Is (g d) → Is (binary_to until f g E d)
    until-head zero t = or_left (g 0) (f 0 && E) t
    until-head (suc d) t = or_left (g (suc d)) (f (suc d) && binary_to until f g E d) t

    until-back : (k d : ℕ) → δ k ≡ d → Is (f d) → Is (binary_to until f g E (δ (suc k))) → Is (binary_to until f g E d)
    until-back k zero p s t = or_right (g 0) (f 0 && E) (and_both (f 0) E s (⊎_elim (λ x. x) (λ x. x) (until-loop f g E c (rw (sz k p) at t))))
    until-back k (suc d) p s t =
        or_right (g (suc d)) (f (suc d) && binary_to until f g E d) (and_both (f (suc d)) (binary_to until f g E d) s (rw (st k d p) at t))

    until_full : (m k : ℕ) → 1 ≤ k → G (k + m) → ((i : ℕ) → k ≤ i → i < k + m → F i) → Is (binary_to until f g E (δ k))
    until_full zero k h x y = until-head (δ k) ((e k h).0 (rw (← add-zero k) x))
    until_full (suc m) k h x y = until-back k (δ k) refl ((b k h).0 (y k (omega arith) (omega arith)))
        (until_full m (suc k) (omega arith) (rw suc-add (rw add-suc at x)) (λ i u v. y i (omega arith) (omega arith)))

    pub binary-holds : (o : Binary) (k : ℕ) → 1 ≤ k → HoldsBinary o F G k ↔ Is (binary_to o f g (binary_from o f g c) (δ k))
    binary-holds and k l = rw (at_once and (λ p q r. refl) f g (binary_from and f g c) (δ k)) (
      λ x. and_both (f (δ k)) (g (δ k)) ((b k l).0 x.0) ((e k l).0 x.1),
      λ t. ((b k l).1 (and_left (f (δ k)) (g (δ k)) t), (e k l).1 (and_right (f (δ k)) (g (δ k)) t)),
    )
    binary-holds or k l = rw (at_once or (λ p q r. refl) f g (binary_from or f g c) (δ k)) (
      ⊎_elim (λ x. or_left (f (δ k)) (g (δ k)) ((b k l).0 x)) (λ x. or_right (f (δ k)) (g (δ k)) ((e k l).0 x)),
      λ t. ⊎_map (b k l).1 (e k l).1 (or_cases (f (δ k)) (g (δ k)) t),
    )
    binary-holds implies k l = rw (at_once implies (λ p q r. refl) f g (binary_from implies f g c) (δ k)) (
      λ x. (imp_iff (f (δ k)) (g (δ k))).1 (λ t. (e k l).0 (x ((b k l).1 t))),
      λ t x. (e k l).1 ((imp_iff (f (δ k)) (g (δ k))).0 t ((b k l).0 x)),
    )
    binary-holds until k l = (
      λ x. until_full (x.0 - k) k l (subst G (omega (arith, x.1)) x.2) (λ i u v. x.3 i u (omega (arith, x.1))),
      λ t. until-sound (δ k) k l refl t,
    )

-- ---- the slots of a window

module _ (T L a b t : ℕ) where
  pub window-at : (j : ℕ) → a ≤ j → j ≤ b → Is (in_window T L t a b (slot_of T L (t + j)))
  window-at j u v =
      (any_iff (λ i. leb a i && eqb (slot_of T L (t + i)) (slot_of T L (t + j))) (b + 1)).1
      (j, omega arith, and_both (leb a j) (eqb (slot_of T L (t + j)) (slot_of T L (t + j))) (le→leb a j u) (eqb_refl (slot_of T L (t + j))))

  pub at-window : (s : ℕ) → Is (in_window T L t a b s) → (j : ℕ) × (a ≤ j) × (j ≤ b) × (slot_of T L (t + j) ≡ s)
  at-window s x =
      let r = (any_iff (λ i. leb a i && eqb (slot_of T L (t + i)) s) (b + 1)).0 x in
      let j = r.0 in (
        j,
        leb→le a j (and_left (leb a j) (eqb (slot_of T L (t + j)) s) r.2),
        omega (arith, r.1),
        eqb→eq (slot_of T L (t + j)) s (and_right (leb a j) (eqb (slot_of T L (t + j)) s) r.2),
      )

-- a window's part at each time has the truth of the time's slot
module _ (T L : ℕ) (loop : LoopAllowed T L) (P : ℕ → Type 0) (f : ℕ → Bool) (e : (k : ℕ) → 1 ≤ k → P k ↔ Is (f (slot_of T L k))) where
  -- from slot t of time k
  ahead : (k j : ℕ) → k ≤ j → slot_of T L (slot_of T L k + (j - k)) ≡ slot_of T L j
  ahead k j h = let same : k + (j - k) ≡ j = omega arith in slot-ahead T L loop k (j - k) ∙ ap (slot_of T L) same

  pub window-holds : (w : Window) (a b k : ℕ) → 1 ≤ k → HoldsWindow w a b P k ↔ Is (window_now w f (window_slots T L (slot_of T L k) a b))
  window-holds within a b k l =
      let t = slot_of T L k in (
        λ x.
            let j = x.0 in
            let s = ahead k j (omega (arith, x.1)) in
            (some_of-passing (in_window T L t a b) f T 1).1 (
              slot_of T L j,
              slot_pos T L loop j (omega (arith, x.1)),
              omega (arith, slot_le T L loop j),
              rw s at (window-at T L a b t (j - k) (omega (arith, x.1)) (omega (arith, x.2))),
              (e j (omega (arith, x.1))).0 x.3,
            ),
        λ x.
            let r = (some_of-passing (in_window T L t a b) f T 1).0 x in
            let d = at-window T L a b t r.0 r.3 in
            (k + d.0, omega (arith, d.1), omega (arith, d.2), (e (k + d.0) (omega arith)).1 (rw (← slot-ahead T L loop k d.0, d.3) r.4)),
      )
  window-holds throughout a b k l =
      let t = slot_of T L k in (
        λ x. (every_of-passing (in_window T L t a b) f T 1).1 (λ s u v y.
            let d = at-window T L a b t s y in
            rw (← slot-ahead T L loop k d.0, d.3) at ((e (k + d.0) (omega arith)).0 (x (k + d.0) (omega (arith, d.1)) (omega (arith, d.2))))),
        λ x j u v.
            let s = ahead k j (omega arith) in
            (e j (omega arith)).1
            ((every_of-passing (in_window T L t a b) f T 1).0 x (slot_of T L j) (slot_pos T L loop j (omega arith)) (omega (arith, slot_le T L loop j))
            (rw s at (window-at T L a b t (j - k) (omega arith) (omega arith)))),
      )

-- ---- all rules

module _ (T L : ℕ) (loop : LoopAllowed T L) (w : Endless) (on : ℕ → ℕ → Bool) (h : (k a : ℕ) → w k a ↔ Is (on (slot_of T L k) a)) where
  abbrev δ : ℕ → ℕ
  δ = distance T L loop

  -- by the distance from the last slot
  by-distance : (P : ℕ → Type 0) (f : ℕ → Bool) → ((k : ℕ) → 1 ≤ k → P k ↔ Is (f (slot_of T L k))) → (k : ℕ) → 1 ≤ k → P k ↔ Is (f (T - δ k))
  by-distance P f e k l = rw (distance_back T L loop k) (e k l)

  from-holds : (p : Rule) (k : ℕ) → 1 ≤ k → Holds w p k ↔ Is (truth_at T L on p (slot_of T L k))
  from-holds (atom a) k l = h k a
  from-holds (unary u p) k l =
      unary-holds δ (T - L) (distance_next T L loop) (distance-last T L loop) (Holds w p) (λ d. truth_at T L on p (T - d))
      (by-distance (Holds w p) (truth_at T L on p) (from-holds p)) u k l
  from-holds (binary o p q) k l =
      binary-holds δ (T - L) (distance_next T L loop) (distance-last T L loop) (Holds w p) (Holds w q) (λ d. truth_at T L on p (T - d))
      (λ d. truth_at T L on q (T - d))
      (by-distance (Holds w p) (truth_at T L on p) (from-holds p)) (by-distance (Holds w q) (truth_at T L on q) (from-holds q)) o k l
  from-holds (windowed i a b p) k l = window-holds T L loop (Holds w p) (truth_at T L on p) (from-holds p) i a b k l

bit_iff : (x : ℕ) → (x ≡ 1) ↔ Is (eqb x 1)
bit_iff x = (λ h. rw h tt, λ t. eqb→eq x 1 t)

module _ (T L : ℕ) (loop : LoopAllowed T L) (run : List ℕ) (p : Rule) where
  time_holds : (k : ℕ) → 1 ≤ k → Holds (endless T L run) p k ↔ Is (truth_at T L (bit_set run) p (slot_of T L k))
  time_holds k l = from-holds T L loop (endless T L run) (bit_set run) (λ i a. bit_iff (bit_at run (slot_of T L i) a)) p k l

  -- the computed truth is the truth
  pub truth-holds : (t : ℕ) → 1 ≤ t → t ≤ T → Holds (endless T L run) p t ↔ Is (truth T L run p t)
  unfolding truth
  truth-holds t l u = rw (slot_is T L loop t u) at (time_holds t l)

  -- a rule holds at a time exactly where it holds at the time's slot
  pub counts_as : (k : ℕ) → 1 ≤ k → Holds (endless T L run) p k ↔ Holds (endless T L run) p (slot_of T L k)
  counts_as k l =
      let slot = slot_is T L loop (slot_of T L k) (slot_le T L loop k) in
      Iff.trans (time_holds k l) (Iff.symm (rw slot at (time_holds (slot_of T L k) (slot_pos T L loop k l))))

-- ---- F, G and U kept to the slots from t to T, as V has them

module _ (T : ℕ) (F G : ℕ → Type 0) (f g : ℕ → Bool) (b : (k : ℕ) → 1 ≤ k → k ≤ T → F k ↔ Is (f (T - k)))
    (e : (k : ℕ) → 1 ≤ k → k ≤ T → G k ↔ Is (g (T - k))) where
  kept-at : (k d : ℕ) → k + d ≡ T → T - k ≡ d
  kept-at k d p = omega arith

  abbrev KeptSome : ℕ → Type 0
  KeptSome k = (j : ℕ) × (k ≤ j) × (j ≤ T) × G j

  kept-some-sound : (d k : ℕ) → 1 ≤ k → k + d ≡ T → Is (unary_from eventually g d) → KeptSome k
  kept-some-sound zero k h p t = (k, omega arith, omega arith, (e k h (omega arith)).1 (rw (kept-at k 0 p) t))
  kept-some-sound (suc d) k h p t = ⊎_elim {C = KeptSome k} (λ s. (k, omega arith, omega arith, (e k h (omega arith)).1 (rw (kept-at k (suc d) p) s)))
      (λ s. let r = kept-some-sound d (suc k) (omega arith) (omega arith) s in (r.0, omega (arith, r.1), r.2, r.3))
      (or_cases (g (suc d)) (unary_from eventually g d) t)

  kept-some_full : (d k j : ℕ) → 1 ≤ k → k + d ≡ T → k ≤ j → j ≤ T → G j → Is (unary_from eventually g d)
  kept-some_full zero k j h p u v x = rw (kept-at k 0 p) at ((e k h (omega arith)).0 (subst G (omega arith) x))
  kept-some_full (suc d) k j h p u v x =
      ⊎_elim (λ z. or_left (g (suc d)) (unary_from eventually g d) (rw (kept-at k (suc d) p) at ((e k h (omega arith)).0 (rw z x))))
      (λ z. or_right (g (suc d)) (unary_from eventually g d) (kept-some_full d (suc k) j (omega arith) (omega arith) z v x)) (eq-or-lt_of_le u)

  kept-every-sound : (d k j : ℕ) → 1 ≤ k → k + d ≡ T → k ≤ j → j ≤ T → Is (unary_from always g d) → G j
  kept-every-sound zero k j h p u v t = subst G (omega arith) ((e k h (omega arith)).1 (rw (kept-at k 0 p) t))
  kept-every-sound (suc d) k j h p u v t =
      ⊎_elim (λ z. subst G z ((e k h (omega arith)).1 (rw (kept-at k (suc d) p) (and_left (g (suc d)) (unary_from always g d) t))))
      (λ z. kept-every-sound d (suc k) j (omega arith) (omega arith) z v (and_right (g (suc d)) (unary_from always g d) t)) (eq-or-lt_of_le u)

  kept-every_full : (d k : ℕ) → 1 ≤ k → k + d ≡ T → ((j : ℕ) → k ≤ j → j ≤ T → G j) → Is (unary_from always g d)
  kept-every_full zero k h p x = rw (kept-at k 0 p) at ((e k h (omega arith)).0 (x k (omega arith) (omega arith)))
  kept-every_full (suc d) k h p x = and_both (g (suc d)) (unary_from always g d)
      (rw (kept-at k (suc d) p) at ((e k h (omega arith)).0 (x k (omega arith) (omega arith))))
      (kept-every_full d (suc k) (omega arith) (omega arith) (λ j u v. x j (omega arith) v))

  abbrev KeptUntil : ℕ → Type 0
  KeptUntil k = (j : ℕ) × (k ≤ j) × (j ≤ T) × G j × ((i : ℕ) → k ≤ i → i < j → F i)

  kept-until-sound : (d k : ℕ) → 1 ≤ k → k + d ≡ T → Is (binary_from until f g d) → KeptUntil k
  kept-until-sound zero k h p t = (k, omega arith, omega arith, (e k h (omega arith)).1 (rw (kept-at k 0 p) t), λ i u v. absurd (omega arith))
  kept-until-sound (suc d) k h p t =
      ⊎_elim {C = KeptUntil k} (λ s. (k, omega arith, omega arith, (e k h (omega arith)).1 (rw (kept-at k (suc d) p) s), λ i u v. absurd (omega arith)))
      (λ s. let r = kept-until-sound d (suc k) (omega arith) (omega arith) (and_right (f (suc d)) (binary_from until f g d) s) in
      let x : F k = (b k h (omega arith)).1 (rw (kept-at k (suc d) p) (and_left (f (suc d)) (binary_from until f g d) s)) in
      (r.0, omega (arith, r.1), r.2, r.3, λ i u v. ⊎_elim (λ z. subst F z x) (λ z. r.4 i z v) (eq-or-lt_of_le u)))
      (or_cases (g (suc d)) (f (suc d) && binary_from until f g d) t)

  kept-until_full : (d k j : ℕ) → 1 ≤ k → k + d ≡ T → k ≤ j → j ≤ T → G j → ((i : ℕ) → k ≤ i → i < j → F i) → Is (binary_from until f g d)
  kept-until_full zero k j h p u v x y = rw (kept-at k 0 p) at ((e k h (omega arith)).0 (subst G (omega arith) x))
  kept-until_full (suc d) k j h p u v x y =
      ⊎_elim (λ z. or_left (g (suc d)) (f (suc d) && binary_from until f g d) (rw (kept-at k (suc d) p) at ((e k h (omega arith)).0 (rw z x))))
      (λ z. or_right (g (suc d)) (f (suc d) && binary_from until f g d)
      (and_both (f (suc d)) (binary_from until f g d) (rw (kept-at k (suc d) p) at ((b k h (omega arith)).0 (y k (omega arith) z)))
      (kept-until_full d (suc k) j (omega arith) (omega arith) z v x (λ i s r. y i (omega arith) r)))) (eq-or-lt_of_le u)

module _ (T L : ℕ) (loop : LoopAllowed T L) (run : List ℕ) where
  part-holds : (p : Rule) (k : ℕ) → 1 ≤ k → k ≤ T → Holds (endless T L run) p k ↔ Is (truth_at T L (bit_set run) p (T - (T - k)))
  unfolding truth
  part-holds p k l u = let z : T - (T - k) ≡ k = omega arith in rw z (truth-holds T L loop run p k l u)

  pub kept-holds : (p : Rule) (t : ℕ) → 1 ≤ t → t ≤ T → HoldsKept T (endless T L run) p t ↔ Is (kept T L run p t)
  unfolding kept
  kept-holds (atom a) t l u = (λ x. x, λ x. x)
  kept-holds (windowed w a b p) t l u = (λ x. x, λ x. x)
  kept-holds (unary not p) t l u = (λ x. x, λ x. x)
  kept-holds (unary eventually p) t l u =
      let P = Holds (endless T L run) p in
      let f : ℕ → Bool = λ d. truth_at T L (bit_set run) p (T - d) in (
        λ x. kept-some_full T P P f f (part-holds p) (part-holds p) (T - t) t x.0 l (omega arith) x.1 x.2 x.3,
        λ x. kept-some-sound T P P f f (part-holds p) (part-holds p) (T - t) t l (omega arith) x,
      )
  kept-holds (unary always p) t l u =
      let P = Holds (endless T L run) p in
      let f : ℕ → Bool = λ d. truth_at T L (bit_set run) p (T - d) in (
        λ x. kept-every_full T P P f f (part-holds p) (part-holds p) (T - t) t l (omega arith) x,
        λ x j a c. kept-every-sound T P P f f (part-holds p) (part-holds p) (T - t) t j l (omega arith) a c x,
      )
  kept-holds (binary and p q) t l u = (λ x. x, λ x. x)
  kept-holds (binary or p q) t l u = (λ x. x, λ x. x)
  kept-holds (binary implies p q) t l u = (λ x. x, λ x. x)
  kept-holds (binary until p q) t l u =
      let P = Holds (endless T L run) p in
      let Q = Holds (endless T L run) q in
      let f : ℕ → Bool = λ d. truth_at T L (bit_set run) p (T - d) in
      let g : ℕ → Bool = λ d. truth_at T L (bit_set run) q (T - d) in (
        λ x. kept-until_full T P Q f g (part-holds p) (part-holds q) (T - t) t x.0 l (omega arith) x.1 x.2 x.3 x.4,
        λ x. kept-until-sound T P Q f g (part-holds p) (part-holds q) (T - t) t l (omega arith) x,
      )

-- ---- one slot at a time: a node's truth at a slot, from its parts there and its own truth at the next slot

-- `inner`: another slot follows
abbrev pub unary_now : Unary → (inner p e : Bool) → Bool
unary_now u inner p e = cond inner (unary_step u p e) (unary_last u p)

abbrev pub binary_now : Binary → (inner p q e : Bool) → Bool
binary_now o inner p q e = cond inner (binary_step o p q e) (binary_last o p q)

-- `on` has the atoms at slot t, `parts` the nodes at each slot, e the node itself at the next slot
abbrev pub node_now : (T L t : ℕ) → (on : ℕ → Bool) → (parts : ℕ → ℕ → Bool) → (e : Bool) → Node → Bool
node_now T L t on parts e (Node.atom a) = on a
node_now T L t on parts e (Node.unary u c) = unary_now u (goes_on T L t) (parts c t) e
node_now T L t on parts e (Node.binary o l r) = binary_now o (goes_on T L t) (parts l t) (parts r t) e
node_now T L t on parts e (Node.windowed w a b c) = window_now w (parts c) (window_slots T L t a b)

-- the V of a node
abbrev pub kept_now : (T t : ℕ) → (parts : ℕ → ℕ → Bool) → (e : Bool) → Node → Bool
kept_now T t parts e (Node.atom a) = false
kept_now T t parts e (Node.unary u c) = unary_now u (ltb t T) (parts c t) e
kept_now T t parts e (Node.binary o l r) = binary_now o (ltb t T) (parts l t) (parts r t) e
kept_now T t parts e (Node.windowed w a b c) = false

-- at the next slot, which after T is V's at L
abbrev pub next_truth : (T L : ℕ) → List ℕ → Rule → ℕ → Bool
next_truth T L run p t = cond (ltb t T) (truth T L run p (t + 1)) (kept T L run p L)

-- what follows the last slot counts only for what loops
unary-after : (u : Unary) (p e : Bool) → unary_step u p e ≡ unary_step u p (unary_loops u && e)
unary-after not p e = refl
unary-after eventually p e = refl
unary-after always p e = refl

binary-after : (o : Binary) (p q e : Bool) → binary_step o p q e ≡ binary_step o p q (binary_loops o && e)
binary-after and p q e = refl
binary-after or p q e = refl
binary-after implies p q e = refl
binary-after until p q e = refl

-- and nothing new where the last slot follows itself
unary_self : (u : Unary) (p : Bool) → unary_step u p (unary_last u p) ≡ unary_last u p
unary_self not p = refl
unary_self eventually true = refl
unary_self eventually false = refl
unary_self always true = refl
unary_self always false = refl

binary_self : (o : Binary) (p q : Bool) → binary_step o p q (binary_last o p q) ≡ binary_last o p q
binary_self and p q = refl
binary_self or p q = refl
binary_self implies p q = refl
binary_self until p true = refl
binary_self until true false = refl
binary_self until false false = refl

module _ (T L : ℕ) (t : ℕ) (high : t ≤ T) where
  -- the three places of a slot: another follows; the last, and L follows; the last, and it follows itself
  by-slot : (x : Bool) (step : Bool → Bool) (last a b : Bool) → (t < T → x ≡ step a) → (t ≡ T → L < T → x ≡ step b) → (t ≡ T → T ≤ L → x ≡ last) →
      x ≡ cond (ltb t T || ltb L T) (step (cond (ltb t T) a b)) last
  by-slot x step last a b f g h = go (ltb t T) (ltb L T) refl refl
    where
      go : (c d : Bool) → ltb t T ≡ c → ltb L T ≡ d → x ≡ cond (c || d) (step (cond c a b)) last
      go true d p q = f (ltb→lt t T (rw p tt))
      go false true p q = g (omega (arith, nltb→le t T (rw p tt))) (ltb→lt L T (rw q tt))
      go false false p q = h (omega (arith, nltb→le t T (rw p tt))) (nltb→le L T (rw q tt))

  -- of V: another slot follows, or not
  by_end : (x a b : Bool) → (t < T → x ≡ a) → (t ≡ T → x ≡ b) → x ≡ cond (ltb t T) a b
  by_end x a b f g = go (ltb t T) refl
    where
      go : (c : Bool) → ltb t T ≡ c → x ≡ cond c a b
      go true h = f (ltb→lt t T (rw h tt))
      go false h = g (omega (arith, nltb→le t T (rw h tt)))

  unary-from : (u : Unary) (f : ℕ → Bool) (d b : ℕ) → d ≡ suc b → unary_from u f d ≡ unary_step u (f d) (unary_from u f b)
  unary-from u f d b h = rw h refl

  unary-end : (u : Unary) (f : ℕ → Bool) (d : ℕ) → d ≡ 0 → unary_from u f d ≡ unary_last u (f d)
  unary-end u f d h = rw h refl

  binary-from : (o : Binary) (f g : ℕ → Bool) (d b : ℕ) → d ≡ suc b → binary_from o f g d ≡ binary_step o (f d) (g d) (binary_from o f g b)
  binary-from o f g d b h = rw h refl

  binary-end : (o : Binary) (f g : ℕ → Bool) (d : ℕ) → d ≡ 0 → binary_from o f g d ≡ binary_last o (f d) (g d)
  binary-end o f g d h = rw h refl

  unary-to : (u : Unary) (f : ℕ → Bool) (e : Bool) (d b : ℕ) → d ≡ suc b → unary_to u f e d ≡ unary_step u (f d) (unary_to u f e b)
  unary-to u f e d b h = rw h refl

  unary-last : (u : Unary) (f : ℕ → Bool) (e : Bool) (d : ℕ) → d ≡ 0 → unary_to u f e d ≡ unary_step u (f d) e
  unary-last u f e d h = rw h refl

  binary-to : (o : Binary) (f g : ℕ → Bool) (e : Bool) (d b : ℕ) → d ≡ suc b → binary_to o f g e d ≡ binary_step o (f d) (g d) (binary_to o f g e b)
  binary-to o f g e d b h = rw h refl

  binary-last : (o : Binary) (f g : ℕ → Bool) (e : Bool) (d : ℕ) → d ≡ 0 → binary_to o f g e d ≡ binary_step o (f d) (g d) e
  binary-last o f g e d h = rw h refl

  -- with L equal to T
  unary-flat : (u : Unary) (f : ℕ → Bool) (d c : ℕ) → d ≡ 0 → c ≡ 0 → unary_to u f (unary_from u f c) d ≡ unary_last u (f d)
  unary-flat u f d c h g = rw (h, g) (unary_self u (f 0))

  binary-flat : (o : Binary) (f g : ℕ → Bool) (d c : ℕ) → d ≡ 0 → c ≡ 0 → binary_to o f g (binary_from o f g c) d ≡ binary_last o (f d) (g d)
  binary-flat o f g d c h i = rw (h, i) (binary_self o (f 0) (g 0))

  here : T - (T - t) ≡ t
  here = omega arith

  module _ (run : List ℕ) (rule : ℕ → Rule) where
    abbrev part : ℕ → ℕ → Bool
    part c d = truth_at T L (bit_set run) (rule c) (T - d)

    part-here : (c : ℕ) → part c (T - t) ≡ truth_at T L (bit_set run) (rule c) t
    part-here c = ap (truth_at T L (bit_set run) (rule c)) here

    pub grow_now : (nd : Node) →
        truth T L run (grow rule nd) t ≡ node_now T L t (bit_set run t) (λ c. truth T L run (rule c)) (next_truth T L run (grow rule nd) t) nd
    unfolding truth kept
    grow_now (Node.atom a) = refl
    grow_now (Node.unary u c) =
        let f = part c in
        let e = unary_from u f (T - L) in
        rw (← part-here c)
        (by-slot (unary_to u f e (T - t)) (unary_step u (f (T - t))) (unary_last u (f (T - t))) (unary_to u f e (T - (t + 1))) (unary_loops u && e)
        (λ h. unary-to u f e (T - t) (T - (t + 1)) (omega arith)) (λ h i. unary-last u f e (T - t) (omega arith) ∙ unary-after u (f (T - t)) e)
        (λ h i. unary-flat u f (T - t) (T - L) (omega arith) (omega arith)))
    grow_now (Node.binary o l r) =
        let f = part l in
        let g = part r in
        let e = binary_from o f g (T - L) in
        rw (← part-here l, ← part-here r)
        (by-slot (binary_to o f g e (T - t)) (binary_step o (f (T - t)) (g (T - t))) (binary_last o (f (T - t)) (g (T - t))) (binary_to o f g e (T - (t + 1)))
        (binary_loops o && e)
        (λ h. binary-to o f g e (T - t) (T - (t + 1)) (omega arith))
        (λ h i. binary-last o f g e (T - t) (omega arith) ∙ binary-after o (f (T - t)) (g (T - t)) e)
        (λ h i. binary-flat o f g (T - t) (T - L) (omega arith) (omega arith)))
    grow_now (Node.windowed w a b c) = refl

    pub grow-kept : (nd : Node) → loops nd ≡ true →
        kept T L run (grow rule nd) t ≡ kept_now T t (λ c. truth T L run (rule c)) (kept T L run (grow rule nd) (t + 1)) nd
    unfolding truth kept
    grow-kept (Node.atom a) k = refl
    grow-kept (Node.unary u c) k =
        let f = part c in
        rw (k, ← part-here c)
        (by_end (unary_from u f (T - t)) (unary_step u (f (T - t)) (unary_from u f (T - (t + 1)))) (unary_last u (f (T - t)))
        (λ h. unary-from u f (T - t) (T - (t + 1)) (omega arith)) (λ h. unary-end u f (T - t) (omega arith)))
    grow-kept (Node.binary o l r) k =
        let f = part l in
        let g = part r in
        rw (k, ← part-here l, ← part-here r)
        (by_end (binary_from o f g (T - t)) (binary_step o (f (T - t)) (g (T - t)) (binary_from o f g (T - (t + 1)))) (binary_last o (f (T - t)) (g (T - t)))
        (λ h. binary-from o f g (T - t) (T - (t + 1)) (omega arith)) (λ h. binary-end o f g (T - t) (omega arith)))
    grow-kept (Node.windowed w a b c) k = refl

-- node n of a table whose nodes are good
module _ (T M L : ℕ) (run : List ℕ) (ns : List Node) (good : (n : ℕ) → n < length ns → NodeGood M n (node_at ns n)) (n t : ℕ)
    (h : n < length ns) (u : t ≤ T) where
  rule-is : rule_at ns n ≡ grow (rule_at ns) (node_at ns n)
  rule-is = rule_at-is M ns good n h

  pub truth_now : truth T L run (rule_at ns n) t
      ≡ node_now T L t (bit_set run t) (λ c. truth T L run (rule_at ns c)) (next_truth T L run (rule_at ns n) t) (node_at ns n)
  truth_now =
      ap (λ (r : Rule). truth T L run r t) rule-is ∙ grow_now T L t u run (rule_at ns) (node_at ns n)
      ∙ ap (λ (r : Rule). node_now T L t (bit_set run t) (λ c. truth T L run (rule_at ns c)) (next_truth T L run r t) (node_at ns n)) (sym rule-is)

  pub kept-now : loops (node_at ns n) ≡ true →
      kept T L run (rule_at ns n) t ≡ kept_now T t (λ c. truth T L run (rule_at ns c)) (kept T L run (rule_at ns n) (t + 1)) (node_at ns n)
  kept-now k =
      ap (λ (r : Rule). kept T L run r t) rule-is ∙ grow-kept T L t u run (rule_at ns) (node_at ns n) k
      ∙ ap (λ (r : Rule). kept_now T t (λ c. truth T L run (rule_at ns c)) (kept T L run r (t + 1)) (node_at ns n)) (sym rule-is)
