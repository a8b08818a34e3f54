-- The words of a block, one pair after the other exchanged.
use Rattle.std.specs.Prelude.{◌≡◌, refl, Bool, true, false, cond, List, ◌⊎◌, ℕ, ◌+◌, ◌-◌, ◌*◌, ◌≤◌, ◌<◌, T as Is, ltb, length, get_or, set}
use Rattle.std.proofs.Common.{sym, ap, ap₂, subst, ◌∙◌, inl, inr, arith, lt-ltb, le-ltb, length-set, get_or-set_same, get_or-set_other}
use Rattle.std.proofs.Math.Decide.{dec_lt, ℕ_discrete}
use Rattle.lists.specs.Tests.{is_true}
use Rattle.evaluator_atoms.specs.Turning.{Turned, first_half, pair_of, pairs_for, need, low_of, high_of, Stage, PairAt, low-is, high_is, first-row}
use Rattle.evaluator_atoms.specs.Turning.{second-row, pair-needed, own-needed, high-needed, low-needed}

-- word i of the block c after its pair is exchanged
abbrev exchanged : (h mask : ℕ) (c : List ℕ) (i : ℕ) → ℕ
exchanged h mask c i = cond (first_half h i) (low_of h mask (get_or c i 0) (get_or c (i + h) 0)) (high_of h mask (get_or c (i - h) 0) (get_or c i 0))

-- d is the block c with its first k pairs exchanged
pub record Exchanged (h mask : ℕ) (c : List ℕ) (k : ℕ) (d : List ℕ) : Type 0 where
  pub long : length d ≡ 16
  pub at : (i : ℕ) → i < 16 → get_or d i 0 ≡ cond (ltb (pair_of h i) k) (exchanged h mask c i) (get_or c i 0)

module _ (h mask : ℕ) (s : Stage h mask) (c : List ℕ) where
  module _ (k i : ℕ) (d : List ℕ) (p : PairAt h k i) (x : Exchanged h mask c k d) where
    below : i < 16
    below = omega (arith, p.inside)

    -- the words of pair k are still as they were
    as_was : (r : ℕ) → r < 16 → pair_of h r ≡ k → get_or d r 0 ≡ get_or c r 0
    as_was r l e = x.at r l ∙ ap (λ (b : Bool). cond b (exchanged h mask c r) (get_or c r 0)) (le-ltb (pair_of h r) k (omega (arith, e)))

    low_was : get_or d i 0 ≡ get_or c i 0
    low_was = as_was i below p.own

    high_was : get_or d (i + h) 0 ≡ get_or c (i + h) 0
    high_was = as_was (i + h) p.inside ((first-row h mask s i below p.first).1 ∙ p.own)

    module _ (low high : ℕ) (low-is : low ≡ low_of h mask (get_or d i 0) (get_or d (i + h) 0)) (high_is : high ≡ high_of h mask (get_or d i 0) (get_or d (i + h) 0)) where
      apart : i ≡ i + h → ⊥
      apart e = omega (arith, s.some_half)

      at_low : get_or (set (set d i low) (i + h) high) i 0 ≡ exchanged h mask c i
      at_low =
          get_or-set_other (set d i low) (i + h) i high 0 apart ∙ get_or-set_same d i low 0 (omega (arith, x.long, below))
          ∙ low-is ∙ ap₂ (low_of h mask) low_was high_was
          ∙ ap (λ (b : Bool). cond b (low_of h mask (get_or c i 0) (get_or c (i + h) 0)) (high_of h mask (get_or c (i - h) 0) (get_or c i 0))) (sym p.first)

      at_high : get_or (set (set d i low) (i + h) high) (i + h) 0 ≡ exchanged h mask c (i + h)
      at_high =
          get_or-set_same (set d i low) (i + h) high 0 (omega (arith, x.long, length-set d i low, p.inside))
          ∙ high_is ∙ ap₂ (high_of h mask) (low_was ∙ ap (λ (r : ℕ). get_or c r 0) (let z : i ≡ i + h - h = omega arith in z)) high_was
          ∙ ap (λ (b : Bool). cond b (low_of h mask (get_or c (i + h) 0) (get_or c (i + h + h) 0))
          (high_of h mask (get_or c (i + h - h) 0) (get_or c (i + h) 0))) (sym p.second)

      elsewhere : (r : ℕ) → (pair_of h r ≡ k → ⊥) → get_or (set (set d i low) (i + h) high) r 0 ≡ get_or d r 0
      elsewhere r z =
          get_or-set_other (set d i low) (i + h) r high 0 (λ e. z (ap (pair_of h) e ∙ (first-row h mask s i below p.first).1 ∙ p.own))
          ∙ get_or-set_other d i r low 0 (λ e. z (ap (pair_of h) e ∙ p.own))

      pick : (r : ℕ) → r < 16 → Dec (pair_of h r ≡ k) → get_or (set (set d i low) (i + h) high) r 0 ≡ cond (ltb (pair_of h r) (k + 1))
          (exchanged h mask c r) (get_or c r 0)
      pick r l (yes z) = own (p.only r l z) ∙ sym
          (ap (λ (b : Bool). cond b (exchanged h mask c r) (get_or c r 0)) (lt-ltb (pair_of h r) (k + 1) (omega (arith, z))))
        where
          own : (r ≡ i) ⊎ (r ≡ i + h) → get_or (set (set d i low) (i + h) high) r 0 ≡ exchanged h mask c r
          own (inl e) = rw e at_low
          own (inr e) = rw e at_high
      pick r l (no z) =
          elsewhere r z ∙ x.at r l ∙ ap (λ (b : Bool). cond b (exchanged h mask c r) (get_or c r 0)) (same (dec_lt (pair_of h r) k))
        where
          same : Dec (pair_of h r < k) → ltb (pair_of h r) k ≡ ltb (pair_of h r) (k + 1)
          same (yes u) = lt-ltb (pair_of h r) k u ∙ sym (lt-ltb (pair_of h r) (k + 1) (omega arith))
          same (no u) = le-ltb (pair_of h r) k (omega arith) ∙ sym (le-ltb (pair_of h r) (k + 1) (omega arith))

      pub exchanged-more : Exchanged h mask c (k + 1) (set (set d i low) (i + h) high)
      exchanged-more = record {
        long = length-set (set d i low) (i + h) high ∙ length-set d i low ∙ x.long;
        at = λ r l. pick r l (ℕ_discrete (pair_of h r) k);
      }

  -- all pairs that are needed
  module _ (m : ℕ) (few : m ≤ 16) (d : List ℕ) (x : Exchanged h mask c (pairs_for h m) d) (f : ℕ → ℕ → Bool)
      (turned : (i : ℕ) → i < 16 → Is (need (2 * h) m i) → Turned f (2 * h) i (get_or c i 0)) where
    word-turned : (i : ℕ) → i < 16 → Is (need h m i) → (b : Bool) → first_half h i ≡ b → Turned f h i (exchanged h mask c i)
    word-turned i l t true e =
        let r = first-row h mask s i l e in
        rw e
        (low-is h mask s f i (get_or c i 0) (get_or c (i + h) 0) l e (turned i l (own-needed h mask s m i few l t))
        (turned (i + h) r.0 (high-needed h mask s m i few l t e)))
    word-turned i l t false e =
        let r = second-row h mask s i l e in
        let z : i - h + h ≡ i = omega (arith, r.0) in
        rw e
        (subst (λ (k : ℕ). Turned f h k (high_of h mask (get_or c (i - h) 0) (get_or c i 0))) z
        (high_is h mask s f (i - h) (get_or c (i - h) 0) (get_or c i 0) (omega arith) r.1
        (turned (i - h) (omega arith) (low-needed h mask s m i few l t e))
        (subst (λ (k : ℕ). Turned f (2 * h) k (get_or c i 0)) (sym z) (turned i l (own-needed h mask s m i few l t)))))

    pub all-turned : (i : ℕ) → i < 16 → Is (need h m i) → Turned f h i (get_or d i 0)
    all-turned i l t =
        let e : get_or d i 0 ≡ exchanged h mask c i =
        x.at i l ∙ ap (λ (b : Bool). cond b (exchanged h mask c i) (get_or c i 0))
        (is_true (ltb (pair_of h i) (pairs_for h m)) (pair-needed h mask s m i few l t)) in
        rw e (word-turned i l t (first_half h i) refl)
