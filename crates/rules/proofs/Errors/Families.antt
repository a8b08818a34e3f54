-- The families of rows within a tolerance: where a node's rows hold within e, its figure is as near to its truth as e and the distances of its parts,
-- added up. `v` has the variables of the parts, `k` their distances, `b` their truths.
use Rattle.std.specs.Prelude.{◌≡◌, refl, Bool, true, false, not as notb, ◌&&◌, ◌||◌, List, [], ◌∷◌, ◌++◌, map, ℕ, zero, suc, ◌+◌, ◌-◌, ◌*◌, ◌≤◌, length, pos, neg_ℤ}
use Rattle.std.proofs.Math.Bool.{or-false, and-true}
use Rattle.std.proofs.Common.{arith}
use Rattle.lists.specs.Every.{Every, every_append}
use Rattle.lists.specs.Passing.{some_of, every_of}
use Rattle.rules.specs.Rule.{Window}
use Rattle.rules.specs.Rule.Window.{within, throughout}
use Rattle.rules.specs.Rows.{plus, minus, ge, same_rows, not_rows, and_rows, or_rows, implies_rows, until_rows, window_rows}
use Rattle.rules.specs.Evaluation.{window_now}
use Rattle.rules.proofs.Solution.Families.{scale, up_neg, down_neg}
use Rattle.rules.specs.Errors.Sums.{sum_over}
use Rattle.rules.proofs.Errors.Naturals.{above, beneath, Held, Near}

-- ---- windows, for all widths together. "or" and "and" are those of two parts, F and G those of p and P'.

module _ (D e : ℕ) (u d : ℕ → ℕ) (P : ℕ) (top : u P ≤ D + d P + e) (bottom : d P ≤ u P + e) where
  module _ (v k : ℕ → ℕ) (b : ℕ → Bool) where
    abbrev ups : List ℕ → ℕ
    ups ss = sum_over (λ s. u (v s)) ss

    abbrev downs : List ℕ → ℕ
    downs ss = sum_over (λ s. d (v s)) ss

    abbrev Parts : List ℕ → Type 0
    Parts ss = Every (λ s. Near D u d (k s) (v s) (b s)) ss

    above-plus : (ss : List ℕ) → above u d (map (λ s. plus (v s)) ss ++ (minus P ∷ [])) ≡ ups ss + d P
    above-plus [] = omega arith
    above-plus (s ∷ ss) = omega (arith, above-plus ss)

    beneath-plus : (ss : List ℕ) → beneath u d (map (λ s. plus (v s)) ss ++ (minus P ∷ [])) ≡ downs ss + u P
    beneath-plus [] = omega arith
    beneath-plus (s ∷ ss) = omega (arith, beneath-plus ss)

    above-minus : (ss : List ℕ) → above u d (map (λ s. minus (v s)) ss) ≡ downs ss
    above-minus [] = omega arith
    above-minus (s ∷ ss) = omega (arith, above-minus ss)

    beneath-minus : (ss : List ℕ) → beneath u d (map (λ s. minus (v s)) ss) ≡ ups ss
    beneath-minus [] = omega arith
    beneath-minus (s ∷ ss) = omega (arith, beneath-minus ss)

    some-low : (ss : List ℕ) → Parts ss → Every (Held D e u d) (map (λ s. ge (plus P ∷ minus (v s) ∷ []) (pos 0)) ss) →
        scale D (some_of b ss) + d P ≤ u P + (e + sum_over k ss)
    some-low [] h r = omega arith
    some-low (s ∷ ss) h r = go (b s) h.0 (some-low ss h.1 r.1)
      where
        go : (c : Bool) → Near D u d (k s) (v s) c → scale D (some_of b ss) + d P ≤ u P + (e + sum_over k ss) →
            scale D (c || some_of b ss) + d P ≤ u P + (e + (k s + sum_over k ss))
        go true n rest = omega (arith, r.0)
        go false n rest = omega arith

    some-none : (ss : List ℕ) → Parts ss → some_of b ss ≡ false → ups ss ≤ downs ss + sum_over k ss
    some-none [] h f = omega arith
    some-none (s ∷ ss) h f = go (b s) h.0 f (some-none ss h.1)
      where
        go : (c : Bool) → Near D u d (k s) (v s) c → (c || some_of b ss) ≡ false → (some_of b ss ≡ false → ups ss ≤ downs ss + sum_over k ss) →
            ups (s ∷ ss) ≤ downs (s ∷ ss) + (k s + sum_over k ss)
        go true n g rest = let z : ◌≡◌ {A = ℕ} 0 1 = cc in absurd (omega arith)
        go false n g rest = omega (arith, rest g)

    near-some : (ss : List ℕ) → Parts ss → Every (Held D e u d) (window_rows within P v ss) → Near D u d (e + sum_over k ss) P (some_of b ss)
    near-some ss h r = go (some_of b ss) refl
      where
        rows : Every (Held D e u d) (map (λ s. ge (plus P ∷ minus (v s) ∷ []) (pos 0)) ss) ×
            Every (Held D e u d) (ge (map (λ s. plus (v s)) ss ++ (minus P ∷ [])) (pos 0) ∷ [])
        rows = (every_append (Held D e u d) (map (λ s. ge (plus P ∷ minus (v s) ∷ []) (pos 0)) ss)
            (ge (map (λ s. plus (v s)) ss ++ (minus P ∷ [])) (pos 0) ∷ [])).0 r

        go : (c : Bool) → some_of b ss ≡ c → Near D u d (e + sum_over k ss) P c
        go true f = let low = rw f at (some-low ss h rows.0) in (omega arith, omega arith)
        go false f = let low = rw f at (some-low ss h rows.0) in (omega (arith, rows.1.0, above-plus ss, beneath-plus ss, some-none ss h f), omega arith)

    every-high : (ss : List ℕ) → Parts ss → Every (Held D e u d) (map (λ s. ge (plus (v s) ∷ minus P ∷ []) (pos 0)) ss) →
        u P ≤ scale D (every_of b ss) + d P + (e + sum_over k ss)
    every-high [] h r = omega arith
    every-high (s ∷ ss) h r = go (b s) h.0 (every-high ss h.1 r.1)
      where
        go : (c : Bool) → Near D u d (k s) (v s) c → u P ≤ scale D (every_of b ss) + d P + (e + sum_over k ss) →
            u P ≤ scale D (c && every_of b ss) + d P + (e + (k s + sum_over k ss))
        go true n rest = omega arith
        go false n rest = omega (arith, r.0)

    every_full : (ss : List ℕ) → Parts ss → every_of b ss ≡ true → length ss * D + downs ss ≤ ups ss + sum_over k ss
    every_full [] h f = omega arith
    every_full (s ∷ ss) h f = go (b s) h.0 f (every_full ss h.1)
      where
        go : (c : Bool) → Near D u d (k s) (v s) c → (c && every_of b ss) ≡ true → (every_of b ss ≡ true → length ss * D + downs ss ≤ ups ss + sum_over k ss) →
            suc (length ss) * D + downs (s ∷ ss) ≤ ups (s ∷ ss) + (k s + sum_over k ss)
        go true n g rest = omega (arith, rest g)
        go false n g rest = let z : ◌≡◌ {A = ℕ} 0 1 = cc in absurd (omega arith)

    -- at least one part
    near-every : (s : ℕ) (ss : List ℕ) → Parts (s ∷ ss) → Every (Held D e u d) (window_rows throughout P v (s ∷ ss)) →
        Near D u d (e + sum_over k (s ∷ ss)) P (every_of b (s ∷ ss))
    near-every s ss h r = go (every_of b (s ∷ ss)) refl
      where
        rows : Every (Held D e u d) (map (λ s. ge (plus (v s) ∷ minus P ∷ []) (pos 0)) (s ∷ ss)) ×
            Every (Held D e u d) (ge (plus P ∷ map (λ s. minus (v s)) (s ∷ ss)) (neg_ℤ (pos (suc (length ss) - 1))) ∷ [])
        rows = (every_append (Held D e u d) (map (λ s. ge (plus (v s) ∷ minus P ∷ []) (pos 0)) (s ∷ ss))
            (ge (plus P ∷ map (λ s. minus (v s)) (s ∷ ss)) (neg_ℤ (pos (suc (length ss) - 1))) ∷ [])).0 r

        less : suc (length ss) - 1 ≡ length ss
        less = omega arith

        go : (c : Bool) → every_of b (s ∷ ss) ≡ c → Near D u d (e + sum_over k (s ∷ ss)) P c
        go true f =
            let high = rw f at (every-high (s ∷ ss) h rows.0) in
            let row = rw (less, up_neg (length ss), down_neg (length ss)) at rows.1.0 in
            (omega arith, omega (arith, row, above-minus (s ∷ ss), beneath-minus (s ∷ ss), every_full (s ∷ ss) h f))
        go false f = let high = rw f at (every-high (s ∷ ss) h rows.0) in (omega arith, omega arith)

    pub near-window : (w : Window) (ss : List ℕ) → 1 ≤ length ss → Parts ss → Every (Held D e u d) (window_rows w P v ss) →
        Near D u d (e + sum_over k ss) P (window_now w b ss)
    near-window within ss n h r = near-some ss h r
    near-window throughout [] n h r = absurd (omega arith)
    near-window throughout (s ∷ ss) n h r = near-every s ss h r

  -- ---- two parts

  abbrev pick : {A : Type 0} → A → A → ℕ → A
  pick x y zero = x
  pick x y (suc n) = y

  module _ (p q j k : ℕ) (b c : Bool) (h : Near D u d j p b) (g : Near D u d k q c) where
    pub near-or : Every (Held D e u d) (or_rows P p q) → Near D u d (e + (j + (k + 0))) P (b || c)
    near-or r = rw or-false at (near-some (pick p q) (pick j k) (pick b c) (0 ∷ 1 ∷ []) (h, (g, tt)) r)

    pub near-and : Every (Held D e u d) (and_rows P p q) → Near D u d (e + (j + (k + 0))) P (b && c)
    near-and r = rw and-true at (near-every (pick p q) (pick j k) (pick b c) 0 (1 ∷ []) (h, (g, tt)) r)

    pub near_implies : Every (Held D e u d) (implies_rows P p q) → Near D u d (e + (j + (k + 0))) P (notb b || c)
    near_implies r = go b c h g
      where
        go : (b c : Bool) → Near D u d j p b → Near D u d k q c → Near D u d (e + (j + (k + 0))) P (notb b || c)
        go true true h g = omega (arith, r)
        go true false h g = omega (arith, r)
        go false true h g = omega (arith, r)
        go false false h g = omega (arith, r)

    pub near-until : (P' l : ℕ) (x : Bool) → Near D u d l P' x → Every (Held D e u d) (until_rows P p q P') →
        Near D u d (e + (j + (k + (l + 0)))) P (c || (b && x))
    near-until P' l x f r = go b c x h g f
      where
        go : (b c x : Bool) → Near D u d j p b → Near D u d k q c → Near D u d l P' x → Near D u d (e + (j + (k + (l + 0)))) P (c || (b && x))
        go true true true h g f = omega (arith, r)
        go true true false h g f = omega (arith, r)
        go true false true h g f = omega (arith, r)
        go true false false h g f = omega (arith, r)
        go false true true h g f = omega (arith, r)
        go false true false h g f = omega (arith, r)
        go false false true h g f = omega (arith, r)
        go false false false h g f = omega (arith, r)

  -- ---- one part

  pub near_same : (p k : ℕ) (b : Bool) → Near D u d k p b → Every (Held D e u d) (same_rows P p) → Near D u d (e + (k + 0)) P b
  near_same p k b h r = omega (arith, r)

  pub near-not : (p k : ℕ) (b : Bool) → Near D u d k p b → Every (Held D e u d) (not_rows P p) → Near D u d (e + (k + 0)) P (notb b)
  near-not p k true h r = omega (arith, r)
  near-not p k false h r = omega (arith, r)
