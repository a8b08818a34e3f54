-- How often a node's parts stand in its rows, family by family: the variables that N7 counts are the node's parts, each as often as it is a part.
use Rattle.std.specs.Prelude.{◌≡◌, refl, Bool, true, false, cond, List, [], ◌∷◌, ◌++◌, map, ℕ, zero, suc, ◌+◌, ◌-◌, ◌*◌, ◌≤◌, ◌<◌, max, T as Is, eqb, length, pos, neg_ℤ}
use Rattle.std.proofs.Common.{sym, ap, subst, ◌∙◌, ⊎_elim, eq-or-lt_of_le, arith, eqb→eq}
use Rattle.std.proofs.Math.Dec.{eqb_refl}
use Rattle.lists.specs.Every.{Every}
use Rattle.rules.specs.Rule.{Window}
use Rattle.rules.specs.Rule.Window.{within, throughout}
use Rattle.rules.specs.Rows.{Row, plus, minus, ge, same_rows, not_rows, and_rows, or_rows, implies_rows, until_rows, window_rows}
use Rattle.rules.specs.ErrorFigure.{times, most, others}
use Rattle.rules.specs.Errors.Sums.{sum_over}

-- how often v stands in a list of variables
abbrev pub stands : (v : ℕ) → List ℕ → ℕ
stands v ps = sum_over (λ p. cond (eqb v p) 1 0) ps

-- ---- sums over all variables

eqb-other : (v p : ℕ) → (v ≡ p → ⊥) → eqb v p ≡ false
eqb-other v p f = go (eqb v p) refl
  where
    go : (b : Bool) → eqb v p ≡ b → eqb v p ≡ false
    go true e = absurd (f (eqb→eq v p (rw e tt)))
    go false e = e

other-eqb : (v p : ℕ) → eqb v p ≡ false → v ≡ p → ⊥
other-eqb v p e z = rw e at (subst (λ (x : ℕ). Is (eqb v x)) z (eqb_refl v))

module _ (f : ℕ → ℕ) where
  -- the sum, over the variables below k, of their figures as often as they stand in ps
  abbrev tally : List ℕ → ℕ → ℕ
  tally ps zero = 0
  tally ps (suc v) = tally ps v + stands v ps * f v

  tally-none : (k : ℕ) → tally [] k ≡ 0
  tally-none zero = refl
  tally-none (suc k) = omega (arith, tally-none k)

  tally_cons : (p : ℕ) (ps : List ℕ) (k : ℕ) → tally (p ∷ ps) k ≡ tally (p ∷ []) k + tally ps k
  tally_cons p ps zero = refl
  tally_cons p ps (suc k) = omega (arith, tally_cons p ps k)

  tally-past : (p k : ℕ) → k ≤ p → tally (p ∷ []) k ≡ 0
  tally-past p zero h = refl
  tally-past p (suc k) h = rw (eqb-other k p (λ e. omega arith)) (omega (arith, tally-past p k (omega arith)))

  tally-one : (p k : ℕ) → p < k → tally (p ∷ []) k ≡ f p
  tally-one p zero h = absurd (omega arith)
  tally-one p (suc k) h = go (eqb k p) refl (tally-one p k)
    where
      go : (b : Bool) → eqb k p ≡ b → (p < k → tally (p ∷ []) k ≡ f p) → tally (p ∷ []) k + (cond b 1 0 + 0) * f k ≡ f p
      go true e rest = let z = eqb→eq k p (rw e tt) in omega (arith, tally-past p k (omega arith), ap f z)
      go false e rest =
          omega (arith, rest (⊎_elim (λ z. absurd (other-eqb k p e (sym z))) (λ l. l) (eq-or-lt_of_le {n = p} {m = k} (omega arith))))

  tally-sum : (k : ℕ) (ps : List ℕ) → Every (λ p. p < k) ps → tally ps k ≡ sum_over f ps
  tally-sum k [] h = tally-none k
  tally-sum k (p ∷ ps) h = omega (arith, tally_cons p ps k, tally-one p k h.0, tally-sum k ps h.1)

stands-none : (P : ℕ) (ps : List ℕ) → Every (λ p. P ≡ p → ⊥) ps → stands P ps ≡ 0
stands-none P [] h = refl
stands-none P (p ∷ ps) h = rw (eqb-other P p h.0) (omega (arith, stands-none P ps h.1))

-- the rows of P have the variables ps beside P, each in one of the rows as often as in ps, and in none more often
abbrev pub Counts : (P : ℕ) → List Row → List ℕ → Type 0
Counts P rs ps = (v : ℕ) → (v ≡ P → ⊥) → most v rs ≡ stands v ps

-- the sum that N7 asks for is the sum over the parts
pub others-parts : (f : ℕ → ℕ) (P : ℕ) (rs : List Row) (ps : List ℕ) → Counts P rs ps → (k : ℕ) → Every (λ p. p < k) ps → Every (λ p. P ≡ p → ⊥) ps →
    others f P rs k ≡ sum_over f ps
others-parts f P rs ps count k low other = same k ∙ tally-sum f k ps low
  where
    term : (v : ℕ) (b : Bool) → eqb v P ≡ b → cond b 0 (most v rs * f v) ≡ stands v ps * f v
    term v true e = let z = eqb→eq v P (rw e tt) in rw (z, stands-none P ps other) (omega arith)
    term v false e = ap (λ (n : ℕ). n * f v) (count v (other-eqb v P e))

    same : (k : ℕ) → others f P rs k ≡ tally f ps k
    same zero = refl
    same (suc v) = omega (arith, same v, term v (eqb v P) refl)

-- ---- the families

-- v stands in P's place nowhere
module _ (P v : ℕ) (other : v ≡ P → ⊥) where
  abbrev here : ℕ → ℕ
  here p = cond (eqb v p) 1 0

  not-here : here P ≡ 0
  not-here = rw (eqb-other v P other)

  most-append : (a b : List Row) → most v (a ++ b) ≡ max (most v a) (most v b)
  most-append [] b = omega arith
  most-append (r ∷ a) b = omega (arith, most-append a b)

  times-plus : (w : ℕ → ℕ) (ss : List ℕ) → times v (map (λ s. plus (w s)) ss ++ (minus P ∷ [])) ≡ stands v (map w ss)
  times-plus w [] = omega (arith, not-here)
  times-plus w (s ∷ ss) = omega (arith, times-plus w ss)

  times-minus : (w : ℕ → ℕ) (ss : List ℕ) → times v (map (λ s. minus (w s)) ss) ≡ stands v (map w ss)
  times-minus w [] = refl
  times-minus w (s ∷ ss) = omega (arith, times-minus w ss)

  most-each : (w : ℕ → ℕ) (ss : List ℕ) → most v (map (λ s. ge (plus P ∷ minus (w s) ∷ []) (pos 0)) ss) ≤ stands v (map w ss)
  most-each w [] = omega arith
  most-each w (s ∷ ss) = omega (arith, not-here, most-each w ss)

  each-most : (w : ℕ → ℕ) (ss : List ℕ) → most v (map (λ s. ge (plus (w s) ∷ minus P ∷ []) (pos 0)) ss) ≤ stands v (map w ss)
  each-most w [] = omega arith
  each-most w (s ∷ ss) = omega (arith, not-here, each-most w ss)

module _ (P : ℕ) where
  count-some : (w : ℕ → ℕ) (ss : List ℕ) → Counts P (window_rows within P w ss) (map w ss)
  count-some w ss v other =
      most-append P v other (map (λ s. ge (plus P ∷ minus (w s) ∷ []) (pos 0)) ss) (ge (map (λ s. plus (w s)) ss ++ (minus P ∷ [])) (pos 0) ∷ [])
      ∙ omega (arith, times-plus P v other w ss, most-each P v other w ss)

  count-every : (w : ℕ → ℕ) (ss : List ℕ) → Counts P (window_rows throughout P w ss) (map w ss)
  count-every w ss v other =
      most-append P v other (map (λ s. ge (plus (w s) ∷ minus P ∷ []) (pos 0)) ss) (ge (plus P ∷ map (λ s. minus (w s)) ss) (neg_ℤ (pos (length ss - 1))) ∷ [])
      ∙ omega (arith, not-here P v other, times-minus P v other w ss, each-most P v other w ss)

  pub count-window : (w : Window) (v : ℕ → ℕ) (ss : List ℕ) → Counts P (window_rows w P v ss) (map v ss)
  count-window within v ss = count-some v ss
  count-window throughout v ss = count-every v ss

  pub count_same : (p : ℕ) → Counts P (same_rows P p) (p ∷ [])
  count_same p v other = omega (arith, not-here P v other)

  pub count-not : (p : ℕ) → Counts P (not_rows P p) (p ∷ [])
  count-not p v other = omega (arith, not-here P v other)

  pub count-or : (p q : ℕ) → Counts P (or_rows P p q) (p ∷ q ∷ [])
  count-or p q v other = omega (arith, not-here P v other)

  pub count-and : (p q : ℕ) → Counts P (and_rows P p q) (p ∷ q ∷ [])
  count-and p q v other = omega (arith, not-here P v other)

  pub count_implies : (p q : ℕ) → Counts P (implies_rows P p q) (p ∷ q ∷ [])
  count_implies p q v other = omega (arith, not-here P v other)

  -- P' is neither of the parts
  pub count-until : (p q P' : ℕ) → (P' ≡ p → ⊥) → (P' ≡ q → ⊥) → Counts P (until_rows P p q P') (p ∷ q ∷ P' ∷ [])
  count-until p q P' f g v other = omega (arith, not-here P v other, apart p f, apart q g)
    where
      apart : (p : ℕ) → (P' ≡ p → ⊥) → cond (eqb v p) 1 0 + cond (eqb v P') 1 0 ≤ 1
      apart p f = go (eqb v p) (eqb v P') refl refl
        where
          go : (a b : Bool) → eqb v p ≡ a → eqb v P' ≡ b → cond a 1 0 + cond b 1 0 ≤ 1
          go true true x y = absurd (f (sym (eqb→eq v P' (rw y tt)) ∙ eqb→eq v p (rw x tt)))
          go true false x y = omega arith
          go false true x y = omega arith
          go false false x y = omega arith
