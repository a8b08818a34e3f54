-- The numbers at which a test passes, lowest first; and tests of some and of every element of a list.
use Rattle.std.specs.Prelude.{◌≡◌, refl, Bool, true, false, cond, ◌&&◌, ◌||◌, ◌↔◌, List, [], ◌∷◌, ◌++◌, ℕ, zero, suc, ◌+◌, ◌-◌, ◌≤◌, ◌<◌, T as Is, ltb, length}
use Rattle.std.proofs.Common.{sym, ap, ap₂, ◌∙◌, ⊎_elim, append-nil, eq-or-lt_of_le, arith, lt-ltb, le-ltb}
use Rattle.lists.specs.Tests.{or_cases, or_left, or_right, and_left, and_right, and_both}
use Rattle.lists.specs.Every.{Every}
use Rattle.lists.specs.Tabulate.{tabulate, tabulate-same, tabulate-append}

-- of the k numbers from t on
abbrev pub passing : (ℕ → Bool) → (k t : ℕ) → List ℕ
passing f zero t = []
passing f (suc k) t = cond (f t) (t ∷ passing f k (t + 1)) (passing f k (t + 1))

abbrev pub some_of : (ℕ → Bool) → List ℕ → Bool
some_of f [] = false
some_of f (s ∷ l) = f s || some_of f l

abbrev pub every_of : (ℕ → Bool) → List ℕ → Bool
every_of f [] = true
every_of f (s ∷ l) = f s && every_of f l

module _ (h : ℕ → Bool) where
  -- what holds of every number that passes
  pub every-passing : (R : ℕ → Type 0) (k t : ℕ) → ((s : ℕ) → t ≤ s → s < t + k → Is (h s) → R s) → Every R (passing h k t)
  every-passing R zero t f = tt
  every-passing R (suc k) t f = go (h t) refl (every-passing R k (t + 1) (λ s u v. f s (omega arith) (omega arith)))
    where
      go : (b : Bool) → h t ≡ b → Every R (passing h k (t + 1)) → Every R (cond b (t ∷ passing h k (t + 1)) (passing h k (t + 1)))
      go true e r = (f t (omega arith) (omega arith) (rw e tt), r)
      go false e r = r

  pub passing-every : (R : ℕ → Type 0) (k t : ℕ) → Every R (passing h k t) → (s : ℕ) → t ≤ s → s < t + k → Is (h s) → R s
  passing-every R zero t a s u v x = absurd (omega arith)
  passing-every R (suc k) t a s u v x = go (h t) refl a (λ b l. passing-every R k (t + 1) b s (omega arith) (omega arith) x)
    where
      go : (b : Bool) → h t ≡ b → Every R (cond b (t ∷ passing h k (t + 1)) (passing h k (t + 1))) → (Every R (passing h k (t + 1)) → t < s → R s) → R s
      go true e a f = ⊎_elim (λ z. rw (← z) a.0) (λ z. f a.1 z) (eq-or-lt_of_le u)
      go false e a f = ⊎_elim (λ z. absurd (rw e at (rw (← z) at x))) (λ z. f a z) (eq-or-lt_of_le u)

-- ---- the tests

pub every_of_iff : (f : ℕ → Bool) (l : List ℕ) → Is (every_of f l) ↔ Every (λ s. Is (f s)) l
every_of_iff f [] = (λ t. t, λ t. t)
every_of_iff f (s ∷ l) = (
  λ t. (and_left (f s) (every_of f l) t, (every_of_iff f l).0 (and_right (f s) (every_of f l) t)),
  λ h. and_both (f s) (every_of f l) h.0 ((every_of_iff f l).1 h.1),
)

module _ (h f : ℕ → Bool) where
  pub every_of-passing : (k t : ℕ) → Is (every_of f (passing h k t)) ↔ ((s : ℕ) → t ≤ s → s < t + k → Is (h s) → Is (f s))
  every_of-passing k t = (
    λ x. passing-every h (λ s. Is (f s)) k t ((every_of_iff f (passing h k t)).0 x),
    λ x. (every_of_iff f (passing h k t)).1 (every-passing h (λ s. Is (f s)) k t x),
  )

  abbrev Found : (k t : ℕ) → Type 0
  Found k t = (s : ℕ) × (t ≤ s) × (s < t + k) × Is (h s) × Is (f s)

  found : (k t : ℕ) → Is (some_of f (passing h k t)) → Found k t
  found zero t x = absurd x
  found (suc k) t x = go (h t) refl x (λ y. let r = found k (t + 1) y in (r.0, omega (arith, r.1), omega (arith, r.2), r.3, r.4))
    where
      go : (b : Bool) → h t ≡ b → Is (some_of f (cond b (t ∷ passing h k (t + 1)) (passing h k (t + 1)))) →
          (Is (some_of f (passing h k (t + 1))) → Found (suc k) t) → Found (suc k) t
      go true e x g = ⊎_elim (λ y. (t, omega arith, omega arith, rw e tt, y)) g (or_cases (f t) (some_of f (passing h k (t + 1))) x)
      go false e x g = g x

  find : (k t s : ℕ) → t ≤ s → s < t + k → Is (h s) → Is (f s) → Is (some_of f (passing h k t))
  find zero t s u v x y = absurd (omega arith)
  find (suc k) t s u v x y = go (h t) refl (λ l. find k (t + 1) s (omega arith) (omega arith) x y)
    where
      go : (b : Bool) → h t ≡ b → (t < s → Is (some_of f (passing h k (t + 1)))) → Is (some_of f (cond b (t ∷ passing h k (t + 1)) (passing h k (t + 1))))
      go true e g =
          ⊎_elim (λ z. or_left (f t) (some_of f (passing h k (t + 1))) (rw z y)) (λ z. or_right (f t) (some_of f (passing h k (t + 1))) (g z))
          (eq-or-lt_of_le u)
      go false e g = ⊎_elim (λ z. absurd (rw e at (rw (← z) at x))) g (eq-or-lt_of_le u)

  pub some_of-passing : (k t : ℕ) → Is (some_of f (passing h k t)) ↔ Found k t
  some_of-passing k t = (found k t, λ r. find k t r.0 r.1 r.2 r.3 r.4)

pub passing-length : (h : ℕ → Bool) (k t : ℕ) → length (passing h k t) ≤ k
passing-length h zero t = omega arith
passing-length h (suc k) t = go (h t) (passing-length h k (t + 1))
  where
    go : (b : Bool) → length (passing h k (t + 1)) ≤ k → length (cond b (t ∷ passing h k (t + 1)) (passing h k (t + 1))) ≤ suc k
    go true r = omega arith
    go false r = omega arith

-- one that passes
pub passing-some : (h : ℕ → Bool) (k t s : ℕ) → t ≤ s → s < t + k → Is (h s) → 1 ≤ length (passing h k t)
passing-some h zero t s u v x = absurd (omega arith)
passing-some h (suc k) t s u v x = go (h t) refl (λ l. passing-some h k (t + 1) s (omega arith) (omega arith) x)
  where
    go : (b : Bool) → h t ≡ b → (t < s → 1 ≤ length (passing h k (t + 1))) → 1 ≤ length (cond b (t ∷ passing h k (t + 1)) (passing h k (t + 1)))
    go true e g = omega arith
    go false e g = ⊎_elim (λ z. absurd (rw e at (rw (← z) at x))) g (eq-or-lt_of_le u)

-- ---- in parts: the first j numbers and the k after them; numbers of which none passes, and of which all do

pub passing-append : (h : ℕ → Bool) (j k t : ℕ) → passing h (j + k) t ≡ passing h j t ++ passing h k (t + j)
passing-append h zero k t = let e : zero + k ≡ k = omega arith in let f : t + zero ≡ t = omega arith in ap₂ (passing h) e (sym f)
passing-append h (suc j) k t =
    let e : suc j + k ≡ suc (j + k) = omega arith in
    let f : t + 1 + j ≡ t + suc j = omega arith in
    ap (λ (n : ℕ). passing h n t) e ∙ go (h t) (passing-append h j k (t + 1) ∙ ap (λ (n : ℕ). passing h j (t + 1) ++ passing h k n) f)
  where
    go : (b : Bool) → passing h (j + k) (t + 1) ≡ passing h j (t + 1) ++ passing h k (t + suc j) →
        cond b (t ∷ passing h (j + k) (t + 1)) (passing h (j + k) (t + 1)) ≡ cond b (t ∷ passing h j (t + 1)) (passing h j (t + 1)) ++ passing h k (t + suc j)
    go true e = ap (λ (l : List ℕ). t ∷ l) e
    go false e = e

pub passing-none : (h : ℕ → Bool) (k t : ℕ) → ((s : ℕ) → t ≤ s → s < t + k → h s ≡ false) → passing h k t ≡ []
passing-none h zero t f = refl
passing-none h (suc k) t f = rw (f t (omega arith) (omega arith)) (passing-none h k (t + 1) (λ s u v. f s (omega arith) (omega arith)))

pub passing-all : (h : ℕ → Bool) (k t : ℕ) → ((s : ℕ) → t ≤ s → s < t + k → h s ≡ true) → passing h k t ≡ tabulate k (λ i. t + i)
passing-all h zero t f = refl
passing-all h (suc k) t f =
    rw (f t (omega arith) (omega arith))
    (ap₂ ◌∷◌ (omega arith)
    (passing-all h k (t + 1) (λ s u v. f s (omega arith) (omega arith)) ∙ tabulate-same k (λ i. t + 1 + i) (λ i. t + suc i) (λ i g. omega arith)))

-- ---- numbers that pass in two ranges: the first `head` of them from `first` on, the others after `skip` numbers that do not

abbrev pub in_ranges : (first head skip i : ℕ) → ℕ
in_ranges first head skip i = first + i + cond (ltb i head) 0 skip

module _ (h : ℕ → Bool) (k first head skip tail : ℕ) (low : 1 ≤ first) (high : first + head + skip + tail ≤ k + 1)
    (in_head : (s : ℕ) → first ≤ s → s < first + head → h s ≡ true)
    (in_Tail : (s : ℕ) → first + head + skip ≤ s → s < first + head + skip + tail → h s ≡ true)
    (before : (s : ℕ) → 1 ≤ s → s < first → h s ≡ false)
    (between : (s : ℕ) → first + head ≤ s → s < first + head + skip → h s ≡ false)
    (behind : (s : ℕ) → first + head + skip + tail ≤ s → s ≤ k → h s ≡ false) where
  head-part : (n : ℕ) → passing h (head + n) first ≡ tabulate head (in_ranges first head skip) ++ passing h n (first + head)
  head-part n =
      passing-append h head n first
      ∙ ap (λ (l : List ℕ). l ++ passing h n (first + head))
      (passing-all h head first (λ s u v. in_head s u v) ∙ tabulate-same head (λ i. first + i) (in_ranges first head skip)
      (λ i g. rw (lt-ltb i head g) (omega arith)))

  tail_part : (n : ℕ) → passing h (tail + n) (first + head + skip) ≡
      tabulate tail (λ i. in_ranges first head skip (head + i)) ++ passing h n (first + head + skip + tail)
  tail_part n =
      passing-append h tail n (first + head + skip)
      ∙ ap (λ (l : List ℕ). l ++ passing h n (first + head + skip + tail))
      (passing-all h tail (first + head + skip) (λ s u v. in_Tail s u v)
      ∙ tabulate-same tail (λ i. first + head + skip + i) (λ i. in_ranges first head skip (head + i))
      (λ i g. rw (le-ltb (head + i) head (omega arith)) (omega arith)))

  pub passing-ranges : passing h k 1 ≡ tabulate (head + tail) (in_ranges first head skip)
  passing-ranges =
      let rest = k + 1 - (first + head + skip + tail) in
      let e : k ≡ first - 1 + (head + (skip + (tail + rest))) = omega arith in
      let f : 1 + (first - 1) ≡ first = omega arith in
      ap (λ (n : ℕ). passing h n 1) e
      ∙ passing-append h (first - 1) (head + (skip + (tail + rest))) 1
      ∙ ap₂ ◌++◌ (passing-none h (first - 1) 1 (λ s u v. before s u (omega arith))) (ap (passing h (head + (skip + (tail + rest)))) f)
      ∙ head-part (skip + (tail + rest))
      ∙ ap (λ (l : List ℕ). tabulate head (in_ranges first head skip) ++ l)
      (passing-append h skip (tail + rest) (first + head)
      ∙ ap (λ (l : List ℕ). l ++ passing h (tail + rest) (first + head + skip)) (passing-none h skip (first + head) (λ s u v. between s u v))
      ∙ tail_part rest
      ∙ ap (λ (l : List ℕ). tabulate tail (λ i. in_ranges first head skip (head + i)) ++ l)
      (passing-none h rest (first + head + skip + tail) (λ s u v. behind s u (omega arith)))
      ∙ append-nil _)
      ∙ sym (tabulate-append head tail (in_ranges first head skip))
