-- The nodes that have a V, counted in order: the j-th of them, and how many stand before node n.
use Rattle.rules.specs.Solution.Looping.{looping_at, marks, nth}
use Rattle.std.specs.Prelude.{◌≡◌, refl, Bool, true, false, cond, List, [], ◌∷◌, ℕ, zero, suc, ◌+◌, ◌<◌, T as Is, length, get_or, take}
use Rattle.std.proofs.Common.{sym, ap, ap₂, ◌∙◌, add-one, arith}
use Rattle.std.proofs.lemmas.List.{length-map}
use Rattle.std.proofs.Math.ListN.{get_or-map}
use Rattle.lists.specs.Tests.{is_true}
use Rattle.rules.specs.Table.{Node, node_at}
use Rattle.rules.specs.Rows.{loops, looping}

-- ---- marks in a list: how many, how many before place n, and the place of the j-th

abbrev marked : List Bool → ℕ
marked [] = 0
marked (true ∷ l) = suc (marked l)
marked (false ∷ l) = marked l

abbrev before : List Bool → ℕ → ℕ
before [] n = 0
before (true ∷ l) zero = 0
before (true ∷ l) (suc n) = suc (before l n)
before (false ∷ l) zero = 0
before (false ∷ l) (suc n) = before l n

before_lt : (l : List Bool) (n : ℕ) → Is (get_or l n false) → before l n < marked l
before_lt [] n k = absurd k
before_lt (true ∷ l) zero k = omega arith
before_lt (true ∷ l) (suc n) k = omega (arith, before_lt l n k)
before_lt (false ∷ l) zero k = absurd k
before_lt (false ∷ l) (suc n) k = before_lt l n k

nth-before : (l : List Bool) (n : ℕ) → Is (get_or l n false) → nth l (before l n) ≡ n
nth-before [] n k = absurd k
nth-before (true ∷ l) zero k = refl
nth-before (true ∷ l) (suc n) k = ap suc (nth-before l n k)
nth-before (false ∷ l) zero k = absurd k
nth-before (false ∷ l) (suc n) k = ap suc (nth-before l n k)

nth_lt : (l : List Bool) (j : ℕ) → j < marked l → nth l j < length l
nth_lt [] j h = absurd (omega arith)
nth_lt (true ∷ l) zero h = omega arith
nth_lt (true ∷ l) (suc j) h = omega (arith, nth_lt l j (omega arith))
nth_lt (false ∷ l) j h = omega (arith, nth_lt l j h)

nth-marked : (l : List Bool) (j : ℕ) → j < marked l → Is (get_or l (nth l j) false)
nth-marked [] j h = absurd (omega arith)
nth-marked (true ∷ l) zero h = tt
nth-marked (true ∷ l) (suc j) h = nth-marked l j (omega arith)
nth-marked (false ∷ l) j h = nth-marked l j h

before-nth : (l : List Bool) (j : ℕ) → j < marked l → before l (nth l j) ≡ j
before-nth [] j h = absurd (omega arith)
before-nth (true ∷ l) zero h = refl
before-nth (true ∷ l) (suc j) h = ap suc (before-nth l j (omega arith))
before-nth (false ∷ l) j h = before-nth l j h

before-none : (l : List Bool) → before l 0 ≡ 0
before-none [] = refl
before-none (true ∷ l) = refl
before-none (false ∷ l) = refl

next-before : (l : List Bool) (n : ℕ) → n < length l → before l (suc n) ≡ cond (get_or l n false) (suc (before l n)) (before l n)
next-before [] n h = absurd (omega arith)
next-before (true ∷ l) zero h = ap suc (before-none l)
next-before (false ∷ l) zero h = before-none l
next-before (true ∷ l) (suc n) h = ap suc (next-before l n (omega arith)) ∙ go (get_or l n false)
  where
    go : (b : Bool) → suc (cond b (suc (before l n)) (before l n)) ≡ cond b (suc (suc (before l n))) (suc (before l n))
    go true = refl
    go false = refl
next-before (false ∷ l) (suc n) h = next-before l n (omega arith)

looping-marked : (ns : List Node) → looping ns ≡ marked (marks ns)
looping-marked [] = refl
looping-marked (nd ∷ ns) = go (loops nd) (looping-marked ns)
  where
    go : (b : Bool) → looping ns ≡ marked (marks ns) → cond b (suc (looping ns)) (looping ns) ≡ marked (b ∷ marks ns)
    go true e = ap suc e
    go false e = e

looping-before : (ns : List Node) (n : ℕ) → looping (take n ns) ≡ before (marks ns) n
looping-before [] zero = refl
looping-before [] (suc n) = refl
looping-before (nd ∷ ns) zero = go (loops nd)
  where
    go : (b : Bool) → 0 ≡ before (b ∷ marks ns) 0
    go true = refl
    go false = refl
looping-before (nd ∷ ns) (suc n) = go (loops nd) (looping-before ns n)
  where
    go : (b : Bool) → looping (take n ns) ≡ before (marks ns) n → cond b (suc (looping (take n ns))) (looping (take n ns)) ≡ before (b ∷ marks ns) (suc n)
    go true e = ap suc e
    go false e = e

mark_is : (ns : List Node) (n : ℕ) → get_or (marks ns) n false ≡ loops (node_at ns n)
mark_is ns n = get_or-map loops ns n (Node.atom 0)

mark_set : (ns : List Node) (n : ℕ) → loops (node_at ns n) ≡ true → Is (get_or (marks ns) n false)
mark_set ns n k = rw (mark_is ns n, k) tt

module _ (ns : List Node) where
  pub looping_lt : (n : ℕ) → loops (node_at ns n) ≡ true → looping (take n ns) < looping ns
  looping_lt n k = rw (looping-before ns n, looping-marked ns) (before_lt (marks ns) n (mark_set ns n k))

  pub at-looping : (n : ℕ) → loops (node_at ns n) ≡ true → looping_at ns (looping (take n ns)) ≡ n
  at-looping n k = ap (nth (marks ns)) (looping-before ns n) ∙ nth-before (marks ns) n (mark_set ns n k)

  pub looping-node : (j : ℕ) → j < looping ns → looping_at ns j < length ns
  looping-node j h = rw (length-map ns loops) at (nth_lt (marks ns) j (rw (looping-marked ns) at h))

  pub looping-loops : (j : ℕ) → j < looping ns → loops (node_at ns (looping_at ns j)) ≡ true
  looping-loops j h = is_true (loops (node_at ns (looping_at ns j))) (rw (mark_is ns (looping_at ns j)) at (nth-marked (marks ns) j (rw (looping-marked ns) at h)))

  pub looping-at : (j : ℕ) → j < looping ns → looping (take (looping_at ns j) ns) ≡ j
  looping-at j h = looping-before ns (looping_at ns j) ∙ before-nth (marks ns) j (rw (looping-marked ns) at h)

  -- one node more
  pub looping-next : (n : ℕ) → n < length ns → looping (take (n + 1) ns) ≡ cond (loops (node_at ns n)) (suc (looping (take n ns))) (looping (take n ns))
  looping-next n h =
      ap (λ (k : ℕ). looping (take k ns)) (add-one n) ∙ looping-before ns (suc n) ∙ next-before (marks ns) n (rw (length-map ns loops) h)
      ∙ ap₂ (λ (b : Bool) (k : ℕ). cond b (suc k) k) (mark_is ns n) (sym (looping-before ns n))
