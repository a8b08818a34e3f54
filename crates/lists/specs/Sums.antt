-- `sum_to f n` is f 0 + f 1 + .. + f (n - 1).
use Rattle.std.specs.Prelude.{◌≡◌, refl, Bool, true, false, cond, List, ℕ, zero, suc, ◌+◌, ◌-◌, ◌*◌, ◌≤◌, ◌<◌, eqb, length}
use Rattle.std.proofs.Common.{ap, ap₂, ◌∙◌, suc-mul, mul-add, add-one, arith, ne_eqb, eqb-true, length-append}
use Rattle.std.proofs.Math.Decide.{dec_lt}
use Rattle.std.proofs.lemmas.Bool.{eqb-false}
use Rattle.lists.specs.Flat.{flat}

abbrev pub sum_to : (ℕ → ℕ) → ℕ → ℕ
sum_to f zero = 0
sum_to f (suc n) = sum_to f n + f n

pub sum_more : (f : ℕ → ℕ) (n : ℕ) → sum_to f (n + 1) ≡ sum_to f n + f n
sum_more f n = rw add-one

pub sum_same : (f g : ℕ → ℕ) (n : ℕ) → ((i : ℕ) → i < n → f i ≡ g i) → sum_to f n ≡ sum_to g n
sum_same f g zero e = refl
sum_same f g (suc n) e = ap₂ ◌+◌ (sum_same f g n (λ i h. e i (omega arith))) (e n (omega arith))

pub sum_le : (f g : ℕ → ℕ) (n : ℕ) → ((i : ℕ) → i < n → f i ≤ g i) → sum_to f n ≤ sum_to g n
sum_le f g zero h = omega arith
sum_le f g (suc n) h = omega (arith, sum_le f g n (λ i l. h i (omega arith)), h n (omega arith))

pub sum-add : (f g : ℕ → ℕ) (n : ℕ) → sum_to (λ i. f i + g i) n ≡ sum_to f n + sum_to g n
sum-add f g zero = omega arith
sum-add f g (suc n) = omega (arith, sum-add f g n)

pub sum-times : (c : ℕ) (f : ℕ → ℕ) (n : ℕ) → sum_to (λ i. c * f i) n ≡ c * sum_to f n
sum-times c f zero = omega arith
sum-times c f (suc n) = omega (arith, sum-times c f n, mul-add c (sum_to f n) (f n))

-- numbers that are all one
pub sum-even : (f : ℕ → ℕ) (k n : ℕ) → ((i : ℕ) → i < n → f i ≡ k) → sum_to f n ≡ n * k
sum-even f k zero h = omega arith
sum-even f k (suc n) h = omega (arith, sum-even f k n (λ i l. h i (omega arith)), h n (omega arith), suc-mul n k)

-- and the last another
pub sum-last : (f : ℕ → ℕ) (k z n : ℕ) → 1 ≤ n → ((i : ℕ) → i < n - 1 → f i ≡ k) → f (n - 1) ≡ z → sum_to f n ≡ (n - 1) * k + z
sum-last f k z zero h e g = absurd (omega arith)
sum-last f k z (suc n) h e g =
    let q : n ≡ suc n - 1 = omega arith in
    ap₂ ◌+◌ (sum-even f k n (λ i l. e i (omega arith))) (ap f q ∙ g) ∙ ap (λ (x : ℕ). x * k + z) q

-- in parts: the first m numbers and the n after them; k times T numbers
pub sum-split : (f : ℕ → ℕ) (m n : ℕ) → sum_to f (m + n) ≡ sum_to f m + sum_to (λ i. f (m + i)) n
sum-split f m zero = let e : m + zero ≡ m = omega arith in ap (sum_to f) e ∙ omega arith
sum-split f m (suc n) = let e : m + suc n ≡ suc (m + n) = omega arith in ap (sum_to f) e ∙ omega (arith, sum-split f m n)

pub sum-parts : (f : ℕ → ℕ) (T k : ℕ) → sum_to f (k * T) ≡ sum_to (λ x. sum_to (λ s. f (x * T + s)) T) k
sum-parts f T zero = let e : zero * T ≡ 0 = omega arith in ap (sum_to f) e
sum-parts f T (suc k) =
    let e : suc k * T ≡ k * T + T = omega (arith, suc-mul k T) in
    ap (sum_to f) e ∙ sum-split f (k * T) T ∙ ap (λ (n : ℕ). n + sum_to (λ s. f (k * T + s)) T) (sum-parts f T k)

-- one number k, at place a
abbrev pub pick : (a k v : ℕ) → ℕ
pick a k v = cond (eqb a v) k 0

pick-none : (a k n : ℕ) → n ≤ a → sum_to (pick a k) n ≡ 0
pick-none a k zero h = refl
pick-none a k (suc n) h =
    let e : pick a k n ≡ 0 = ap (λ (b : Bool). cond b k 0) (ne_eqb a n (λ q. omega arith)) in
    omega (arith, pick-none a k n (omega arith))

pub pick-once : (a k n : ℕ) → a < n → sum_to (pick a k) n ≡ k
pick-once a k zero h = absurd (omega arith)
pick-once a k (suc n) h = go (eqb a n) refl (λ l. pick-once a k n l)
  where
    go : (b : Bool) → eqb a n ≡ b → (a < n → sum_to (pick a k) n ≡ k) → sum_to (pick a k) n + cond b k 0 ≡ k
    go true e f = let q = eqb-true a n e in omega (arith, pick-none a k n (omega arith))
    go false e f = let q = eqb-false a n e in omega (arith, f (omega arith))

pub pick-most : (a k n : ℕ) → sum_to (pick a k) n ≤ k
pick-most a k n = go (dec_lt a n)
  where
    go : Dec (a < n) → sum_to (pick a k) n ≤ k
    go (yes h) = omega (arith, pick-once a k n h)
    go (no h) = omega (arith, pick-none a k n (omega arith))

-- the length of parts one after the other
pub length-flat : {A : Type 0} (f : ℕ → List A) (n : ℕ) → length (flat f n) ≡ sum_to (λ i. length (f i)) n
unfolding flat
length-flat f zero = refl
length-flat f (suc n) = omega (arith, length-append (flat f n) (f n), length-flat f n)
