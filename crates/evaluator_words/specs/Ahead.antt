-- What lies ahead of a slot, over a number of slots. Slots count from 0.
use Rattle.std.specs.Prelude.{◌≡◌, refl, Bool, true, false, ◌&&◌, ◌||◌, ℕ, zero, suc, ◌+◌, ◌-◌, ◌/◌, ◌^◌, ◌≤◌, ◌<◌, T as Is}
use Rattle.std.proofs.Common.{sym, ap, ap₂, ◌∙◌, ⊎_elim, eq-or-lt_of_le, arith}
use Rattle.std.proofs.Math.Bool.{and-true, and-false, and_assoc, or-false, or_assoc}
use Rattle.std.specs.Int.Bits.{bit_and, bit_or}
use Rattle.lists.specs.Tests.{or_cases, or_left, or_right, and_both}
use Rattle.evaluator_words.specs.Bits.{on, on_and, on_or, on_shr}

-- p at one of n slots from j on
abbrev pub some : (ℕ → Bool) → ℕ → ℕ → Bool
some p zero j = false
some p (suc n) j = p j || some p n (suc j)

-- p at all of n slots from j on
abbrev pub every : (ℕ → Bool) → ℕ → ℕ → Bool
every p zero j = true
every p (suc n) j = p j && every p n (suc j)

-- q at one of n slots from j on, and p at each slot before it
abbrev pub reached : (p q : ℕ → Bool) → ℕ → ℕ → Bool
reached p q zero j = false
reached p q (suc n) j = q j || (p j && reached p q n (suc j))

-- the words of a doubling over n slots
pub record Doubled (p q : ℕ → Bool) (n : ℕ) (met held : ℕ) : Type 0 where
  pub met-is : (j : ℕ) → on met j ≡ reached p q n j
  pub held-is : (j : ℕ) → on held j ≡ every p n j

-- ---- one of some slots

pub some_at : (p : ℕ → Bool) (n d : ℕ) → Is (some p n d) → (i : ℕ) × (d ≤ i) × (i < d + n) × Is (p i)
some_at p zero d t = absurd t
some_at p (suc n) d t =
    ⊎_elim {C = (i : ℕ) × (d ≤ i) × (i < d + suc n) × Is (p i)} (λ s. (d, omega arith, omega arith, s))
    (λ s. let r = some_at p n (suc d) s in (r.0, omega (arith, r.1), omega (arith, r.2), r.3)) (or_cases (p d) (some p n (suc d)) t)

pub at_some : (p : ℕ → Bool) (n d i : ℕ) → d ≤ i → i < d + n → Is (p i) → Is (some p n d)
at_some p zero d i h k t = absurd (omega arith)
at_some p (suc n) d i h k t =
    ⊎_elim (λ e. or_left (p d) (some p n (suc d)) (rw e t)) (λ l. or_right (p d) (some p n (suc d)) (at_some p n (suc d) i l (omega arith) t))
    (eq-or-lt_of_le h)

pub at_every : (p : ℕ → Bool) (n d : ℕ) → ((i : ℕ) → d ≤ i → i < d + n → Is (p i)) → Is (every p n d)
at_every p zero d f = tt
at_every p (suc n) d f = and_both (p d) (every p n (suc d)) (f d (omega arith) (omega arith)) (at_every p n (suc d) (λ i u v. f i (omega arith) (omega arith)))

pub some_same : (p r : ℕ → Bool) (T n j : ℕ) → ((i : ℕ) → i < T → p i ≡ r i) → n + j ≤ T → some p n j ≡ some r n j
some_same p r T zero j h l = refl
some_same p r T (suc n) j h l = ap₂ (λ (a b : Bool). a || b) (h j (omega arith)) (some_same p r T n (suc j) h (omega arith))

-- ---- n slots and then m more

pub some_more : (p : ℕ → Bool) (n m j : ℕ) → some p (n + m) j ≡ (some p n j || some p m (n + j))
some_more p zero m j = ap (λ (x : ℕ). some p x j) (let e : 0 + m ≡ m = omega arith in e) ∙ ap (λ (x : ℕ). some p m x) (let e : j ≡ 0 + j = omega arith in e)
some_more p (suc n) m j =
    ap (λ (x : ℕ). some p x j) (let e : suc n + m ≡ suc (n + m) = omega arith in e)
    ∙ ap (λ (b : Bool). p j || b) (some_more p n m (suc j))
    ∙ sym (or_assoc (p j) (some p n (suc j)) (some p m (n + suc j)))
    ∙ ap (λ (x : ℕ). (p j || some p n (suc j)) || some p m x) (let e : n + suc j ≡ suc n + j = omega arith in e)

pub every_more : (p : ℕ → Bool) (n m j : ℕ) → every p (n + m) j ≡ (every p n j && every p m (n + j))
every_more p zero m j = ap (λ (x : ℕ). every p x j) (let e : 0 + m ≡ m = omega arith in e) ∙ ap (λ (x : ℕ). every p m x) (let e : j ≡ 0 + j = omega arith in e)
every_more p (suc n) m j =
    ap (λ (x : ℕ). every p x j) (let e : suc n + m ≡ suc (n + m) = omega arith in e)
    ∙ ap (λ (b : Bool). p j && b) (every_more p n m (suc j))
    ∙ sym (and_assoc (p j) (every p n (suc j)) (every p m (n + suc j)))
    ∙ ap (λ (x : ℕ). (p j && every p n (suc j)) && every p m x) (let e : n + suc j ≡ suc n + j = omega arith in e)

-- a slot more in front: c is what is reached behind, b whether p holds up to there
pub front : (q p r b c : Bool) → (q || (p && (r || (b && c)))) ≡ ((q || (p && r)) || ((p && b) && c))
front true p r b c = refl
front false true r b c = refl
front false false r b c = refl

pub reached-more : (p q : ℕ → Bool) (n m j : ℕ) → reached p q (n + m) j ≡ (reached p q n j || (every p n j && reached p q m (n + j)))
reached-more p q zero m j =
    ap (λ (x : ℕ). reached p q x j) (let e : 0 + m ≡ m = omega arith in e) ∙ ap (λ (x : ℕ). reached p q m x) (let e : j ≡ 0 + j = omega arith in e)
reached-more p q (suc n) m j =
    ap (λ (x : ℕ). reached p q x j) (let e : suc n + m ≡ suc (n + m) = omega arith in e)
    ∙ ap (λ (b : Bool). q j || (p j && b)) (reached-more p q n m (suc j))
    ∙ front (q j) (p j) (reached p q n (suc j)) (every p n (suc j)) (reached p q m (n + suc j))
    ∙ ap (λ (x : ℕ). (q j || (p j && reached p q n (suc j))) || ((p j && every p n (suc j)) && reached p q m x))
    (let e : n + suc j ≡ suc n + j = omega arith in e)

-- ---- nothing lies behind the end

pub reached-none : (p q : ℕ → Bool) (n j : ℕ) → ((i : ℕ) → j ≤ i → q i ≡ false) → reached p q n j ≡ false
reached-none p q zero j h = refl
reached-none p q (suc n) j h = rw (h j (omega arith), reached-none p q n (suc j) (λ i l. h i (omega arith))) (and-false (p j))

-- more slots than there are make no difference
pub reached-end : (p q : ℕ → Bool) (T n j : ℕ) → ((i : ℕ) → T ≤ i → q i ≡ false) → T ≤ n + j → reached p q n j ≡ reached p q (T - j) j
reached-end p q T n j h l = go (T - j) (n - (T - j)) (omega arith) (omega arith)
  where
    go : (a b : ℕ) → n ≡ a + b → T ≤ a + j → reached p q n j ≡ reached p q a j
    go a b e k =
        ap (λ (x : ℕ). reached p q x j) e ∙ reached-more p q a b j
        ∙ ap (λ (x : Bool). reached p q a j || (every p a j && x)) (reached-none p q b (a + j) (λ i u. h i (omega arith)))
        ∙ ap (λ (x : Bool). reached p q a j || x) (and-false (every p a j)) ∙ or-false (reached p q a j)

-- ---- from k slots to twice as many

pub doubled_more : (p q : ℕ → Bool) (k met held : ℕ) → Doubled p q k met held →
    Doubled p q (k + k) (bit_or met (bit_and held (met / 2 ^ k))) (bit_and held (held / 2 ^ k))
doubled_more p q k met held d = record {
  met-is = λ j.
      on_or met (bit_and held (met / 2 ^ k)) j
      ∙ ap₂ (λ (a b : Bool). a || b) (d.met-is j)
      (on_and held (met / 2 ^ k) j ∙ ap₂ (λ (a b : Bool). a && b) (d.held-is j) (on_shr met k j ∙ d.met-is (k + j)))
      ∙ sym (reached-more p q k k j);
  held-is = λ j.
      on_and held (held / 2 ^ k) j ∙ ap₂ (λ (a b : Bool). a && b) (d.held-is j) (on_shr held k j ∙ d.held-is (k + j))
      ∙ sym (every_more p k k j);
}

-- one slot
pub doubled_one : (p q : ℕ) → Doubled (on p) (on q) 1 q p
doubled_one p q = record {
  met-is = λ j. sym (ap (λ (b : Bool). on q j || b) (and-false (on p j)) ∙ or-false (on q j));
  held-is = λ j. sym (and-true (on p j));
}

-- ---- from n slots to as many as twice: what is seen twice adds nothing

pub some-over : (p : ℕ → Bool) (n k j : ℕ) → k ≤ n → (some p n j || some p n (k + j)) ≡ some p (n + k) j
some-over p n k j h =
    let parts : some p n j ≡ (some p k j || some p (n - k) (k + j)) = ap (λ (x : ℕ). some p x j) (let e : n ≡ k + (n - k) = omega arith in e)
    ∙ some_more p k (n - k) j in
    let rest : some p n (k + j) ≡ (some p (n - k) (k + j) || some p k (n - k + (k + j))) =
    ap (λ (x : ℕ). some p x (k + j)) (let e : n ≡ n - k + k = omega arith in e) ∙ some_more p (n - k) k (k + j) in
    ap (λ (b : Bool). b || some p n (k + j)) parts ∙ ap (λ (b : Bool). (some p k j || some p (n - k) (k + j)) || b) rest
    ∙ twice (some p k j) (some p (n - k) (k + j)) (some p k (n - k + (k + j)))
    ∙ ap (λ (b : Bool). some p k j || b) (sym rest) ∙ sym (some_more p k n j)
    ∙ ap (λ (x : ℕ). some p x j) (let e : k + n ≡ n + k = omega arith in e)
  where
    twice : (a b c : Bool) → ((a || b) || (b || c)) ≡ (a || (b || c))
    twice true b c = refl
    twice false true c = refl
    twice false false c = refl

pub some_wider : (w n k x : ℕ) → k ≤ n → ((j : ℕ) → on x j ≡ some (on w) n j) → (j : ℕ) → on (bit_or x (x / 2 ^ k)) j ≡ some (on w) (n + k) j
some_wider w n k x h e j =
    on_or x (x / 2 ^ k) j ∙ ap₂ (λ (a b : Bool). a || b) (e j) (on_shr x k j ∙ e (k + j)) ∙ some-over (on w) n k j h

pub some_one : (w j : ℕ) → on w j ≡ some (on w) 1 j
some_one w j = sym (or-false (on w j))

-- a slots later
pub some-later : (p q : ℕ → Bool) (a n j : ℕ) → ((i : ℕ) → q i ≡ p (a + i)) → some q n j ≡ some p n (a + j)
some-later p q a zero j e = refl
some-later p q a (suc n) j e =
    ap₂ (λ (x y : Bool). x || y) (e j) (some-later p q a n (suc j) e)
    ∙ ap (λ (x : ℕ). p (a + j) || some p n x) (let z : a + suc j ≡ suc (a + j) = omega arith in z)

pub some-shifted : (p near a n : ℕ) → ((j : ℕ) → on near j ≡ some (on (p / 2 ^ a)) n j) → (j : ℕ) → on near j ≡ some (on p) n (a + j)
some-shifted p near a n e j = e j ∙ some-later (on p) (on (p / 2 ^ a)) a n j (λ i. on_shr p a i)
