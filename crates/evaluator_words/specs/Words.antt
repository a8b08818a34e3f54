-- Truth words of the operators. Slots count from 0, T is the horizon.
use Rattle.std.specs.Prelude.{◌≡◌, refl, Bool, true, false, not, ◌&&◌, ◌||◌, ℕ, zero, suc, ◌+◌, ◌-◌, ◌/◌, ◌^◌, ◌≤◌, ◌<◌, T as Is}
use Rattle.std.proofs.Common.{sym, ap, ap₂, ◌∙◌, subst, lt_of_le_of_lt, lt_of_lt_of_le, le_trans, not-le_of_lt, arith, pow_mono, pow_pos}
use Rattle.std.proofs.Math.Bool.{and-true, and-false, or-true, or-false}
use Rattle.std.proofs.Math.Decide.{dec_lt}
use Rattle.std.specs.Int.Bits.{bit_and, bit_or}
use Rattle.std.proofs.lemmas.Nat.{and_le_l, or_lt, leading_top}
use Rattle.std.specs.Int.Count.{count_leading_zeros}
use Rattle.std.proofs.Math.Pow.{ones_lt}
use Rattle.lists.specs.Tests.{same_tests, or_right, and_left, and_right, and_both, not_iff}
use Rattle.rules.specs.Quantities.{LoopAllowed}
use Rattle.rules.specs.Truth.{slot_of}
use Rattle.evaluator_words.specs.Bits.{on, on-zero, on-top, on-above, on_below, on_and, on_or, on_ones, ones_shr}
use Rattle.evaluator_words.specs.Ahead.{some, every, reached, Doubled, some_at, at_some, at_every, some_same, reached-more, reached-end, reached-none}

-- the word of f: bit j is the truth at slot j, with zeros from the horizon on
pub record Word (T : ℕ) (f : ℕ → Bool) (w : ℕ) : Type 0 where
  pub at : (j : ℕ) → j < T → on w j ≡ f j
  pub small : w < 2 ^ T

-- kept to the slots up to the last: q at slot j or a later one
abbrev pub eventually_kept : (T : ℕ) (q : ℕ → Bool) → ℕ → Bool
eventually_kept T q j = some q (T - j) j

abbrev pub always_kept : (T : ℕ) (p : ℕ → Bool) → ℕ → Bool
always_kept T p j = not (eventually_kept T (λ i. not (p i)) j)

-- q at slot j or a later one, and p at each slot before it
abbrev pub until_kept : (T : ℕ) (p q : ℕ → Bool) → ℕ → Bool
until_kept T p q j = reached p q (T - j) j

-- after the last slot comes slot L again; L alone counts from 1
abbrev pub eventually_at : (T L : ℕ) (q : ℕ → Bool) → ℕ → Bool
eventually_at T L q j = eventually_kept T q j || eventually_kept T q (L - 1)

abbrev pub always_at : (T L : ℕ) (p : ℕ → Bool) → ℕ → Bool
always_at T L p j = not (eventually_at T L (λ i. not (p i)) j)

abbrev pub until_at : (T L : ℕ) (p q : ℕ → Bool) → ℕ → Bool
until_at T L p q j = until_kept T p q j || (always_kept T p j && until_kept T p q (L - 1))

-- the slot of time k, which counts from 0 too
abbrev pub slot_from : (T L k : ℕ) → ℕ
slot_from T L k = slot_of T L (k + 1) - 1

-- p a slots later, and a to b slots later
abbrev pub later_at : (T L a : ℕ) (p : ℕ → Bool) → ℕ → Bool
later_at T L a p j = p (slot_from T L (j + a))

abbrev pub within_at : (T L a b : ℕ) (p : ℕ → Bool) → ℕ → Bool
within_at T L a b p j = some (λ i. p (slot_from T L (j + i))) (b - a + 1) a

abbrev pub throughout_at : (T L a b : ℕ) (p : ℕ → Bool) → ℕ → Bool
throughout_at T L a b p j = not (within_at T L a b (λ i. not (p i)) j)

-- the same truth in other words
pub word_same : {T : ℕ} {f : ℕ → Bool} {w : ℕ} → Word T f w → (g : ℕ → Bool) → ((j : ℕ) → j < T → f j ≡ g j) → Word T g w
word_same d g e = record { at = λ j l. d.at j l ∙ e j l; small = d.small }

pub word-not : (T p r : ℕ) → ((j : ℕ) → on r j ≡ (on (2 ^ T - 1) j && not (on p j))) → Word T (λ j. not (on p j)) r
word-not T p r e = record {
  at = λ j l. e j ∙ ap (λ (b : Bool). b && not (on p j)) (on_ones T j l);
  small = on_below T r (λ j l. e j ∙ ap (λ (b : Bool). b && not (on p j)) (on-above T (2 ^ T - 1) j (ones_lt T) l));
}

pub word_and : (T p q : ℕ) → p < 2 ^ T → Word T (λ j. on p j && on q j) (bit_and p q)
word_and T p q h = record { at = λ j l. on_and p q j; small = lt_of_le_of_lt (and_le_l p q) h }

pub word-or : (T p q : ℕ) → p < 2 ^ T → q < 2 ^ T → Word T (λ j. on p j || on q j) (bit_or p q)
word-or T p q h g = record { at = λ j l. on_or p q j; small = or_lt T p q h g }

-- not F not p: v is not p, w is F of v, and r is not w
pub word-dual : (T p v w r : ℕ) (F : (ℕ → Bool) → ℕ → Bool) → ((f g : ℕ → Bool) → ((i : ℕ) → i < T → f i ≡ g i) → (j : ℕ) → j < T → F f j ≡ F g j) →
    Word T (λ j. not (on p j)) v → Word T (F (on v)) w → Word T (λ j. not (on w j)) r → Word T (λ j. not (F (λ i. not (on p i)) j)) r
word-dual T p v w r F same d e f = word_same f _ (λ j l. ap not (e.at j l ∙ same (on v) (λ i. not (on p i)) d.at j l))

-- ---- until: 64 slots are as good as all that are left

pub word-until : (T p q met held : ℕ) → T ≤ 64 → q < 2 ^ T → Doubled (on p) (on q) 64 met held → Word T (until_kept T (on p) (on q)) met
word-until T p q met held h small d = record {
  at = λ j l. d.met-is j ∙ reached-end (on p) (on q) T 64 j (λ i u. on-above T q i small u) (omega arith);
  small = on_below T met (λ j l. d.met-is j ∙ reached-none (on p) (on q) 64 j (λ i u. on-above T q i small (omega arith)));
}

-- ---- eventually: up to the highest bit that is set

is_true : (b : Bool) → b ≡ true → Is b
is_true b e = subst Is (sym e) tt

some-none : (q : ℕ → Bool) (n j : ℕ) → ((i : ℕ) → j ≤ i → q i ≡ false) → false ≡ some q n j
some-none q zero j h = refl
some-none q (suc n) j h = rw (h j (omega arith)) (some-none q n (suc j) (λ i l. h i (omega arith)))

pub eventually-none : (T : ℕ) → Word T (eventually_kept T (on 0)) 0
eventually-none T = record { at = λ j l. on-zero j ∙ some-none (on 0) (T - j) j (λ i u. on-zero i); small = pow_pos T }

module _ (T q top : ℕ) (small : q < 2 ^ T) (low : 2 ^ top ≤ q) (high : q < 2 ^ suc top) where
  inside : top < T
  inside = go (dec_lt top T)
    where
      go : Dec (top < T) → top < T
      go (yes l) = l
      go (no l) = absurd (not-le_of_lt small (le_trans (pow_mono {i = T} {j = top} (omega arith)) low))

  up_to : (j : ℕ) → j < T → Dec (j < suc top) → on (2 ^ suc top - 1) j ≡ some (on q) (T - j) j
  up_to j l (yes u) =
      on_ones (suc top) j u ∙ same_tests true (some (on q) (T - j) j) (
        λ x. at_some (on q) (T - j) j top (omega arith) (omega (arith, inside)) (is_true (on q top) (on-top top q low high)),
        λ x. tt,
      )
  up_to j l (no u) =
      on-above (suc top) (2 ^ suc top - 1) j (ones_lt (suc top)) (omega arith)
      ∙ some-none (on q) (T - j) j (λ i k. on-above (suc top) q i high (omega arith))

  eventually-top : Word T (eventually_kept T (on q)) (2 ^ suc top - 1)
  eventually-top = record { at = λ j l. up_to j l (dec_lt j (suc top)); small = lt_of_lt_of_le (ones_lt (suc top)) (pow_mono inside) }

pub word-eventually : (T q : ℕ) → 0 < q → q < 2 ^ 64 → q < 2 ^ T → Word T (eventually_kept T (on q)) ((2 ^ 64 - 1) / 2 ^ count_leading_zeros 64 q)
word-eventually T q h fits small =
    let r = leading_top 64 q h fits in
    let z : count_leading_zeros 64 q ≡ 64 - suc r.0 = omega (arith, r.1) in
    rw (z, ones_shr 64 (suc r.0) (omega (arith, r.1))) (eventually-top T q r.0 small r.2 r.3)

pub kept_same : (T : ℕ) (q r : ℕ → Bool) → ((i : ℕ) → i < T → q i ≡ r i) → (j : ℕ) → j < T → eventually_kept T q j ≡ eventually_kept T r j
kept_same T q r e j l = some_same q r T (T - j) j e (omega arith)

-- ---- where slot L comes after the last: what is kept there counts behind the last slot

absorb : (a b : Bool) → (Is b → Is a) → a ≡ (a || b)
absorb true b f = refl
absorb false true f = absurd (f tt)
absorb false false f = refl

module _ (T L : ℕ) (loop : LoopAllowed T L) where
  pub eventually-same : (q r : ℕ → Bool) → ((i : ℕ) → i < T → q i ≡ r i) → (j : ℕ) → j < T → eventually_at T L q j ≡ eventually_at T L r j
  eventually-same q r e j l = ap₂ (λ (a b : Bool). a || b) (kept_same T q r e j l) (kept_same T q r e (L - 1) (omega (arith, loop)))

  module _ (q : ℕ → Bool) (kept : ℕ) (d : Word T (eventually_kept T q) kept) where
    at-loop : eventually_kept T q (L - 1) ≡ on kept (L - 1)
    at-loop = sym (d.at (L - 1) (omega (arith, loop)))

    pub eventually_yes : on kept (L - 1) ≡ true → Word T (eventually_at T L q) (2 ^ T - 1)
    eventually_yes e = record {
      at = λ j l. on_ones T j l ∙ sym (ap (λ (b : Bool). eventually_kept T q j || b) (at-loop ∙ e) ∙ or-true (eventually_kept T q j));
      small = ones_lt T;
    }

    pub eventually_no : on kept (L - 1) ≡ false → Word T (eventually_at T L q) kept
    eventually_no e = word_same d _ (λ j l. sym (ap (λ (b : Bool). eventually_kept T q j || b) (at-loop ∙ e) ∙ or-false (eventually_kept T q j)))

  module _ (p q : ℕ → Bool) (kept : ℕ) (d : Word T (until_kept T p q) kept) where
    until-loop : until_kept T p q (L - 1) ≡ on kept (L - 1)
    until-loop = sym (d.at (L - 1) (omega (arith, loop)))

    pub until_yes : (held : ℕ) → Word T (always_kept T p) held → on kept (L - 1) ≡ true → Word T (until_at T L p q) (bit_or kept held)
    until_yes held h e = record {
      at = λ j l.
          on_or kept held j ∙ ap₂ (λ (a b : Bool). a || b) (d.at j l)
          (h.at j l ∙ sym (ap (λ (b : Bool). always_kept T p j && b) (until-loop ∙ e) ∙ and-true (always_kept T p j)));
      small = or_lt T kept held d.small h.small;
    }

    pub until_no : on kept (L - 1) ≡ false → Word T (until_at T L p q) kept
    until_no e = word_same d _ (λ j l.
        sym (ap (λ (b : Bool). until_kept T p q j || (always_kept T p j && b)) (until-loop ∙ e)
        ∙ ap (λ (b : Bool). until_kept T p q j || b) (and-false (always_kept T p j)) ∙ or-false (until_kept T p q j)))

-- ---- the last slot again: nothing new

pub eventually-last : (T : ℕ) (q : ℕ → Bool) (j : ℕ) → j < T → eventually_kept T q j ≡ eventually_at T T q j
eventually-last T q j l = absorb (eventually_kept T q j) (eventually_kept T q (T - 1)) (λ x.
    let r = some_at q (T - (T - 1)) (T - 1) x in
    at_some q (T - j) j r.0 (omega (arith, r.1)) (omega (arith, r.2)) r.3)

pub until-last : (T : ℕ) (p q : ℕ → Bool) (j : ℕ) → j < T → until_kept T p q j ≡ until_at T T p q j
until-last T p q j l = absorb (until_kept T p q j) (always_kept T p j && until_kept T p q (T - 1)) (λ x.
    let n = T - 1 - j in
    let m : T - (T - 1) ≡ 1 = omega arith in
    let k : n + j ≡ T - 1 = omega arith in
    let all : n + 1 ≡ T - j = omega arith in
    let held = (not_iff (eventually_kept T (λ i. not (p i)) j)).0 (and_left (always_kept T p j) (until_kept T p q (T - 1)) x) in
    let last : Is (reached p q 1 (n + j)) = rw k (rw m at (and_right (always_kept T p j) (until_kept T p q (T - 1)) x)) in
    let before = at_every p n j (λ i u v. holds (p i) (λ y. held (at_some (λ i. not (p i)) (T - j) j i u (omega arith) y))) in
    rw (← all, reached-more p q n 1 j)
    (or_right (reached p q n j) (every p n j && reached p q 1 (n + j)) (and_both (every p n j) (reached p q 1 (n + j)) before last)))
  where
    holds : (b : Bool) → (Is (not b) → ⊥) → Is b
    holds true f = tt
    holds false f = f tt
