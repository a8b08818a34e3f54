-- Tests in the order of their refusals: when a ladder of them is exact, in any order.
use Rattle.std.specs.Prelude.{◌≡◌, refl, Bool, true, false, cond, List, [], ◌∷◌, ℕ, suc, ◌≤◌, ◌<◌, eqb}
use Rattle.std.proofs.Common.{ap, arith, eqb-true}
use Rattle.std.proofs.Math.Decide.{dec_lt}
use Rattle.rules.specs.Judge.{None}
use Rattle.rules.specs.Refusals.{place_in, WinsIn}
use Rattle.rules.specs.Demands.{Answer, ExactIn}
use Rattle.rules.specs.Demands.Answer.{refused, answered}
use Rattle.rules.specs.Outcome.{require}

-- ---- one number stands at a place

one_place : (l : List ℕ) (j k : ℕ) → place_in l j ≡ place_in l k → j ≡ k
one_place [] j k e = e
one_place (x ∷ l) j k e = go (eqb j x) (eqb k x) refl refl e (one_place l j k)
  where
    go : (a b : Bool) → eqb j x ≡ a → eqb k x ≡ b → cond a 0 (suc (place_in l j)) ≡ cond b 0 (suc (place_in l k)) → (place_in l j ≡ place_in l k → j ≡ k) → j ≡ k
    go true true f g h i = omega (arith, eqb-true j x f, eqb-true k x g)
    go true false f g h i = absurd (omega arith)
    go false true f g h i = absurd (omega arith)
    go false false f g h i = i (omega arith)

module _ (order : List ℕ) where
  wins-one : (P : ℕ → Type 0) (j k : ℕ) → WinsIn order P j → WinsIn order P k → j ≡ k
  wins-one P j k g h = go (dec_lt (place_in order j) (place_in order k)) (dec_lt (place_in order k) (place_in order j))
    where
      go : Dec (place_in order j < place_in order k) → Dec (place_in order k < place_in order j) → j ≡ k
      go (yes l) d = absurd (h.earlier j l g.applies)
      go (no l) (yes u) = absurd (g.earlier k u h.applies)
      go (no l) (no u) = one_place order j k (omega arith)

  module _ {A : Type 0} (Refused : ℕ → Type 0) (Is : A → Type 0) where
    -- no refusal before place i applies
    abbrev pub From : ℕ → Type 0
    From i = (j : ℕ) → Refused j → i ≤ place_in order j

    exact_refused : (k : ℕ) → Refused k → From (place_in order k) → ExactIn order Refused Is (refused k)
    exact_refused k r f =
        let win : WinsIn order Refused k = record { applies = r; earlier = λ j l x. omega (arith, f j x) } in
        record {
          refuses = λ j. (λ e. let z : k ≡ j = cc in rw (← z) win, λ h. ap (λ (i : ℕ). refused i) (wins-one Refused k j win h));
          answers = λ x. (λ e. let z : ◌≡◌ {A = ℕ} 0 1 = cc in absurd (omega arith), λ h. absurd (h.0 k r));
        }

    -- the last rung: nothing refuses, and there is one answer
    pub exact_answered : (x : A) → None Refused → Is x → ((y : A) → Is y → x ≡ y) → ExactIn order Refused Is (answered x)
    exact_answered x n i only = record {
      refuses = λ j. (λ e. let z : ◌≡◌ {A = ℕ} 0 1 = cc in absurd (omega arith), λ h. absurd (n j h.applies));
      answers = λ y. (λ e. let z : x ≡ y = cc in (n, rw (← z) i), λ h. ap (λ (a : A). answered a) (only y h.1));
    }

    -- a rung: the test decides the refusal k, and no earlier one applies
    pub rung : (b : Bool) (k : ℕ) (rest : Answer A) → From (place_in order k) → (b ≡ false → Refused k) → (b ≡ true → ExactIn order Refused Is rest) →
        ExactIn order Refused Is (require b k rest)
    rung true k rest f r g = g refl
    rung false k rest f r g = exact_refused k (r refl) f

    -- a refusal that is no test's
    pub refuse : (k : ℕ) → From (place_in order k) → Refused k → ExactIn order Refused Is (refused k)
    refuse k f r = exact_refused k r f
