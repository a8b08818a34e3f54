-- Numerals of the grammar, and runs of digits: the two say the same number.
use Rattle.std.specs.Prelude.{◌≡◌, refl, Bool, true, false, cond, List, [], ◌∷◌, ◌++◌, ℕ, suc, ◌+◌, ◌-◌, ◌*◌, ◌≤◌, ◌<◌, length, get_or, take}
use Rattle.std.proofs.Common.{sym, ap, ◌∙◌, subst, append_assoc, append-nil, arith, length-append}
use Rattle.std.proofs.Math.ListN.{get_or-append}
use Rattle.rules.specs.Grammar.{Numeral}
use Rattle.rules.specs.Grammar.Numeral.{digit, more}
use Rattle.rules.specs.Reading.Lexer.{digits, value, is_digit, Numeric}
use Rattle.rules.proofs.Reading.Lexer.{digit-true, digit-is}

-- digits alone, as a numeral has them, with their number
pub record Run (ds : List ℕ) (a : ℕ) : Type 0 where
  pub all : digits ds ≡ length ds
  pub numeric : Numeric (length ds) (get_or ds 0 0)
  pub number : a ≡ value 0 ds

-- ---- digits and what follows them

first-digit : (c n m : ℕ) (b : Bool) → is_digit c ≡ b → cond b (suc n) 0 ≡ suc m → (is_digit c ≡ true) × (n ≡ m)
first-digit c n m true e h = (e, omega arith)
first-digit c n m false e h = absurd (omega arith)

pub digits_append : (ds rest : List ℕ) (v : ℕ) → digits ds ≡ length ds →
    (digits (ds ++ rest) ≡ length ds + digits rest) × (value v (ds ++ rest) ≡ value (value v ds) rest)
unfolding digits value
digits_append [] rest v h = (omega arith, refl)
digits_append (c ∷ ds) rest v h =
    let k = first-digit c (digits ds) (length ds) (is_digit c) refl h in
    let ih = digits_append ds rest (10 * v + (c - 48)) k.1 in
    rw k.0 (omega arith, ih.1)

-- no digit follows
value-none-step : (n x v : ℕ) (b : Bool) → cond b (suc n) 0 ≡ 0 → cond b x v ≡ v
value-none-step n x v true h = absurd (omega arith)
value-none-step n x v false h = refl

pub value_none : (rest : List ℕ) (v : ℕ) → digits rest ≡ 0 → value v rest ≡ v
unfolding digits value
value_none [] v h = refl
value_none (c ∷ rest) v h = value-none-step (digits rest) (value (10 * v + (c - 48)) rest) v (is_digit c) h

-- the digits that a text begins with
pub record Front (l : List ℕ) (v : ℕ) : Type 0 where
  pub count : digits (take (digits l) l) ≡ digits l
  pub number : value v (take (digits l) l) ≡ value v l

front-step : (c : ℕ) (l : List ℕ) (v : ℕ) (b : Bool) → is_digit c ≡ b → Front l (10 * v + (c - 48))
    → (digits (take (cond b (suc (digits l)) 0) (c ∷ l)) ≡ cond b (suc (digits l)) 0) ×
    (value v (take (cond b (suc (digits l)) 0) (c ∷ l)) ≡ cond b (value (10 * v + (c - 48)) l) v)
unfolding digits value
front-step c l v true e h = rw e (ap suc h.count, h.number)
front-step c l v false e h = (refl, refl)

pub front : (l : List ℕ) (v : ℕ) → Front l v
unfolding digits value
front [] v = record { count = refl; number = refl }
front (c ∷ l) v =
    let k = front-step c l v (is_digit c) refl (front l (10 * v + (c - 48))) in
    record { count = k.0; number = k.1 }

-- ---- a numeral is a run

last-digit : (d v : ℕ) → d < 10 → (digits ((48 + d) ∷ []) ≡ 1) × (value v ((48 + d) ∷ []) ≡ 10 * v + d)
unfolding digits value
last-digit d v h = rw (digit-is (48 + d) (omega arith) (omega arith)) (refl, omega arith)

some-digit : {ds : List ℕ} {n : ℕ} → Numeral ds n → 1 ≤ length ds
some-digit (digit h) = omega arith
some-digit (more {ds} {n} {d} m l h) = omega (arith, some-digit m, length-append ds ((48 + d) ∷ []))

lead_zero : {ds : List ℕ} {n : ℕ} → Numeral ds n → get_or ds 0 0 ≡ 48 → n ≡ 0
lead_zero (digit h) e = omega arith
lead_zero (more {ds} {n} {d} m l h) e =
    let z : n ≡ 0 = lead_zero m (sym (get_or-append ds ((48 + d) ∷ []) 0 0 (some-digit m)) ∙ e) in
    absurd (omega arith)

pub numeral-run : {ds : List ℕ} {a : ℕ} → Numeral ds a → Run ds a
numeral-run (digit {d} h) =
    let k = last-digit d 0 h in
    record { all = k.0; numeric = record { one_up = omega arith; no_zero = λ l e. omega arith }; number = omega arith }
numeral-run (more {ds} {n} {d} m l h) =
    let r = numeral-run m in
    let k = digits_append ds ((48 + d) ∷ []) 0 r.all in
    let j = last-digit d (value 0 ds) h in
    let len = length-append ds ((48 + d) ∷ []) in
    record {
      all = omega arith;
      numeric = record {
        one_up = omega arith;
        no_zero = λ lt e.
            let z : n ≡ 0 = lead_zero m (sym (get_or-append ds ((48 + d) ∷ []) 0 0 (some-digit m)) ∙ e) in
            omega arith;
      };
      number = omega (arith, r.number);
    }

-- ---- a run is a numeral

extend : (front ds : List ℕ) (n : ℕ) → Numeral front n → 0 < n → digits ds ≡ length ds → Numeral (front ++ ds) (value n ds)
unfolding digits value
extend front [] n m l h = rw append-nil m
extend front (c ∷ ds) n m l h =
    let k = first-digit c (digits ds) (length ds) (is_digit c) refl h in
    let b = digit-true c k.0 in
    let e : 48 + (c - 48) ≡ c = omega arith in
    let longer : Numeral (front ++ (c ∷ [])) (10 * n + (c - 48)) =
    subst (λ (x : ℕ). Numeral (front ++ (x ∷ [])) (10 * n + (c - 48))) e (more m l (omega arith)) in
    rw k.0 (subst (λ (x : List ℕ). Numeral x (value (10 * n + (c - 48)) ds)) (append_assoc front (c ∷ []) ds)
    (extend (front ++ (c ∷ [])) ds (10 * n + (c - 48)) longer (omega arith) k.1))

lone : (c : ℕ) → is_digit c ≡ true → Numeral (c ∷ []) (c - 48)
lone c h =
    let b = digit-true c h in
    let e : 48 + (c - 48) ≡ c = omega arith in
    subst (λ (x : ℕ). Numeral (x ∷ []) (c - 48)) e (digit (omega arith))

behind : (c : ℕ) (ds : List ℕ) → is_digit c ≡ true → digits ds ≡ length ds → (1 < suc (length ds) → c ≡ 48 → ⊥) → Numeral (c ∷ ds) (value (c - 48) ds)
unfolding value
behind c [] h k ne = lone c h
behind c (d ∷ ds) h k ne =
    let b = digit-true c h in
    let far : c ≡ 48 → ⊥ = ne (omega arith) in
    extend (c ∷ []) (d ∷ ds) (c - 48) (lone c h) (omega arith) k

all-numeral : (ds : List ℕ) → digits ds ≡ length ds → Numeric (length ds) (get_or ds 0 0) → Numeral ds (value 0 ds)
unfolding digits value
all-numeral [] h n = absurd (omega arith)
all-numeral (c ∷ ds) h n =
    let k = first-digit c (digits ds) (length ds) (is_digit c) refl h in
    let e : c - 48 ≡ 10 * 0 + (c - 48) = omega arith in
    rw k.0 (subst (λ (v : ℕ). Numeral (c ∷ ds) (value v ds)) e (behind c ds k.0 k.1 n.no_zero))

pub run-numeral : {ds : List ℕ} {a : ℕ} → Run ds a → Numeral ds a
run-numeral {ds} {a} r = subst (Numeral ds) (sym r.number) (all-numeral ds r.all r.numeric)
