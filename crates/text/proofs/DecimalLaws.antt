-- Laws of the decimal digits of a number.
use Rattle.text.specs.DecimalLaws.{pair_text}
use Rattle.std.specs.Prelude.{◌≡◌, refl, Bool, true, false, List, [], ◌∷◌, ◌++◌, ℕ, zero, suc, ◌+◌, ◌*◌, ◌/◌, ◌%◌, ◌≤◌, ◌<◌, ltb, length}
use Rattle.std.proofs.Common.{sym, ap, ap₂, ◌∙◌, subst, append_assoc, arith, lt-ltb, le-ltb, ltb-true, ltb-false, length-append}
use Rattle.rules.specs.Grammar.{Numeral}
use Rattle.rules.specs.Grammar.Numeral.{digit, more}
use Rattle.text.specs.Decimal.{digits_to, decimal}

-- ---- one digit, and one digit more

to_low : (k n : ℕ) → n < 10 → digits_to (suc k) n ≡ (48 + n) ∷ []
unfolding digits_to
to_low k n h = rw (lt-ltb n 10 h) refl

to-more : (k n : ℕ) → 10 ≤ n → digits_to (suc k) n ≡ digits_to k (n / 10) ++ ((48 + n % 10) ∷ [])
unfolding digits_to
to-more k n h = rw (le-ltb n 10 h) refl

enough : (j k n : ℕ) → n < j → n < k → digits_to j n ≡ digits_to k n
enough zero k n h g = absurd (omega arith)
enough (suc j) zero n h g = absurd (omega arith)
enough (suc j) (suc k) n h g = go (ltb n 10) refl (λ l. enough j k (n / 10) (omega arith) (omega arith))
  where
    go : (b : Bool) → ltb n 10 ≡ b → (10 ≤ n → digits_to j (n / 10) ≡ digits_to k (n / 10)) → digits_to (suc j) n ≡ digits_to (suc k) n
    go true e f = let l = ltb-true n 10 e in to_low j n l ∙ sym (to_low k n l)
    go false e f =
        let l = ltb-false n 10 e in
        to-more j n l ∙ ap (λ (x : List ℕ). x ++ ((48 + n % 10) ∷ [])) (f l) ∙ sym (to-more k n l)

pub decimal-low : (n : ℕ) → n < 10 → decimal n ≡ (48 + n) ∷ []
unfolding decimal
decimal-low n h = to_low n n h

pub decimal-more : (n : ℕ) → 10 ≤ n → decimal n ≡ decimal (n / 10) ++ ((48 + n % 10) ∷ [])
unfolding decimal
decimal-more n h = to-more n n h ∙ ap (λ (x : List ℕ). x ++ ((48 + n % 10) ∷ [])) (enough n (suc (n / 10)) (n / 10) (omega arith) (omega arith))

pub decimal-pair : (n : ℕ) → 10 ≤ n → n < 100 → decimal n ≡ pair_text n
decimal-pair n h g = decimal-more n h ∙ ap (λ (x : List ℕ). x ++ ((48 + n % 10) ∷ [])) (decimal-low (n / 10) (omega arith))

pub decimal-pairs : (n : ℕ) → 100 ≤ n → decimal n ≡ decimal (n / 100) ++ pair_text (n % 100)
decimal-pairs n h =
    let a : n / 10 / 10 ≡ n / 100 = omega arith in
    let b : n / 10 % 10 ≡ n % 100 / 10 = omega arith in
    let c : n % 10 ≡ n % 100 % 10 = omega arith in
    decimal-more n (omega arith) ∙ ap (λ (x : List ℕ). x ++ ((48 + n % 10) ∷ [])) (decimal-more (n / 10) (omega arith))
    ∙ append_assoc (decimal (n / 10 / 10)) ((48 + n / 10 % 10) ∷ []) ((48 + n % 10) ∷ [])
    ∙ ap₂ (λ (x : ℕ) (y : List ℕ). decimal x ++ y) a (ap₂ (λ (x y : ℕ). (48 + x) ∷ (48 + y) ∷ []) b c)

pub length-pair : (n : ℕ) → 10 ≤ n → n < 100 → length (decimal n) ≡ 2
length-pair n h g = ap length (decimal-pair n h g)

pub length_pairs : (n : ℕ) → 100 ≤ n → length (decimal n) ≡ length (decimal (n / 100)) + 2
length_pairs n h = ap length (decimal-pairs n h) ∙ length-append (decimal (n / 100)) (pair_text (n % 100))

pub length-low : (n : ℕ) → n < 10 → length (decimal n) ≡ 1
length-low n h = rw (decimal-low n h) refl

pub length-next : (n : ℕ) → 10 ≤ n → length (decimal n) ≡ length (decimal (n / 10)) + 1
length-next n h = rw (decimal-more n h, length-append) refl

-- ---- they are the grammar's numeral of n, and the only one

to-numeral : (k n : ℕ) → n < k → Numeral (digits_to k n) n
to-numeral zero n h = absurd (omega arith)
to-numeral (suc k) n h = go (ltb n 10) refl (λ l. to-numeral k (n / 10) (omega arith))
  where
    go : (b : Bool) → ltb n 10 ≡ b → (10 ≤ n → Numeral (digits_to k (n / 10)) (n / 10)) → Numeral (digits_to (suc k) n) n
    go true e f = let l = ltb-true n 10 e in subst (λ (x : List ℕ). Numeral x n) (sym (to_low k n l)) (digit l)
    go false e f =
        let l = ltb-false n 10 e in
        let s : Numeral (digits_to k (n / 10) ++ ((48 + n % 10) ∷ [])) (10 * (n / 10) + n % 10) = more {d = n % 10} (f l) (omega arith) (omega arith) in
        let z : 10 * (n / 10) + n % 10 ≡ n = omega arith in
        subst (λ (x : List ℕ). Numeral x n) (sym (to-more k n l)) (subst (Numeral (digits_to k (n / 10) ++ ((48 + n % 10) ∷ []))) z s)

pub numeral-decimal : (n : ℕ) → Numeral (decimal n) n
unfolding decimal
numeral-decimal n = to-numeral (suc n) n (omega arith)

pub decimal-only : {ds : List ℕ} {n : ℕ} → Numeral ds n → ds ≡ decimal n
decimal-only (digit {d} h) = sym (decimal-low d h)
decimal-only (more {ds} {n} {d} m l h) =
    let q : (10 * n + d) / 10 ≡ n = omega arith in
    let r : (10 * n + d) % 10 ≡ d = omega arith in
    ap₂ (λ (x : List ℕ) (y : ℕ). x ++ ((48 + y) ∷ [])) (decimal-only m ∙ ap decimal (sym q)) (sym r) ∙ sym (decimal-more (10 * n + d) (omega arith))

-- ---- how many digits there are

length_more : (b j n : ℕ) → ((m : ℕ) → m < b → length (decimal m) ≤ j) → 1 ≤ j → n < 10 * b → length (decimal n) ≤ j + 1
length_more b j n f l h = go (ltb n 10) refl
  where
    go : (t : Bool) → ltb n 10 ≡ t → length (decimal n) ≤ j + 1
    go true e = rw (decimal-low n (ltb-true n 10 e)) (omega arith)
    go false e = rw (decimal-more n (ltb-false n 10 e), length-append) (omega (arith, f (n / 10) (omega arith)))

below_10 : (n : ℕ) → n < 10 → length (decimal n) ≤ 1
below_10 n h = rw (decimal-low n h) (omega arith)

below_100 : (n : ℕ) → n < 100 → length (decimal n) ≤ 2
below_100 n h = length_more 10 1 n below_10 (omega arith) h

pub below_1000 : (n : ℕ) → n < 1000 → length (decimal n) ≤ 3
below_1000 n h = length_more 100 2 n below_100 (omega arith) h

pub below_10000 : (n : ℕ) → n < 10000 → length (decimal n) ≤ 4
below_10000 n h = length_more 1000 3 n below_1000 (omega arith) h

pub below_100000 : (n : ℕ) → n < 100000 → length (decimal n) ≤ 5
below_100000 n h = length_more 10000 4 n below_10000 (omega arith) h

pub below_1000000 : (n : ℕ) → n < 1000000 → length (decimal n) ≤ 6
below_1000000 n h = length_more 100000 5 n below_100000 (omega arith) h
