-- How many digits the numbers below n have together.
use Rattle.std.specs.Prelude.{◌≡◌, refl, ℕ, zero, suc, ◌+◌, ◌-◌, ◌*◌, ◌/◌, ◌≤◌, ◌<◌, length}
use Rattle.std.proofs.Common.{ap, ◌∙◌, arith}
use Rattle.std.proofs.Math.Decide.{dec_lt}
use Rattle.text.specs.Decimal.{decimal}
use Rattle.text.proofs.DecimalLaws.{length-low, length-next}
use Rattle.lists.specs.Sums.{sum_to}

abbrev digits : ℕ → ℕ
digits n = length (decimal n)

-- how far n is above k
unfoldable pub above : (n k : ℕ) → ℕ
above n k = n - k

-- a digit for each number, a second for each from 10 on, a third from 100 on; with at most six digits
abbrev pub digit_sum : ℕ → ℕ
digit_sum n = n + above n 10 + above n 100 + above n 1000 + above n 10000 + above n 100000

low : (n k : ℕ) → n < k → above (suc n) k ≡ above n k
unfolding above
low n k h = omega arith

high : (n k : ℕ) → k ≤ n → above (suc n) k ≡ above n k + 1
unfolding above
high n k h = omega arith

more : (low j n : ℕ) → ((m : ℕ) → low ≤ m → m < 10 * low → digits m ≡ j) → 1 ≤ low → 10 * low ≤ n → n < 100 * low → digits n ≡ j + 1
more low j n f g h l = length-next n (omega arith) ∙ ap (λ (d : ℕ). d + 1) (f (n / 10) (omega arith) (omega arith))

one : (n : ℕ) → 1 ≤ n → n < 10 → digits n ≡ 1
one n g h = length-low n h

two : (n : ℕ) → 10 ≤ n → n < 100 → digits n ≡ 2
two n g h = more 1 1 n one (omega arith) g h

three : (n : ℕ) → 100 ≤ n → n < 1000 → digits n ≡ 3
three n g h = more 10 2 n two (omega arith) g h

four : (n : ℕ) → 1000 ≤ n → n < 10000 → digits n ≡ 4
four n g h = more 100 3 n three (omega arith) g h

five : (n : ℕ) → 10000 ≤ n → n < 100000 → digits n ≡ 5
five n g h = more 1000 4 n four (omega arith) g h

six : (n : ℕ) → 100000 ≤ n → n < 1000000 → digits n ≡ 6
six n g h = more 10000 5 n five (omega arith) g h

-- one number more
step : (n : ℕ) → n < 1000000 → digit_sum n + digits n ≡ digit_sum (suc n)
step n h = go (dec_lt n 10) (dec_lt n 100) (dec_lt n 1000) (dec_lt n 10000) (dec_lt n 100000)
  where
    go : Dec (n < 10) → Dec (n < 100) → Dec (n < 1000) → Dec (n < 10000) → Dec (n < 100000) → digit_sum n + digits n ≡ digit_sum (suc n)
    go (yes a) b c d e =
        omega (
          arith,
          length-low n a,
          low n 10 (omega arith),
          low n 100 (omega arith),
          low n 1000 (omega arith),
          low n 10000 (omega arith),
          low n 100000 (omega arith),
        )
    go (no a) (yes b) c d e =
        omega (
          arith,
          two n (omega arith) b,
          high n 10 (omega arith),
          low n 100 (omega arith),
          low n 1000 (omega arith),
          low n 10000 (omega arith),
          low n 100000 (omega arith),
        )
    go (no a) (no b) (yes c) d e =
        omega (
          arith,
          three n (omega arith) c,
          high n 10 (omega arith),
          high n 100 (omega arith),
          low n 1000 (omega arith),
          low n 10000 (omega arith),
          low n 100000 (omega arith),
        )
    go (no a) (no b) (no c) (yes d) e =
        omega (
          arith,
          four n (omega arith) d,
          high n 10 (omega arith),
          high n 100 (omega arith),
          high n 1000 (omega arith),
          low n 10000 (omega arith),
          low n 100000 (omega arith),
        )
    go (no a) (no b) (no c) (no d) (yes e) =
        omega (
          arith,
          five n (omega arith) e,
          high n 10 (omega arith),
          high n 100 (omega arith),
          high n 1000 (omega arith),
          high n 10000 (omega arith),
          low n 100000 (omega arith),
        )
    go (no a) (no b) (no c) (no d) (no e) =
        omega (
          arith,
          six n (omega arith) h,
          high n 10 (omega arith),
          high n 100 (omega arith),
          high n 1000 (omega arith),
          high n 10000 (omega arith),
          high n 100000 (omega arith),
        )

pub digits-below : (n : ℕ) → n ≤ 1000000 → sum_to (λ i. length (decimal i)) n ≡ digit_sum n
unfolding above
digits-below zero h = refl
digits-below (suc n) h = ap (λ (d : ℕ). d + digits n) (digits-below n (omega arith)) ∙ step n (omega arith)
