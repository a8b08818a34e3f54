-- The place n·T + s of slot s of part n, with T slots to a part; slots count from 0.
use Rattle.std.specs.Prelude.{◌≡◌, ℕ, ◌+◌, ◌*◌, ◌≤◌, ◌<◌}
use Rattle.std.proofs.Common.{ap, mul-le-mul_right, suc-mul, arith}
use Rattle.std.proofs.Math.Decide.{dec_lt}

-- a part before the end ends within the whole
pub place_end : {c n : ℕ} (T : ℕ) → c < n → c * T + T ≤ n * T
place_end {c} {n} T h = omega (arith, suc-mul c T, mul-le-mul_right T h)

-- and so do its slots
pub place_lt : {c n s T : ℕ} → c < n → s < T → c * T + s < n * T
place_lt {c} {n} {s} {T} h g = omega (arith, place_end T h)

-- a place tells the part and the slot
pub place_unique : {a b x y : ℕ} (T : ℕ) → a < T → b < T → y * T + a ≡ x * T + b → (y ≡ x) × (a ≡ b)
place_unique {a} {b} {x} {y} T h g e = go (dec_lt y x) (dec_lt x y)
  where
    go : Dec (y < x) → Dec (x < y) → (y ≡ x) × (a ≡ b)
    go (yes l) m = absurd (omega (arith, place_end T l))
    go (no l) (yes m) = absurd (omega (arith, place_end T m))
    go (no l) (no m) =
        let same : y ≡ x = omega arith in
        (same, omega (arith, ap (λ (z : ℕ). z * T) same))
