-- A loop that looks upwards for the first number at which a test passes: of n numbers it is at number i.
use Rattle.std.specs.Prelude.{◌≡◌, refl, Bool, true, false, cond}
use Rattle.std.proofs.Common.{sym, ◌∙◌, add-one}
use Rattle.std.proofs.Math.Path.{ap}
use Rattle.std.proofs.Math.Option.{none, some}
use Prim.Native.Nat.{ℕ, suc, ◌+◌, ◌-◌, ◌≤◌, ◌<◌}
use native.Mathlib.Omega.{arith}
use Rattle.lists.specs.First.{first}

module _ (f : ℕ → Bool) (n i : ℕ) where
  step : i < n → first f (n - i) i ≡ cond (f i) (some i) (first f (n - (i + 1)) (suc i))
  unfolding first
  step h = let m : n - i ≡ suc (n - (i + 1)) = omega arith in ap (λ (k : ℕ). first f k i) m

  -- the test fails at i, and the loop goes on
  pub scan_more : i < n → f i ≡ false → first f (n - i) i ≡ first f (n - (i + 1)) (i + 1)
  scan_more h t = step h ∙ rw (t, add-one i)

  -- it passes at i
  pub scan_found : i < n → f i ≡ true → first f (n - i) i ≡ some i
  scan_found h t = step h ∙ rw t

  -- there is none
  pub scan_over : i ≡ n → first f (n - i) i ≡ none
  unfolding first
  scan_over e = let z : n - i ≡ 0 = omega arith in ap (λ (k : ℕ). first f k i) z

pub scan_start : (f : ℕ → Bool) (n : ℕ) → first f (n - 0) 0 ≡ first f n 0
scan_start f n = let z : n - 0 ≡ n = omega arith in ap (λ (k : ℕ). first f k 0) z

-- ---- several numbers at once

-- none of the numbers from i up to j passes the test: a search of any n numbers skips them
abbrev pub Skipped : (ℕ → Bool) → (i j : ℕ) → Type 0
Skipped f i j = (n : ℕ) → j ≤ n → first f (n - i) i ≡ first f (n - j) j

pub skipped-none : (f : ℕ → Bool) (i : ℕ) → Skipped f i i
skipped-none f i n h = refl

pub skipped-more : (f : ℕ → Bool) (i j : ℕ) → Skipped f i j → f j ≡ false → Skipped f i (j + 1)
skipped-more f i j p t n h = p n (omega arith) ∙ scan_more f n j (omega arith) t

-- by counting those that pass: while the count is 0, there is none
pub skipped-counted : (f : ℕ → Bool) (i j : ℕ) (b : Bool) {count : ℕ} → b ≡ f j → (count ≡ 0 → Skipped f i j) → count + cond b 1 0 ≡ 0 → Skipped f i (j + 1)
skipped-counted f i j true e p z = absurd (omega arith)
skipped-counted f i j false e p z = skipped-more f i j (p (omega arith)) (sym e)
