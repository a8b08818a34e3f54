-- Where no figure is outside the limits, every figure is near them.
use Rattle.std.specs.Prelude.{◌≡◌, List, ℕ, zero, suc, ◌+◌, ◌≤◌, ◌<◌, T as Is, ltb, ℤ, pos, negsuc, neg_ℤ, nat_abs, length}
use Rattle.std.proofs.Math.Option.{none}
use Rattle.std.proofs.Math.Decide.{dec_lt}
use Rattle.std.proofs.Common.{arith, lt→ltb}
use Rattle.std.proofs.Math.ListN.{get_or-eq_default}
use Rattle.std.specs.Int.Signed.{lt_z}
use Rattle.lists.specs.Tests.{or_left, or_right}
use Rattle.lists.specs.First.{first, first_found, Found}
use Rattle.rules.specs.Quantities.{one}
use Rattle.rules.specs.Rows.{value_at}
use Rattle.rules.specs.Verdicts.{is_outside}
use Rattle.millionths.specs.Bounds as Bounds
use Rattle.judge_limits.specs.Tests.{outside_at}
use Rattle.judge_slot.specs.Spreads.{Limited}

near : (e : ℕ) (x : ℤ) → (Is (is_outside e x) → ⊥) → nat_abs x ≤ one + e
near e (pos n) h = go (dec_lt (one + e) n)
  where
    go : Dec (one + e < n) → n ≤ one + e
    go (yes z) = absurd (h (or_right (lt_z (pos n) (neg_ℤ (pos e))) (ltb (one + e) n) (lt→ltb (one + e) n z)))
    go (no z) = omega arith
near zero (negsuc n) h = absurd (h tt)
near (suc k) (negsuc n) h = go (dec_lt k n)
  where
    go : Dec (k < n) → suc n ≤ one + suc k
    go (yes z) = absurd (h (or_left (ltb k n) (lt_z (pos (one + suc k)) (negsuc n)) (lt→ltb k n z)))
    go (no z) = omega arith

pub limited : (e : ℕ) (xs : List ℤ) → e < 65536 → first (outside_at e xs) (length xs) 0 ≡ none → Limited xs
limited e xs h p v = go (dec_lt v (length xs))
  where
    found : Found (outside_at e xs) (length xs) 0 none
    found = rw p at (first_found (outside_at e xs) (length xs) 0)

    go : Dec (v < length xs) → nat_abs (value_at xs v) ≤ Bounds.near
    go (yes z) = let n = near e (value_at xs v) (found v (omega arith) (omega arith)) in omega arith
    go (no z) = rw (get_or-eq_default xs (pos 0) {n = v} (omega arith)) (omega arith)
