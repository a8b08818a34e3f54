-- The slots of a window from every slot, counted.
use Rattle.std.specs.Prelude.{◌≡◌, List}
use Rattle.std.proofs.Math.Path.{ap}
use Rattle.std.proofs.Common.{◌∙◌}
use Prim.Native.Nat.{ℕ, zero, suc, ◌+◌, ◌*◌}
use Rattle.std.proofs.Math.Nat.{mul-add}
use native.Mathlib.Omega.{arith}
use Rattle.std.proofs.Math.ListN.{length, length-append}
use Rattle.lists.specs.Flat.{flat, flat-zero, flat-more}
use Rattle.rules.specs.Rows.{window_slots}

module _ (T L a b : ℕ) where
  abbrev pub slots_at : ℕ → List ℕ
  slots_at s = window_slots T L (s + 1) a b

  -- from the first k slots
  unfoldable pub total_to : (k : ℕ) → ℕ
  total_to k = length (flat slots_at k)

  pub total-none : total_to 0 ≡ 0
  unfolding total_to
  total-none = ap length (flat-zero slots_at)

  pub total-more : (k : ℕ) → total_to (k + 1) ≡ total_to k + length (slots_at k)
  unfolding total_to
  total-more k = ap length (flat-more slots_at k) ∙ length-append (flat slots_at k) (slots_at k)

  -- from all slots
  abbrev pub slot_total : ℕ
  slot_total = total_to T

  -- parts of c for each slot of the window, and of d
  module _ {A : Type 0} (f : ℕ → List A) (c d : ℕ) (h : (s : ℕ) → length (f s) ≡ c * length (slots_at s) + d) where
    flat-to : (k : ℕ) → length (flat f k) ≡ c * total_to k + d * k
    unfolding flat total_to
    flat-to zero = omega arith
    flat-to (suc k) =
        let x = length-append (flat f k) (f k) in
        let y = length-append (flat slots_at k) (slots_at k) in
        let z : c * length (flat slots_at (suc k)) ≡ c * length (flat slots_at k) + c * length (slots_at k) =
        ap (λ (n : ℕ). c * n) y ∙ mul-add c (length (flat slots_at k)) (length (slots_at k)) in
        let w : d * suc k ≡ d * k + d = omega arith in
        omega (arith, x, z, w, h k, flat-to k)

    pub length-flat-slots : length (flat f T) ≡ c * slot_total + d * T
    length-flat-slots = flat-to T
