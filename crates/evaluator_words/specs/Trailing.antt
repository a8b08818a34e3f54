-- The zeros below the lowest set bit of a word.
use Rattle.std.specs.Prelude.{◌≡◌, refl, true, false, ℕ, zero, suc, ◌/◌, ◌%◌, ◌<◌}
use Rattle.std.proofs.Common.{mod-lt, arith}
use Rattle.std.specs.Int.Count.{count_trailing_zeros, under}
use Rattle.evaluator_words.specs.Bits.{on}

pub trailing_below : (k w j : ℕ) → j < count_trailing_zeros k w → on w j ≡ false
unfolding count_trailing_zeros on
trailing_below zero w j h = absurd (omega arith)
trailing_below (suc k) w j h = go (trailing_below k (w / 2)) (w % 2) refl j h
  where
    go : ((i : ℕ) → i < count_trailing_zeros k (w / 2) → on (w / 2) i ≡ false) → (d : ℕ) → w % 2 ≡ d → (i : ℕ) → i < under d (count_trailing_zeros k (w / 2)) → on w i ≡ false
    go below zero e zero h = rw e
    go below zero e (suc i) h = below i (omega arith)
    go below (suc d) e i h = absurd (omega arith)

pub trailing_at : (k w : ℕ) → count_trailing_zeros k w < k → on w (count_trailing_zeros k w) ≡ true
unfolding count_trailing_zeros on
trailing_at zero w h = absurd (omega arith)
trailing_at (suc k) w h = go (trailing_at k (w / 2)) (w % 2) refl (mod-lt w (omega arith)) h
  where
    go : (count_trailing_zeros k (w / 2) < k → on (w / 2) (count_trailing_zeros k (w / 2)) ≡ true) → (d : ℕ) → w % 2 ≡ d → w % 2 < 2 → under d
        (count_trailing_zeros k (w / 2)) < suc k → on w (under d (count_trailing_zeros k (w / 2))) ≡ true
    go above zero e l h = above (omega arith)
    go above (suc zero) e l h = rw e
    go above (suc (suc d)) e l h = absurd (omega arith)
