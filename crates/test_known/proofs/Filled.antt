-- The length of a buffer that holds one number throughout: a law for any length, so that a long list is not computed.
use mathlib.Core.Path.{◌≡◌, sym}
use Prim.Native.Nat.{ℕ}
use lib.ListN.{length, replicate, length-replicate}

pub filled_length : (n x : ℕ) → n ≡ length (replicate {A = ℕ} n x)
filled_length n x = sym (length-replicate {A = ℕ} n x)
