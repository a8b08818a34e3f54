-- `mpspage::main` is safe: its page has room for a refusal. The laws are of a list of any length, so that this long one is not computed. Assumes nothing.
use mathlib.Core.Path.{◌≡◌, sym}
use Prim.Native.Nat.{ℕ, ◌≤◌}
use native.Mathlib.Omega.{arith}
use lib.ListN.{length, replicate, length-replicate}
use Rattle.program_rule.specs.Sizes.{refusal_room}
use Rattle.mpspage_page.specs.Page.{page_room}
use Rattle.mpspage.proofs.main.Goals as goal

zeros-length : (n : ℕ) → n ≡ length (replicate {A = ℕ} n 0)
zeros-length n = sym (length-replicate {A = ℕ} n 0)

zeros-room : (n : ℕ) → refusal_room ≤ n → refusal_room ≤ length (replicate {A = ℕ} n 0)
zeros-room n h = omega (arith, zeros-length n)

pub slice_bounds-write_page-end : goal.slice_bounds-write_page-end
slice_bounds-write_page-end c = zeros-length page_room

pub write_page-requires : goal.write_page-requires
write_page-requires c = zeros-room page_room (omega arith)
