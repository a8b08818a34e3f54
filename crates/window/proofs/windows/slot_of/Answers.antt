-- `window::slot_of` meets its contract. Assumes nothing.
use mathlib.Core.Path.{◌≡◌, sym, ap, ◌∙◌}
use Prim.Native.Nat.{ℕ, ◌+◌, ◌-◌, ◌%◌, ◌≤◌, ◌<◌}
use native.Mathlib.Nat.{mod-lt}
use native.Mathlib.Omega.{arith}
use Rattle.rules.specs.Quantities.{LoopAllowed}
use Rattle.rules.specs.Truth.{slot_of}
use Rattle.rules.proofs.Slots.{slot_is, slot_no_loop}
use Rattle.window.proofs.Slots.{slot-round}
use Rattle.window.proofs.windows.slot_of.Goals as goal

low : (i d : ℕ) → 1 ≤ d → i % d < d
low i d h = mod-lt i h

pub returns-then-k-t : goal.returns-then-k-t
returns-then-k-t c = (sym (slot_is _ _ (omega arith, omega arith) _ (omega arith)), omega arith)

pub returns-then-l-t : goal.returns-then-l-t
returns-then-l-t c =
    let a = c.args in
    let e : a.l ≡ a.t = omega arith in
    let last : slot_of a.t a.l (a.k + 1) ≡ a.t = ap (λ (n : ℕ). slot_of a.t n (a.k + 1)) e
    ∙ slot_no_loop a.t (a.k + 1) (omega arith) ∙ omega arith in
    (omega (arith, last), omega arith)

pub returns : goal.returns
returns c =
    let a = c.args in
    let loop : LoopAllowed a.t a.l = (omega arith, omega arith) in
    let r = (a.k - a.t) % (a.t - a.l + 1) in
    let is : slot_of a.t a.l (a.k + 1) ≡ a.l + r = slot-round a.t a.l loop a.k (omega arith) in
    (omega (arith, is), omega (arith, low (a.k - a.t) (a.t - a.l + 1) (omega arith)))
