-- `window::slot_count` meets its contract. Assumes nothing.
use native.Mathlib.Omega.{arith}
use Rattle.window.proofs.Slots.{slot-count}
use Rattle.window.proofs.windows.slot_count.Goals as goal

pub returns : goal.returns
returns c =
    let x = c.args in
    let start = c.slot_of-start.ensures in
    let is = slot-count x.t x.l x.s x.a x.b (omega arith, omega arith) (omega arith) (omega arith) _ start.0 start.1 in
    (omega (arith, is), omega arith)
