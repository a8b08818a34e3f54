-- `window::total` meets its contract. The loop's invariant: the slots of the windows passed are counted. Assumes nothing.
use mathlib.Core.Path.{sym}
use native.Mathlib.Omega.{arith}
use Rattle.window.specs.Total.{total-none, total-more}
use Rattle.window.proofs.windows.total.Goals as goal

pub loop-s-init : goal.loop-s-init
loop-s-init c = (sym (total-none _ _ _ _), omega arith)

pub loop-s-preserved : goal.loop-s-preserved
loop-s-preserved c = let a = c.args in (omega (arith, total-more a.t a.l a.a a.b c.loop-s.s), omega arith)
