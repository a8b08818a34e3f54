-- `window::look` meets its contract: one range, or two. Assumes nothing.
use mathlib.Core.Path.{refl}
use native.Mathlib.Omega.{arith}
use Rattle.window.proofs.Slots.{looking-plain, looking-joined, looking_parted}
use Rattle.window.proofs.windows.look.Goals as goal

pub returns-then-end-t : goal.returns-then-end-t
returns-then-end-t c =
    looking-plain _ _ _ _ _ (omega arith, omega arith) (omega arith) (omega arith) _ c.slot_of-start.ensures.0 (omega arith) _
    (omega arith) refl (omega arith) (omega arith) refl refl

pub returns-then-start-reach : goal.returns-then-start-reach
returns-then-start-reach c =
    looking-joined _ _ _ _ _ (omega arith, omega arith) (omega arith) (omega arith) _ c.slot_of-start.ensures.0 (omega arith) _
    (omega arith) (omega arith) (omega arith) refl refl refl refl

pub returns : goal.returns
returns c =
    looking_parted _ _ _ _ _ (omega arith, omega arith) (omega arith) (omega arith) _ c.slot_of-start.ensures.0 (omega arith) _
    (omega arith) (omega arith) (omega arith) (omega arith) (omega arith) (omega arith) refl
