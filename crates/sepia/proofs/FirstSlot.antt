-- A first slot fits 32 bits.
use Rattle.std.proofs.Common.{◌≡◌, refl, sym, ℕ, arith}
use Rattle.std.proofs.Math.Option.{Option, none, some}
use Rattle.rules.specs.Words.{first_slot}
use Rattle.evaluator.specs.First.{slot-most}
use Rattle.sepia_answers.specs.Boundary.{SlotFits}

pub slot-fits : (word : ℕ) → SlotFits (first_slot word)
slot-fits word = go (first_slot word) refl
  where
    go : (x : Option ℕ) → first_slot word ≡ x → SlotFits x
    go none e = tt
    go (some t) e = omega (arith, slot-most word t (sym e))
