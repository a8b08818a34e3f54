-- A number made wider, as it is passed on.
use Rattle.std.specs.Prelude.{◌≡◌, ℤ, T, leb}
use Rattle.std.proofs.Common.{◌∙◌, ap, to_z, of_z}
use Rattle.std.specs.Int.{Width, w64}
use mir.Val.{SFits, hbits}
use Rattle.ints.specs.Stored.{cast_back}

pub widened : {w : Width} {r z : ℤ} → r ≡ to_z w (of_z w z) → T (leb (hbits w) (hbits w64)) → SFits w z → to_z w64 (of_z w64 r) ≡ z
widened e t f = ap (λ (x : ℤ). to_z w64 (of_z w64 x)) e ∙ cast_back w64 t f
