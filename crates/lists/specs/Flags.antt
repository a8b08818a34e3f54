-- From a flag in the code, the answer of a test or its negation, to the test: `if !test(..)`, taken and left, where the test ensures that its answer is b.
use Rattle.std.specs.Prelude.{◌≡◌, Bool, true, false, not}
use Rattle.std.proofs.Common.{sym, ◌∙◌}
use Rattle.std.proofs.lemmas.Bool.{not-true, not-false}

pub off : {r b : Bool} → r ≡ b → not r ≡ true → b ≡ false
off {r} e f = sym e ∙ not-true r f

pub on : {r b : Bool} → r ≡ b → not r ≡ false → b ≡ true
on {r} e f = sym e ∙ not-false r f
