-- `demands::first_slot` meets its contract, from the contract of `evaluator::first_slot`.
use mathlib.Core.Path.{subst⁻¹}
use Rattle.rules.proofs.Words.{first-slot_exact}
use Rattle.rules.specs.Demands.{FirstAnswers}
use Rattle.demands.proofs.first_slot.Goals as goal

pub returns : goal.returns
returns c = let s = c in subst⁻¹ (FirstAnswers s.args.word) c.first_slot.ensures (first-slot_exact s.args.word s.ranges.word.fits)
