-- `evaluator::first_slot` meets its contract. Assumes nothing.
use native.Mathlib.Omega.{arith}
use Rattle.evaluator.specs.First.{first-at, first-none}
use Rattle.evaluator.proofs.first_slot.Goals as goal

pub returns-then-zeros-lt64 : goal.returns-then-zeros-lt64
returns-then-zeros-lt64 c = first-at c.args.word c.ranges.word.fits (omega arith)

pub returns-else-zeros-lt64 : goal.returns-else-zeros-lt64
returns-else-zeros-lt64 c = first-none c.args.word c.ranges.word.fits c.if-zeros-lt64.false
