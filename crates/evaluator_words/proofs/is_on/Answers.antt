-- `evaluator_words::is_on` meets its contract. Assumes nothing.
use mathlib.Core.Path.{sym}
use Rattle.evaluator_words.specs.Bits.{on-is}
use Rattle.evaluator_words.proofs.is_on.Goals as goal

pub returns : goal.returns
returns c = sym (on-is c.args.w c.args.s)
