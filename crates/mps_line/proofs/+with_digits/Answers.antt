-- `mps_line::with_digits` meets its contract. The number falls at each call.
use Rattle.std.proofs.Common.{List, ℕ, sym, ap, ◌∙◌, arith}
use Rattle.text.proofs.DecimalLaws.{decimal-low, decimal-pair}
use Rattle.mps_line.specs.DigitWords.{after, pair-after}
use Rattle.mps_line.proofs.+with_digits.Goals as goal

pub returns-in-0-to-9 : goal.returns-in-0-to-9
returns-in-0-to-9 t c = c.with_digit.ensures ∙ ap (λ (l : List ℕ). after l c.args.rest) (sym (decimal-low c.args.n (omega arith)))

pub returns-in-10-to-99 : goal.returns-in-10-to-99
returns-in-10-to-99 t c = c.with_pair.ensures ∙ ap (λ (l : List ℕ). after l c.args.rest) (sym (decimal-pair c.args.n (omega arith) (omega arith)))

pub returns-in_default : goal.returns-in_default
returns-in_default t c = c.with_digits.ensures ∙ pair-after c.args.rest c.args.n _ (omega arith) c.with_pair-in_default.ensures
