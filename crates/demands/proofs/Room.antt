-- The records that a reader hands out lie in the lent buffer.
use Rattle.std.proofs.Common.{◌≡◌, sym, ℕ, ◌*◌, ◌≤◌, List, [], length, take, arith}
use lib.Seq.{length-take-le}
use Rattle.rules.specs.Demands.Answer.{answered}
use Rattle.rules.specs.Outcome.{returned, buffer, read_outcome}
use Rattle.headlines.proofs.Printing.{back-room}

module _ (m : ℕ) (text table table' : List ℕ) (n : ℕ) (set : table' ≡ buffer (read_outcome m text (length table)) table)
    (told : answered n ≡ returned (read_outcome m text (length table))) where
  pub records_fit : (8 * n ≤ length table') × (length table' ≡ length table)
  records_fit = let h = back-room m text table [] [] table' set n told in (omega (arith, h), h.1)

  pub records_length : 8 * n ≡ length (take (8 * n) table')
  records_length = sym (length-take-le (8 * n) table' records_fit.0)
