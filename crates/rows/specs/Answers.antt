-- What the row writer answers once the checks of T, M, L and the table are passed.
use Rattle.std.specs.Prelude.{◌≡◌, List, ℕ, ◌≤◌, ◌<◌, leb, length}
use Rattle.std.proofs.lemmas.Bool.{lt-leb}
use Rattle.std.proofs.Common.{le-leb}
use Rattle.rules.specs.Demands.{Answer, Written}
use Rattle.rules.specs.Demands.Answer.{refused, answered}
use Rattle.rules.specs.Demands.Written.{wrote}
use Rattle.rules.specs.Rows.{rows_of, rows_bytes}
use Rattle.rules.specs.TableTest.{nodes_in}
use Rattle.rules.specs.Outcome.{require, rows_outcome}
use Rattle.table.specs.Checks.{check_of, after_check, checked}

unfoldable pub rows_answer : (T M L : ℕ) (table : List ℕ) (room : ℕ) → Answer Written
rows_answer T M L table room =
    require (leb (length (rows_bytes (rows_of T M L (nodes_in table)))) room) 11
    (answered (wrote (length (rows_of T M L (nodes_in table))) (rows_bytes (rows_of T M L (nodes_in table)))))

pub rows-checked : (T M L : ℕ) (table : List ℕ) (room : ℕ) → rows_outcome T M L table room ≡ after_check (check_of T M L table) (rows_answer T M L table room)
unfolding rows_outcome rows_answer
rows-checked T M L table room = checked T M L table _

module _ (T M L : ℕ) (table : List ℕ) (room : ℕ) where
  abbrev bytes : List ℕ
  bytes = rows_bytes (rows_of T M L (nodes_in table))

  pub too_short : room < length bytes → rows_answer T M L table room ≡ refused 11
  unfolding rows_answer
  too_short h = rw (lt-leb (length bytes) room h)

  pub long-enough : length bytes ≤ room → rows_answer T M L table room ≡ answered (wrote (length (rows_of T M L (nodes_in table))) bytes)
  unfolding rows_answer
  long-enough h = rw (le-leb (length bytes) room h)
