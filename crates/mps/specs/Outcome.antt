-- What the call mps_page answers and writes: "Checks: those of the row writer, with 11 for the page buffer." "The result .. is the length in bytes."
use Rattle.std.specs.Prelude.{List, ℕ, leb, length}
use Rattle.rules.specs.Demands.{Answer, Written}
use Rattle.rules.specs.Demands.Answer.{answered}
use Rattle.rules.specs.Demands.Written.{wrote}
use Rattle.rules.specs.TableTest.{nodes_in}
use Rattle.rules.specs.Outcome.{require, table_checked}
use Rattle.mps.specs.Page.{page}

unfoldable pub page_outcome : (T M L : ℕ) (table : List ℕ) (room : ℕ) → Answer Written
page_outcome T M L table room =
    table_checked T M L table
    (require (leb (length (page T M L (nodes_in table))) room) 11
    (answered (wrote (length (page T M L (nodes_in table))) (page T M L (nodes_in table)))))
