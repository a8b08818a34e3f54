-- What the printer answers and writes, computed: "Checks: 2, then 7, then 3 when the text would pass 1,024 bytes, then 11 for its buffer."
use Rattle.std.specs.Prelude.{List, ℕ, leb, length}
use Rattle.rules.specs.Table.{rule_at, root}
use Rattle.rules.specs.TableTest.{good, nodes_in}
use Rattle.rules.specs.Demands.{Answer, Written}
use Rattle.rules.specs.Demands.Answer.{answered}
use Rattle.rules.specs.Demands.Written.{wrote}
use Rattle.rules.specs.Outcome.{require, between}
use Rattle.printer_text.specs.Shown.{printed}

-- the text of a table's root
abbrev pub root_text : List ℕ → List ℕ
root_text table = printed (rule_at (nodes_in table) (root (nodes_in table)))

unfoldable pub print_outcome : (M : ℕ) (table : List ℕ) (room : ℕ) → Answer Written
print_outcome M table room =
    require (between 1 16 M) 2
    (require (good M table) 7 (require (leb (length (root_text table)) 1024) 3
    (require (leb (length (root_text table)) room) 11 (answered (wrote (length (root_text table)) (root_text table))))))
