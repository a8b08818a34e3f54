-- What program mpspage prints: the MPS page of a rule, its whole output, and the statement that they are exact, which Exact proves.
use Rattle.std.specs.Prelude.{List, ℕ, length}
use Rattle.rules.specs.Table.{nodes_of}
use Rattle.rules.specs.Demands.{Answer, Written}
use Rattle.rules.specs.Demands.Written.{wrote}
use Rattle.mps.specs.Page
use Rattle.mps.specs.Outcome.{page_outcome}
use Rattle.program_rule.specs.Output.{RuleExact, printed}
use Rattle.program_rule.specs.Outcome.{Work, rule_then, output}

-- the program holds 4,194,304 bytes of page
abbrev pub page_room : ℕ
page_room = 4194304

abbrev pub page_text : Written → List ℕ
page_text (wrote n bytes) = bytes

-- ---- exact: 11 where the page of the rule has more than `room` bytes, and else the page and its length. The loop slot is T, as rowlist's is.

abbrev pub PagedExact : (room : ℕ) → ((T M : ℕ) (text : List ℕ) → Answer Written) → Type 0
PagedExact room =
    RuleExact room (λ T M p. length (Page.page T M T (nodes_of p)))
    (λ T M p. wrote (length (Page.page T M T (nodes_of p))) (Page.page T M T (nodes_of p)))

-- ---- computed; contracts cite these

abbrev pub page_work : (room : ℕ) → Work Written
page_work room T M N table = page_outcome T M T table room

-- 7 and the reader's 11 do not occur, since the reader's table is good and fits; and 13 does not, since the loop slot is T
abbrev pub paged : (room T M : ℕ) (text : List ℕ) → Answer Written
paged room = rule_then (page_work room)

unfoldable pub page_printed : (room T M : ℕ) (text : List ℕ) → List ℕ
page_printed room T M text = printed page_text (paged room T M text)

abbrev pub page : (input : List ℕ) → List ℕ
page = output (page_printed page_room)
