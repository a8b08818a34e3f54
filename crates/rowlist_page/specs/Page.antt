-- What program rowlist prints: the rows of a rule, its whole output, and the statement that they are exact, which Exact proves.
use Rattle.std.specs.Prelude.{List, ◌++◌, ℕ, ◌+◌, ◌*◌, length}
use Rattle.rules.specs.Rule.{size}
use Rattle.rules.specs.Table.{nodes_of}
use Rattle.rules.specs.Rows.{Row, rows_of, rows_bytes, rows_in}
use Rattle.rules.specs.Demands.{Answer, Written}
use Rattle.rules.specs.Demands.Answer.{refused, answered}
use Rattle.rules.specs.Demands.Written.{wrote}
use Rattle.rules.specs.Outcome.{rows_outcome}
use Rattle.rowlist_text.specs.Sizes.{rows_room}
use Rattle.rowlist_text.specs.RowText.{head_text, rows_text}
use Rattle.program_rule.specs.Output.{RuleExact, printed}
use Rattle.program_rule.specs.Outcome.{Work, rule_then, output}

-- what a list of rows shows: "counts of rows and variables, then row number, relation, right side, signed terms"
pub record Listed : Type 0 where
  pub variables : ℕ
  pub rows : List Row

abbrev pub listing_text : Listed → List ℕ
listing_text x = head_text (length x.rows) x.variables ++ rows_text 0 x.rows

-- ---- exact: 11 where the rows of the rule have more bytes than it holds, and else its rows and variables.
-- Request N8: the loop slot is T, "and rowlist uses that".

abbrev pub ListExact : ((T M : ℕ) (text : List ℕ) → Answer Listed) → Type 0
ListExact =
    RuleExact rows_room (λ T M p. length (rows_bytes (rows_of T M T (nodes_of p))))
    (λ T M p. record { variables = (M + size p) * T; rows = rows_of T M T (nodes_of p) })

-- ---- computed; contracts cite these

-- the rows of a rule of N nodes, as the row writer's records say them; there are (M + N)·T variables
abbrev pub rows_then : (T M N : ℕ) → Answer Written → Answer Listed
rows_then T M N (refused k) = refused k
rows_then T M N (answered (wrote R bytes)) = answered (record { variables = (M + N) * T; rows = rows_in R bytes })

abbrev pub list_work : Work Listed
list_work T M N table = rows_then T M N (rows_outcome T M T table rows_room)

-- 7 and the reader's 11 do not occur, since the reader's table is good and fits; and 13 does not, since the loop slot is T
abbrev pub listed : (T M : ℕ) (text : List ℕ) → Answer Listed
listed = rule_then list_work

unfoldable pub listing : (T M : ℕ) (text : List ℕ) → List ℕ
listing T M text = printed listing_text (listed T M text)

abbrev pub page : (input : List ℕ) → List ℕ
page = output listing
