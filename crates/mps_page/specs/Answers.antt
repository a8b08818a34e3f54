-- What the page writer answers once the checks of T, M, L and the table are passed.
use Rattle.std.specs.Prelude.{◌≡◌, List, ℕ, ◌≤◌, ◌<◌, leb, length}
use Rattle.std.proofs.lemmas.Bool.{lt-leb}
use Rattle.std.proofs.Common.{le-leb}
use Rattle.rules.specs.Demands.{Answer, Written}
use Rattle.rules.specs.Demands.Answer.{refused, answered}
use Rattle.rules.specs.Demands.Written.{wrote}
use Rattle.rules.specs.TableTest.{nodes_in}
use Rattle.rules.specs.Outcome.{require}
use Rattle.table.specs.Checks.{check_of, after_check, checked}
use Rattle.mps.specs.Page.{page}
use Rattle.mps.specs.Outcome.{page_outcome}

module _ (T M L : ℕ) (table : List ℕ) (room : ℕ) where
  abbrev text : List ℕ
  text = page T M L (nodes_in table)

  unfoldable pub page_answer : Answer Written
  page_answer = require (leb (length text) room) 11 (answered (wrote (length text) text))

  pub page-checked : page_outcome T M L table room ≡ after_check (check_of T M L table) page_answer
  unfolding page_outcome page_answer
  page-checked = checked T M L table _

  pub too_short : room < length text → page_answer ≡ refused 11
  unfolding page_answer
  too_short h = rw (lt-leb (length text) room h)

  pub long-enough : length text ≤ room → page_answer ≡ answered (wrote (length text) text)
  unfolding page_answer
  long-enough h = rw (le-leb (length text) room h)

-- a page has at most 200,000,000 bytes, so its length fits 32 bits
abbrev pub Short : Answer ℕ → Type 0
Short (refused k) = Unit {0}
Short (answered n) = n ≤ 200000000
