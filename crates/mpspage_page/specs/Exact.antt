-- What program mpspage prints is exact.
use Rattle.std.specs.Prelude.{◌≡◌, refl, List, ℕ, leb, length}
use Rattle.std.proofs.Common.{◌∙◌}
use Rattle.rules.specs.Quantities.{SlotsAllowed, AtomsAllowed}
use Rattle.rules.specs.Table.{Node, Good, table_bytes, nodes_of}
use Rattle.rules.proofs.TableTest.{good-nodes}
use Rattle.rules.specs.Demands.Answer.{answered}
use Rattle.rules.specs.Demands.Written.{wrote}
use Rattle.rules.specs.Outcome.{require}
use Rattle.mps.specs.Page
use Rattle.mps.specs.Outcome.{page_outcome}
use Rattle.program_rule.specs.Output.{OutputExact, StopsExact}
use Rattle.program_rule.specs.Outcome.{enough}
use Rattle.program_rule.specs.Cut.{Cut}
use Rattle.program_rule.proofs.Cut.{printed-cut}
use Rattle.program_rule.specs.Whole.{output_exact, stops_exact}
use Rattle.program_rule.proofs.Refusing.{good-passes, rule_exact}
use Rattle.mpspage_page.specs.Page.{page_room, page_text, PagedExact, page_work, paged, page_printed, page}

-- ---- the first refusal, and else the page of the rule

-- the page of a good table, whose nodes are ns
page-outcome : (room T M : ℕ) (table : List ℕ) (ns : List Node) → SlotsAllowed T → AtomsAllowed M → Good M table ns →
    page_outcome T M T table room ≡
    require (leb (length (Page.page T M T ns)) room) 11 (answered (wrote (length (Page.page T M T ns)) (Page.page T M T ns)))
unfolding page_outcome
page-outcome room T M table ns slots atoms good = good-passes T M table ns _ slots atoms good ∙ rw (good-nodes M table ns good) refl

pub paged_exact : (room : ℕ) → PagedExact room (paged room)
paged_exact room =
    rule_exact (page_work room) room _ _ (λ T M p s m g. page-outcome room T M (table_bytes (nodes_of p)) (nodes_of p) s m g)

-- ---- the output of the whole input

pub page-cut : (room : ℕ) → Cut (page_printed room)
unfolding page_printed
page-cut room = printed-cut (page_work room) page_text

pub page_exact : OutputExact (page_printed page_room) page
page_exact = output_exact (page_printed page_room) (page-cut page_room)

pub page_stops : StopsExact enough page
page_stops = stops_exact (page_printed page_room) (page-cut page_room)
