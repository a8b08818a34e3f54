-- What program rowlist prints is exact.
use Rattle.std.specs.Prelude.{◌≡◌, Bool, true, false, List, ℕ, ◌+◌, ◌*◌, leb, length}
use Rattle.std.proofs.Math.Path.{refl}
use Rattle.std.proofs.Common.{ap, ◌∙◌}
use Rattle.rules.specs.Quantities.{SlotsAllowed, AtomsAllowed}
use Rattle.rules.specs.Rule.{size}
use Rattle.rules.specs.Table.{Node, Good, table_bytes, nodes_of}
use Rattle.rules.proofs.TableTest.{good-nodes}
use Rattle.rules.specs.Rows.{Row, rows_of, rows_bytes}
use Rattle.rules.proofs.RowRecords.{rows_back, rows_recordable}
use Rattle.rules.specs.Demands.Answer.{answered}
use Rattle.rules.specs.Demands.Written.{wrote}
use Rattle.rules.specs.Outcome.{require, rows_outcome}
use Rattle.rowlist_text.specs.Sizes.{rows_room}
use Rattle.program_rule.specs.Output.{OutputExact, StopsExact}
use Rattle.program_rule.specs.Outcome.{enough}
use Rattle.program_rule.specs.Cut.{Cut}
use Rattle.program_rule.proofs.Cut.{printed-cut}
use Rattle.program_rule.specs.Whole.{output_exact, stops_exact}
use Rattle.program_rule.proofs.Refusing.{good-passes, rule_exact}
use Rattle.rowlist_page.specs.Page.{listing_text, ListExact, rows_then, list_work, listed, listing, page}

-- ---- "Of the refusals of reader and row writer, the lowest is printed", and else the rows of the rule

-- the work on a good table, whose nodes are ns
module _ (T M N : ℕ) (table : List ℕ) (ns : List Node) (slots : SlotsAllowed T) (atoms : AtomsAllowed M) (good : Good M table ns) where
  rows-outcome : rows_outcome T M T table rows_room ≡
      require (leb (length (rows_bytes (rows_of T M T ns))) rows_room) 11 (answered (wrote (length (rows_of T M T ns)) (rows_bytes (rows_of T M T ns))))
  unfolding rows_outcome
  rows-outcome = good-passes T M table ns _ slots atoms good ∙ rw (good-nodes M table ns good) refl

  rows-listed : list_work T M N table ≡
      require (leb (length (rows_bytes (rows_of T M T ns))) rows_room) 11 (answered (record { variables = (M + N) * T; rows = rows_of T M T ns }))
  rows-listed = ap (rows_then T M N) rows-outcome ∙ go (leb (length (rows_bytes (rows_of T M T ns))) rows_room)
    where
      go : (b : Bool) → rows_then T M N (require b 11 (answered (wrote (length (rows_of T M T ns)) (rows_bytes (rows_of T M T ns))))) ≡
          require b 11 (answered (record { variables = (M + N) * T; rows = rows_of T M T ns }))
      go true =
          ap (λ (rs : List Row). answered (record { variables = (M + N) * T; rows = rs }))
          (rows_back (rows_of T M T ns) (rows_recordable T M T slots.1 ns))
      go false = refl

pub list_exact : ListExact listed
list_exact = rule_exact list_work rows_room _ _ (λ T M p s m g. rows-listed T M (size p) (table_bytes (nodes_of p)) (nodes_of p) s m g)

-- ---- the output of the whole input

pub listing-cut : Cut listing
unfolding listing
listing-cut = printed-cut list_work listing_text

pub page_exact : OutputExact listing page
page_exact = output_exact listing listing-cut

pub page_stops : StopsExact enough page
page_stops = stops_exact listing listing-cut
