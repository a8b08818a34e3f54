use Rattle.std.proofs.Common.{◌+◌, ◌*◌, ◌/◌, ◌≤◌, length}
use Rattle.rules.specs.Rows.{terms_in}
use Rattle.rowlist_text.specs.RowText.{terms_text}
use Rattle.rowlist_text.specs.Records.{Rest}
use Rattle.rowlist_text.proofs.put_terms.Given as goal

abbrev pub invariant-loop-rest : goal.invariant-loop-rest
invariant-loop-rest l = record {
  room : 3 * l.page.at + 7 * length l.rest ≤ 3 * l.initial.page.at + 7 * length l.terms;
  left : Rest (terms_text (terms_in (length l.rest / 3) l.rest)) l.page (terms_text (terms_in (length l.terms / 3) l.terms)) l.initial.page;
}

abbrev pub decreases-loop-rest : goal.decreases-loop-rest
decreases-loop-rest l = length l.rest
