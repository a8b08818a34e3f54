use Rattle.std.proofs.Common.{◌+◌, ◌-◌, ◌*◌, ◌≤◌, length}
use Rattle.rules.specs.Rows.{rows_in}
use Rattle.rowlist_text.specs.RowText.{rows_text, Whole}
use Rattle.rowlist_text.specs.Records.{Rest}
use Rattle.rowlist_text.proofs.put_rows.Given as goal

abbrev pub invariant-loop-i : goal.invariant-loop-i
invariant-loop-i l = record {
  records : 5 * l.i + length l.rest ≤ length l.rows;
  room : 5 * l.page.at + 14 * length l.rest ≤ 5 * l.initial.page.at + 14 * length l.rows;
  whole : Whole (l.count - l.i) l.rest;
  left : Rest (rows_text l.i (rows_in (l.count - l.i) l.rest)) l.page (rows_text 0 (rows_in l.count l.rows)) l.initial.page;
}
