-- `mps_columns::put_at` meets its contract. Assumes nothing.
use Rattle.std.proofs.Common.{◌≡◌, true, ap₂, ◌∙◌, [], ℕ, ◌+◌, ◌*◌}
use Rattle.mps.specs.Page.{entry_line, each_row}
use Rattle.row.specs.Kinds.{slot_count}
use Rattle.mps_line.specs.Emitted.{emitted_as}
use Rattle.mps_row.specs.declared.Spot.{Spot}
use Rattle.mps_row.specs.Spots.{spot_rows}
use Rattle.mps_columns.specs.Walk.{kind_text}
use Rattle.mps_columns.proofs.put_at.Goals as goal

pub returns : goal.returns
unfolding kind_text
returns c =
    let a = c.args in
    let p = c.put_entries.ensures in
    let before : c.rows_before.result ≡ a.s * slot_count a.block.kind true 0 =
    c.rows_before.ensures.0 ∙ ap₂ ◌*◌ c.from.ensures c.slot_count.ensures.0 in (
      emitted_as (ap₂ (λ (n : ℕ) (z : Spot). each_row (entry_line a.v) (a.start + n) (spot_rows z [])) before c.spot_of.ensures) p.0,
      p.1,
    )
