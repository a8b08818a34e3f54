-- `mps_columns::put_seen` meets its contract, where the variable is in none of the rows. Assumes nothing.
use Rattle.std.proofs.Common.{subst, arith}
use Rattle.window.specs.Slots.{variable_at, variables}
use Rattle.mps_line.specs.Emitted.{emitted-none, emitted_as}
use Rattle.mps_window.specs.Entries.{no_lines}
use Rattle.mps_columns.specs.Windows.{Missed}
use Rattle.mps_columns.proofs.put_seen.Goals as goal

pub returns-else-not-misses : goal.returns-else-not-misses
unfolding variables
returns-else-not-misses c =
    let o = c.args.over in
    let m = subst (Missed o c.args.v) c.if-not-misses.false c.misses.ensures in (
      emitted_as (no_lines c.args.i o.within o.own o.looks.count (variable_at o.looks o.left) c.args.v m.0 m.1) (emitted-none _),
      omega arith,
    )
