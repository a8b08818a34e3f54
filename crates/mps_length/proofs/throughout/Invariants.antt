use Rattle.std.proofs.Common.{◌≡◌, ◌*◌, ◌≤◌}
use Rattle.mps_length.specs.Nodes.{window_count, throughout_weight}
use Rattle.mps_length.proofs.throughout.Given as goal

abbrev pub invariant-loop-s : goal.invariant-loop-s
invariant-loop-s l = record {
  rows_are : l.size.rows ≡ window_count l.t l.l l.a l.b l.s;
  lines_are : l.size.lines ≡ throughout_weight l.t l.l l.a l.b l.s;
  few : l.size.rows ≤ 65 * l.s;
  short : l.size.lines ≤ 5174 * l.s;
}
