use Rattle.std.proofs.Common.{◌≡◌, ◌*◌, ◌≤◌}
use Rattle.window.specs.Total.{total_to}
use Rattle.window.proofs.windows.total.Given as goal

abbrev pub invariant-loop-s : goal.invariant-loop-s
invariant-loop-s l = (l.sum ≡ total_to l.t l.l l.a l.b l.s) × (l.sum ≤ 64 * l.s)
