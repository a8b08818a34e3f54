-- `program_stdin::read_all` meets its contract. The loop's invariant: the scan stands for what was read. Assumes nothing.
use Rattle.std.proofs.Common.{rules, refl}
use Rattle.program_stdin.specs.Read.{scanned-none, scanned-more}
use Rattle.program_stdin.proofs.read_all.Goals as goal

pub loop-init : goal.loop-init
loop-init g c = (refl, scanned-none _ _ _ c.start-scan.ensures)

pub loop-preserved : goal.loop-preserved
loop-preserved g c = (search rules, scanned-more c.loop.invariant.1 c.loop.invariant.0 c.in-More.ensures)
