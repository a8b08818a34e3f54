-- After the last block the search is over.
use Rattle.std.proofs.Common.{◌≡◌, ◌*◌, min, refl, sym, subst, ◌∙◌, arith, le_refl}
use Rattle.lists.specs.Scan.{Skipped, scan_over, scan_start}
use Rattle.judge_limits.specs.Tests.{outside_at, at_once}
use Rattle.judge_limits.proofs.first_outside.Goals as goal

pub returns : goal.returns
returns c =
    let n = c.args.n in
    let f = outside_at c.args.e c.args.figures.now in
    let all : min n (c.loop-block.block * at_once) ≡ n = omega (arith, c.div_ceil-block-end.ensures) in
    let skipped = subst (Skipped f 0) all c.loop-block.invariant n (le_refl n) in
    sym (sym (scan_start f n) ∙ skipped ∙ scan_over f n n refl)
