-- `mps_columns::put_around` meets its contract. At the first slot, and at another. Assumes nothing.
use native.Mathlib.Omega.{arith}
use Rattle.mps_line.specs.Emitted.{emitted_as, emitted-also}
use Rattle.mps_columns.specs.Walk.{around_first, around_next}
use Rattle.mps_columns.proofs.put_around.Goals as goal

pub returns-then-s-eq0 : goal.returns-then-s-eq0
returns-then-s-eq0 c = (
  emitted_as (around_first c.args.v c.args.block c.args.t c.args.start c.args.s c.if-s-eq0.true) c.put_at.ensures.0,
  omega (arith, c.put_at.ensures.1),
)

pub returns : goal.returns
returns c =
    let p = c.put_at-2.ensures in
    let q = c.put_at-3.ensures in (
      emitted_as (around_next c.args.v c.args.block c.args.t c.args.start c.args.s c.if-s-eq0.false) (emitted-also p.0 q.0),
      omega (arith, p.1, q.1),
    )
