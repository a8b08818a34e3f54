-- `judge_sums::pair` meets its contract. A third term that is zero adds nothing. Assumes nothing.
use mir.Facts.{to_z-of_z}
use Rattle.judge_sums.specs.Sums.{sums_as, third-zero}
use Rattle.judge_sums.proofs.pair.Goals as goal

pub returns : goal.returns
returns c =
    let a = c.args in
    let f = c.ranges in
    sums_as (rw (to_z-of_z f.j, to_z-of_z f.k) (third-zero a.j a.x.value a.k a.y.value)) c.triple.ensures
