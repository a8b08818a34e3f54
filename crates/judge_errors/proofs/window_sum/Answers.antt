-- Differences of two sums each.
use Rattle.std.proofs.Common.{◌≡◌, refl, ◌+◌, ap₂, ◌∙◌, arith}
use Rattle.judge_errors.specs.Window.{window_rise}
use Rattle.judge_errors.proofs.window_sum.Goals as goal

pub between-requires : goal.between-requires
between-requires c =
    let w = c.args.looks in
    (omega (arith, c.requires.inside), rw (c.from-first.ensures, c.from-head.ensures) (c.requires.rises w.first w.head (omega arith)))

pub between-requires-2 : goal.between-requires-2
between-requires-2 c =
    let w = c.args.looks in (
      omega (arith, c.requires.inside),
      rw (c.from-first.ensures, c.from-head.ensures, c.from.ensures, c.from-2.ensures) (c.requires.rises (w.first + w.head + w.skip) w.rest (omega arith)),
    )

pub overflow_add-result : goal.overflow_add-result
overflow_add-result c =
    let w = c.args.looks in
    let first = c.requires.low (w.first + w.head) (omega arith) in
    let rest = c.requires.low (w.first + w.head + w.skip + w.rest) (omega arith) in
    let is : c.between.result + c.between-2.result ≡ window_rise w c.args.sums.now = ap₂ ◌+◌ c.between.ensures c.between-2.ensures
    ∙ rw (c.from-first.ensures, c.from-head.ensures, c.from.ensures, c.from-2.ensures) refl in
    omega (arith, is, first, rest)

pub returns : goal.returns
returns c =
    let w = c.args.looks in
    let first = c.requires.low (w.first + w.head) (omega arith) in
    let rest = c.requires.low (w.first + w.head + w.skip + w.rest) (omega arith) in
    let is : c.between.result + c.between-2.result ≡ window_rise w c.args.sums.now = ap₂ ◌+◌ c.between.ensures c.between-2.ensures
    ∙ rw (c.from-first.ensures, c.from-head.ensures, c.from.ensures, c.from-2.ensures) refl in
    (is, omega (arith, is, first, rest))
