-- One range, or two as one.
use Rattle.judge_slot.specs.Spreads.{spread_one, spread_two}
use Rattle.std.proofs.Common.{arith}
use Rattle.judge_slot.proofs.LimitedTest.window_spread.Goals as goal

pub returns-then-rest-gt0 : goal.returns-then-rest-gt0
returns-then-rest-gt0 c =
    let x = c.args in
    spread_two x.self.test.figures.now x.looks x.p c.start-from.ensures.0 (omega arith) c.spread_of-first.ensures (omega arith) (omega arith) c.spread_of-second.ensures c.joined.ensures

pub returns : goal.returns
returns c =
    let x = c.args in
    spread_one x.self.test.figures.now x.looks x.p c.start-from.ensures.0 (omega arith) c.spread_of-first.ensures (omega arith)
