-- By the least and the most of two numbers.
use Rattle.std.proofs.Common.{arith}
use Rattle.std.proofs.lemmas.Int.{ints}
use Rattle.judge_slot.proofs.joined.Goals as goal

pub returns : goal.returns
returns c =
    let low = c.min.ensures in
    let high = c.max.ensures in
    record {
      sum_is = omega (arith, ints);
      least-is = (omega (arith, ints, low.self_bound), omega (arith, ints, low.other_bound));
      most-is = (omega (arith, ints, high.self_bound), omega (arith, ints, high.other_bound));
    }
