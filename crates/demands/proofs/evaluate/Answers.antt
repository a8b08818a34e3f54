-- `demands::evaluate` meets its contract: demands 1 and 2, and the bytes of before, from the contract of `evaluator::evaluate`.
use Rattle.std.proofs.Common.{rules}
use Rattle.headlines.proofs.Refusing.{evaluator-refuses}
use Rattle.headlines.proofs.Answering.{evaluator-answers, evaluator_bytes}
use Rattle.demands.proofs.evaluate.Goals as goal

pub returns : goal.returns
returns c =
    let k = c.evaluate.ensures in
    let answers = evaluator-answers _ _ _ _ _ _ _ _ k.r_value k.out_after in
    record {
      evaluator_refuses = search (rules, evaluator-refuses);
      evaluator_answers = answers;
      says_bytes = evaluator_bytes _ _ _ _ _ _ _ _ answers;
    }
