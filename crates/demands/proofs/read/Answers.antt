-- `demands::read` meets its contract: demands 1 and 2 and the heights, from the contract of `reader::read`.
use Rattle.std.proofs.Common.{rules}
use Rattle.headlines.proofs.Refusing.{reader-refuses}
use Rattle.headlines.proofs.Answering.{reader-answers, reader-heights}
use Rattle.demands.proofs.read.Goals as goal

pub returns : goal.returns
returns c = search (rules, reader-refuses, reader-answers, reader-heights)
