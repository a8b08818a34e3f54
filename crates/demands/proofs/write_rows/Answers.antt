-- `demands::write_rows` meets its contract: demands 1 and 2, from the contract of `rows::write_rows`.
use Rattle.std.proofs.Common.{rules}
use Rattle.headlines.proofs.Refusing.{row-writer-refuses}
use Rattle.headlines.proofs.Answering.{row-writer-answers}
use Rattle.demands.proofs.write_rows.Goals as goal

pub returns : goal.returns
returns c = search (rules, row-writer-refuses, row-writer-answers)
