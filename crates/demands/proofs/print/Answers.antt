-- `demands::print` meets its contract: demands 1 and 2, from the contract of `printer::print`.
use Rattle.std.proofs.Common.{rules}
use Rattle.headlines.proofs.Printing.{printer-refuses, printer-answers}
use Rattle.demands.proofs.print.Goals as goal

pub returns : goal.returns
returns c = search (rules, printer-refuses, printer-answers)
