-- `demands::mps_page` meets its contract: demands 1 and 2 and what the page says, from the contract of `mps_page::mps_page`.
use Rattle.std.proofs.Common.{rules}
use Rattle.headlines.proofs.Paging.{page-refuses, page-answers, page-means}
use Rattle.demands.proofs.mps_page.Goals as goal

pub returns : goal.returns
returns c = search (rules, page-refuses, page-answers, page-means)
