-- `mpspage_page::print` meets its contract: what is printed of the work on a table is the page.
use Rattle.std.proofs.Common.{length}
use Rattle.mpspage_page.specs.Outcomes.{shown-page}
use Rattle.mpspage_page.proofs.print.Goals as goal

pub returns-clause-put : goal.returns-clause-put
returns-clause-put c = rw (shown-page (length c.args.out.now)) at c.print.ensures.put
