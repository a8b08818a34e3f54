-- `rowlist_page::print` meets its contract: what is printed of the work on a table is the listing.
use Rattle.std.proofs.Common.{arith}
use Rattle.rowlist_page.specs.Outcomes.{shown-listing}
use Rattle.rowlist_page.proofs.print.Goals as goal

pub returns : goal.returns
returns c =
    let p = rw shown-listing at c.print.ensures.put in
    record { value = (omega (arith, p.ends), omega (arith, c.print.ensures.upper_bound)); out_after = p.content }
