-- `rowlist_page::page_of` meets its contract: what is printed of the work on a table is the listing.
use Rattle.std.proofs.Common.{arith}
use Rattle.rowlist_page.specs.Outcomes.{output-listing}
use Rattle.rowlist_page.proofs.page_of.Goals as goal

pub returns : goal.returns
returns c =
    let p = rw output-listing at c.page_of.ensures.put in
    record { value = (omega (arith, p.ends), omega (arith, c.page_of.ensures.upper_bound)); out_after = p.content }
