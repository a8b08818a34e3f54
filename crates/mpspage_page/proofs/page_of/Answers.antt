-- `mpspage_page::page_of` meets its contract: what is printed of the work on a table is the page.
use Rattle.std.proofs.Common.{◌≡◌, length, arith}
use Rattle.mpspage_page.specs.Page.{page_room}
use Rattle.mpspage_page.specs.Outcomes.{output-page}
use Rattle.mpspage_page.proofs.page_of.Goals as goal

pub returns : goal.returns
returns c =
    let room : length c.args.out.now ≡ page_room = c.told-out in
    let p = rw (room, output-page page_room) at c.page_of.ensures.put in
    record { value = (omega (arith, p.ends), omega (arith, room, c.page_of.ensures.upper_bound)); out_after = p.content }
