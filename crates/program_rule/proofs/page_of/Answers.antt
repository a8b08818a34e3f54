-- `program_rule::page_of` meets its contract.
use Rattle.std.proofs.Common.{ℕ, length, replicate}
use Rattle.std.proofs.lemmas.List.{length-replicate}
use Rattle.program_rule.specs.Sizes.{text_room}
use Rattle.program_rule.specs.Told.{same, printed_of}
use Rattle.program_rule.specs.Whole.{fed_output}
use Rattle.program_rule.proofs.Cut.{printed-cut}
use Rattle.program_rule.proofs.page_of.Goals as goal

pub returns-clause-put : goal.returns-clause-put
returns-clause-put g c =
    let work = g.W.Work.made (length c.args.out.now) in
    let print = printed_of work in
    let f = c.feed-scan in
    let e =
    fed_output print (printed-cut work same) c.start.result f.result (replicate text_room 0) f.new.text c.args.bytes.now
    (length-replicate {A = ℕ} text_room 0) c.start.ensures f.ensures.text_after in
    rw (← e) c.print.ensures.put
