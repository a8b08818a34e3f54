-- `program_rule::print` meets its contract. By the shape of line 1. Assumes nothing.
use Rattle.std.proofs.Common.{length}
use Rattle.program_rule.specs.Outcomes.{shown-rule, shown_bad}
use Rattle.program_rule.specs.Told.{printed_of, told-written, told-refused}
use Rattle.program_rule.proofs.print.Goals as goal

pub returns-then-not-is_shaped-clause-put : goal.returns-then-not-is_shaped-clause-put
returns-then-not-is_shaped-clause-put g c =
    let print = printed_of (g.W.Work.made (length c.args.out.now)) in
    rw (shown_bad print c.args.scan c.args.text.now _ c.is_shaped.ensures c.if-not-is_shaped.true) c.put_bad_input.ensures.0

pub returns-in-Ok-clause-put : goal.returns-in-Ok-clause-put
returns-in-Ok-clause-put g c =
    let print = printed_of (g.W.Work.made (length c.args.out.now)) in
    rw (shown-rule print c.args.scan c.args.text.now _ c.is_shaped.ensures _ c.if-not-is_shaped.false c.min.ensures) (told-written _ c.in-Ok.ensures).0

pub returns-in-Err-clause-put : goal.returns-in-Err-clause-put
returns-in-Err-clause-put g c =
    let print = printed_of (g.W.Work.made (length c.args.out.now)) in
    let e = told-refused _ c.in-Err.refusal c.in-Err.ensures in
    rw (shown-rule print c.args.scan c.args.text.now _ c.is_shaped.ensures _ c.if-not-is_shaped.false c.min.ensures, ← e.0, ← e.1) c.put_refusal.ensures.0
