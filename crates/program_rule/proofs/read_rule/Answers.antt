-- `program_rule::read_rule` meets its contract. By the test of T. Assumes nothing.
use Rattle.std.proofs.Common.{arith, refl}
use Rattle.program_rule.specs.Outcomes.{few-slots, many_slots, rule-outcome}
use Rattle.program_rule.proofs.read_rule.Goals as goal

pub returns-in-1-to-64 : goal.returns-in-1-to-64
returns-in-1-to-64 c =
    let a = c.args in
    let e = rule-outcome a.t a.m a.text.now (omega arith) (omega arith) in
    record { r_value = rw (e, ← c.requires) c.read.ensures.r_value; table_after = rw (e, ← c.requires) c.read.ensures.out_after }

pub returns-in_default : goal.returns-in_default
returns-in_default c =
    let a = c.args in
    let e = few-slots a.t a.m a.text.now (omega arith) in
    record { r_value = rw e refl; table_after = rw e refl }

pub returns-in_default-2 : goal.returns-in_default-2
returns-in_default-2 c =
    let a = c.args in
    let e = many_slots a.t a.m a.text.now (omega arith) in
    record { r_value = rw e refl; table_after = rw e refl }
