-- A variable outside is found, or none.
use Rattle.std.proofs.Common.{sym, ◌∙◌, arith}
use Rattle.judge.specs.Limits.{limited}
use Rattle.judge.specs.Parts.{outside_found, outside_clear}
use Rattle.judge.proofs.verdict_of.Goals as goal

pub invariant_of-atoms_verdict : goal.invariant_of-atoms_verdict
invariant_of-atoms_verdict c = record { limited = limited c.args.test.e c.args.test.figures.now (omega arith) (sym c.in-None.ensures) }

pub returns-in-Some : goal.returns-in-Some
returns-in-Some c = outside_found _ _ _ _ _ _ _ (sym c.in-Some.ensures)

pub returns-in-None : goal.returns-in-None
returns-in-None c = c.atoms_verdict.ensures ∙ outside_clear _ _ _ _ _ _ (sym c.in-None.ensures)
