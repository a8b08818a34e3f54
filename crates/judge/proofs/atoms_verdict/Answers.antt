-- An atom that is not binary is found, or none.
use Rattle.std.proofs.Common.{sym, ◌∙◌}
use Rattle.judge.specs.Parts.{atoms-found, atoms-clear}
use Rattle.judge.proofs.atoms_verdict.Goals as goal

pub returns-in-Some : goal.returns-in-Some
returns-in-Some c = atoms-found _ _ _ _ _ _ _ _ (c.from-atoms.ensures ∙ c.first_variable.ensures.0) (sym c.in-Some.ensures)

pub returns-in-None : goal.returns-in-None
returns-in-None c =
    c.rows_verdict.ensures ∙ atoms-clear _ _ _ _ _ _ _ (c.from-atoms.ensures ∙ c.first_variable.ensures.0) (sym c.in-None.ensures)
