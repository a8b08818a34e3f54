-- A broken row is found, or none.
use Rattle.std.proofs.Common.{ap, ◌∙◌, rules}
use Rattle.std.specs.Int.{w64}
use Rattle.std.proofs.lemmas.Int.{to_z-of_z}
use Rattle.rules.specs.Judge.VerdictWith.{broken}
use Rattle.judge.specs.Parts.{broken-verdict, clear-verdict}
use Rattle.judge.proofs.rows_verdict.Goals as goal

pub returns-in-Err : goal.returns-in-Err
returns-in-Err c =
    ap (broken c.in-Err.field-0.row) (to_z-of_z w64 c.in-Err.field-0.shortfall (search rules))
    ∙ broken-verdict _ _ _ _ _ _ c.in-Err.field-0 c.in-Err.ensures

pub returns-in-Ok : goal.returns-in-Ok
returns-in-Ok c = clear-verdict _ _ _ _ _ _ _ _ c.in-Ok.ensures c.root_figure.ensures
