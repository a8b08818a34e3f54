-- `mps_length::page_length` meets its contract. Assumes nothing.
use mathlib.Core.Path.{ap, ◌∙◌}
use Prim.Native.Nat.{ℕ, ◌+◌, ◌*◌}
use Rattle.mps_length.specs.Page.{page-found}
use Rattle.mps_length.proofs.page_length.Goals as goal

pub returns : goal.returns
returns c =
    let idle = c.from-idle.ensures ∙ c.first_variable.ensures.0 ∙ ap (λ (k : ℕ). k * c.args.plan.t) c.idle_atoms.ensures.0 in
    let atoms = c.from-atoms.ensures ∙ c.first_variable-2.ensures.0 in
    let slacks = c.from-slacks.ensures ∙ c.first_variable-3.ensures.0 ∙ ap (λ (k : ℕ). (c.args.plan.nodes + k) * c.args.plan.t) c.kept_count.ensures.0 in
    c.sum_up.ensures
    ∙ rw (c.plus-size.ensures.0, c.plus-size.ensures.1) (page-found _ _ _ _ c.args.plan.ready _ c.args.plan.counted c.measure.ensures idle atoms slacks)
