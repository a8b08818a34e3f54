-- `sepia::sepia_mps` meets its contract, from that of the call.
use mathlib.Core.Path.{ap, ◌∙◌}
use Rattle.answers.specs.Meaning.{answer_of}
use Rattle.sepia_answers.specs.Boundary.{in_c}
use Rattle.sepia.proofs.Bounds.{short-fits}
use Rattle.sepia.proofs.sepia_mps.Goals as goal

pub plain-requires : goal.plain-requires
plain-requires c = short-fits (answer_of c.mps_page.result) c.mps_page.ensures.fact

pub returns : goal.returns
returns c =
    let k = c.mps_page.ensures in
    record { r_value = c.plain.ensures ∙ ap in_c k.r_value; out_after = k.out_after }
