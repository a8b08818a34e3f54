-- `mps_node::slot_count` meets its contract. With a window, or by the kind. Assumes nothing.
use Rattle.std.proofs.Common.{sym, ap, ◌∙◌, ◌+◌, ℕ, Option, length, arith}
use Rattle.mps_window.specs.declared.over.Over.{Over}
use Rattle.mps_slot.specs.Spots.{slot_rows}
use Rattle.mps_node.specs.Windows.{over-count}
use Rattle.mps_node.proofs.slot_count.Goals as goal

pub returns-in-Some : goal.returns-in-Some
returns-in-Some c =
    let o = c.in-Some.over in (
      ap (λ (n : ℕ). n + 1) c.from.ensures ∙ sym (over-count o) ∙ ap (λ (x : Option Over). length (slot_rows c.args.spot x)) (sym c.in-Some.is),
      omega (arith, o.looks.few),
    )
