-- `mps_length::measure` meets its contract. The loop's invariant: the nodes passed are measured. Assumes nothing.
use Rattle.mps_length.specs.Measured.{measured_none, measured_more}
use Rattle.mps_length.proofs.measure.Goals as goal

pub loop-i-init : goal.loop-i-init
loop-i-init c = measured_none _ _ _ _

pub loop-i-preserved : goal.loop-i-preserved
loop-i-preserved c =
    rw (c.plus-size.ensures.0, c.plus-size.ensures.1) (measured_more _ _ _ _ _ c.loop-i.invariant c.measure_node.ensures)
