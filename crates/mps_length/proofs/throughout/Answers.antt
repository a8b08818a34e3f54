-- `mps_length::throughout` meets its contract. The loop's invariant: the rows of the slots passed, and their bytes, are counted. Assumes nothing.
use Rattle.std.proofs.Common.{sym, ap, ◌∙◌, arith}
use Rattle.window.proofs.Slots.{count-is}
use Rattle.mps_length.specs.Windows.{back_size}
use Rattle.mps_length.specs.Nodes.{window-none, throughout_none, window_more, throughout_more}
use Rattle.mps_length.proofs.throughout.Goals as goal

pub loop-s-init : goal.loop-s-init
loop-s-init c = record {
  rows_are = window-none _ _ _ _;
  lines_are = throughout_none _ _ _ _;
  few = omega arith;
  short = omega arith;
}

pub loop-s-preserved : goal.loop-s-preserved
loop-s-preserved c =
    let w = c.look-count.ensures in
    let l = c.loop-s in
    let e = c.from-slots.ensures ∙ count-is w in
    let back = c.back_size.ensures.0 ∙ ap back_size (sym c.from-slots.ensures) in
    record { rows_are = c.plus-size.ensures.0 ∙ window_more _ _ _ _ _ _ e l.invariant.rows_are; lines_are = c.plus-size.ensures.1 ∙ throughout_more _ _ _ _ _ _ e back l.invariant.lines_are; few = omega arith; short = omega arith }
