-- `mps_window::put_window` meets its contract. By the text. Assumes nothing.
use Rattle.std.proofs.Common.{arith}
use Rattle.window.specs.Slots.{window_by, variable_at, variables}
use Rattle.mps_line.specs.Emitted.{emitted_as}
use Rattle.mps_window.specs.Over.{types_text, rights-text}
use Rattle.mps_window.proofs.put_window.Goals as goal

pub returns-in-Typed : goal.returns-in-Typed
unfolding variables
returns-in-Typed c =
    let o = c.args.over in
    let p = c.put_types.ensures in
    let text = types_text c.args.i (window_by o.within) o.own o.looks.count (variable_at o.looks o.left) in
    rw c.in-Typed.is (emitted_as text (rw c.from-count.ensures at p.0), omega (arith, p.1, o.looks.few))

pub returns-in-Right : goal.returns-in-Right
unfolding variables
returns-in-Right c =
    let o = c.args.over in
    let p = c.put_right.ensures in
    let text = rights-text c.args.i (window_by o.within) o.own o.looks.count (variable_at o.looks o.left) in
    rw c.in-Right.is (emitted_as text (rw c.from-count.ensures at p.0), omega (arith, p.1))
