-- `mps_window::put_entries` meets its contract. The node's variable, the part's at a slot of the window, and another. Assumes nothing.
use Rattle.std.proofs.Common.{◌≡◌, ℕ, arith}
use Rattle.window.specs.Slots.{variable_at, variables}
use Rattle.window.proofs.Slots.{place-one}
use Rattle.mps_line.specs.Emitted.{emitted-none, emitted_as}
use Rattle.mps_window.specs.Entries.{own-lines, slot-lines, no_lines}
use Rattle.mps_window.proofs.put_entries.Goals as goal

pub returns-then-v-from : goal.returns-then-v-from
unfolding variables
returns-then-v-from c =
    let o = c.args.over in
    let p = c.put_own.ensures in
    let f = variable_at o.looks o.left in
    (emitted_as (own-lines c.args.i o.within o.own o.looks.count f c.args.v (omega arith) (λ j g e. omega (arith, o.below j g))) p.0, p.1)

pub returns-in-None : goal.returns-in-None
unfolding variables
returns-in-None c =
    let o = c.args.over in
    let f = variable_at o.looks o.left in
    (emitted_as (no_lines c.args.i o.within o.own o.looks.count f c.args.v (λ e. omega arith) c.in-None.ensures) (emitted-none _), omega arith)

pub returns-in-Some : goal.returns-in-Some
unfolding variables
returns-in-Some c =
    let o = c.args.over in
    let j = c.in-Some.j in
    let at = c.in-Some.ensures in
    let p = c.put_part.ensures in
    let f = variable_at o.looks o.left in
    let one : (n : ℕ) → variable_at o.looks o.left n ≡ c.args.v → n ≡ j = λ n e. place-one o.looks n j (omega (arith, e, at.1)) in
    (emitted_as (slot-lines c.args.i o.within o.own o.looks.count f c.args.v (λ e. omega arith) j at.0 at.1 one) p.0, p.1)
