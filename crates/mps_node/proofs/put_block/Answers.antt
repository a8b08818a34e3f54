-- `mps_node::put_block` meets its contract. The lines of the slots passed are put. Assumes nothing.
use Rattle.std.proofs.Common.{◌≡◌, sym, ap, ◌∙◌, ℕ, ◌+◌, length, arith}
use Rattle.lists.specs.Flat.{flat-zero, flat-more}
use Rattle.mps.specs.Page.{each_row}
use Rattle.row.specs.NodeRows.{block_on, block_rows}
use Rattle.mps_line.specs.Emitted.{emitted_as}
use Rattle.mps_row.specs.Texts.{line_of}
use Rattle.mps_row.specs.declared.Spot.{Spot}
use Rattle.mps_slot.specs.Spots.{slot_rows}
use Rattle.mps_node.specs.Turns.{listed-none, listed_more, listed_as}
use Rattle.mps_node.specs.Windows.{slot-rows}
use Rattle.mps_node.proofs.put_block.Goals as goal

pub loop-s-init : goal.loop-s-init
loop-s-init c =
    let line = line_of c.args.text in
    (omega arith, omega arith, listed_as line c.args.first c.args.page.now (sym (flat-zero _)) (listed-none line c.args.first c.args.page.now))

pub loop-s-preserved : goal.loop-s-preserved
loop-s-preserved c =
    let l = c.loop-s in
    let line = line_of c.args.text in
    let f = block_on c.args.block c.args.t c.args.l in
    let over = c.over_at-over in
    let p = c.put_slot.ensures in
    let rows : slot_rows c.spot_of-spot.result over.result ≡ f l.s =
    ap (λ (z : Spot). slot_rows z over.result) c.spot_of-spot.ensures ∙ slot-rows c.args.block c.args.t c.args.l l.s over.result over.ensures in
    let more = listed_more line c.args.first c.args.page.now (f l.s) l.invariant.2 (emitted_as (ap (each_row line l.i) rows) p.0)
    (ap (λ (n : ℕ). l.i + n) (c.slot_count-i.ensures.0 ∙ ap length rows)) in
    (omega (arith, p.1), omega (arith, c.slot_count-i.ensures.1), listed_as line c.args.first c.args.page.now (sym (flat-more f l.s)) more)

pub returns : goal.returns
unfolding block_rows
returns c =
    let l = c.loop-s in
    let e : l.s ≡ c.args.t = omega arith in
    (rw e at l.invariant.2.emitted, omega arith)
