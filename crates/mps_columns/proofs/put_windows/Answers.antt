-- `mps_columns::put_windows` meets its contract. The loop's invariant: the lines of the slots passed are put. Assumes nothing.
use Rattle.std.proofs.Common.{◌≡◌, ℕ, ◌+◌, sym, ap, subst, ◌∙◌, arith}
use Rattle.lists.specs.Flat.{flat-zero, flat-more}
use Rattle.mps.specs.Page.{each_row, entry_line}
use Rattle.row.specs.NodeRows.{block_on, block_rows}
use Rattle.mps_line.specs.Emitted.{emitted_as}
use Rattle.mps_node.specs.Windows.{OverAt}
use Rattle.mps_node.specs.Turns.{listed-none, listed_more, listed_as}
use Rattle.mps_columns.proofs.put_windows.Goals as goal

pub loop-s-init : goal.loop-s-init
loop-s-init c =
    let line = entry_line c.args.v in
    let none = listed-none line c.args.start c.args.page.now in
    record { put = listed_as line _ _ (sym (flat-zero _)) none; end = omega arith; few = omega arith }

pub loop-s-preserved : goal.loop-s-preserved
loop-s-preserved c =
    let l = c.loop-s in
    let line = entry_line c.args.v in
    let f = block_on c.args.block c.args.t c.args.l in
    let z = (subst (OverAt c.args.block c.args.t c.args.l l.s) c.unwrap-over.ensures c.over_at.ensures).1 in
    let p = c.put_seen.ensures in
    let seen = emitted_as (ap (each_row line l.i) z.rows) p.0 in
    let rows = ap (λ (n : ℕ). l.i + n) (ap (λ (n : ℕ). n + 1) c.from.ensures ∙ z.counted) in
    record {
      put = listed_as line _ _ (sym (flat-more f l.s)) (listed_more line _ _ (f l.s) l.invariant.put seen rows);
      end = omega (arith, p.1);
      few = omega (arith, c.unwrap-over.result.looks.few);
    }

pub returns : goal.returns
unfolding block_rows
returns c =
    let l = c.loop-s in
    let e : l.s ≡ c.args.t = omega arith in
    (rw e at l.invariant.put.emitted, omega arith)
