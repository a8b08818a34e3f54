-- `mps_node::put_node` meets its contract. V's lines first, if there are any. Assumes nothing.
use Rattle.std.proofs.Common.{◌≡◌, sym, ap, ◌∙◌, ◌++◌, ℕ, ◌+◌, Bool, Option, length, arith}
use Rattle.mps.specs.Page.{each_row}
use Rattle.row.specs.declared.Block.{Block}
use Rattle.row.specs.Kinds.{block_count}
use Rattle.row.specs.NodeRows.{block_rows, length-block}
use Rattle.mps_line.specs.Emitted.{emitted-also, emitted_as}
use Rattle.mps_row.specs.Texts.{line_of}
use Rattle.mps_row.specs.Laws.{each_append}
use Rattle.mps_node.specs.Places.{kept_rows}
use Rattle.mps_node.proofs.put_node.Goals as goal

pub returns-in-Some : goal.returns-in-Some
returns-in-Some c =
    let line = line_of c.args.text in
    let t = c.args.t in
    let l = c.args.l in
    let kept = c.in-Some.kept in
    let own = block_rows c.args.blocks.own t l in
    let p = c.put_block-in-Some.ensures in
    let q = c.put_block-in-Some-2.ensures in
    let long : c.block_count-rows.result ≡ length (block_rows kept t l) =
    c.block_count-rows.ensures.0 ∙ ap (λ (x : Bool). block_count kept.kind x t l kept.from kept.to) c.is_some-loops.ensures
    ∙ sym (length-block kept t l (omega (arith, c.requires))) in
    let rows = ap (λ (n : ℕ). each_row line c.args.first (block_rows kept t l) ++ each_row line (c.args.first + n) own) long
    ∙ sym (each_append line c.args.first (block_rows kept t l) own)
    ∙ ap (λ (x : Option Block). each_row line c.args.first (kept_rows t l x ++ own)) (sym c.in-Some.is) in
    (emitted_as rows (emitted-also p.0 q.0), omega (arith, p.1, q.1))
