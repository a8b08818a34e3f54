-- `mps_columns::put_node` meets its contract. V's lines first, if there are any. Assumes nothing.
use Rattle.std.proofs.Common.{◌≡◌, Option, ◌++◌, ℕ, ◌+◌, length, sym, ap, ◌∙◌, arith}
use Rattle.mps.specs.Page.{entry_line, each_row}
use Rattle.row.specs.declared.Block.{Block}
use Rattle.row.specs.Kinds.{block_count}
use Rattle.row.specs.NodeRows.{block_rows, length-block}
use Rattle.mps_line.specs.Emitted.{emitted-also, emitted_as}
use Rattle.mps_row.specs.Laws.{each_append}
use Rattle.mps_node.specs.Places.{kept_rows}
use Rattle.mps_columns.proofs.put_node.Goals as goal

pub returns-in-Some : goal.returns-in-Some
returns-in-Some c =
    let a = c.args in
    let kept = c.in-Some.kept in
    let line = entry_line a.variable.v in
    let p = c.put_block-in-Some.ensures in
    let q = c.put_block-in-Some-2.ensures in
    let count : c.block_count-rows.result ≡ length (block_rows kept a.t a.l) =
    c.block_count-rows.ensures.0 ∙ ap (λ (x : _). block_count kept.kind x a.t a.l kept.from kept.to) c.is_some.ensures
    ∙ sym (length-block kept a.t a.l (omega arith)) in
    let text =
    ap (λ (n : ℕ). each_row line a.start (block_rows kept a.t a.l) ++ each_row line (a.start + n) (block_rows a.node.own a.t a.l)) count
    ∙ sym (each_append line a.start (block_rows kept a.t a.l) (block_rows a.node.own a.t a.l))
    ∙ ap (λ (x : Option Block). each_row line a.start (kept_rows a.t a.l x ++ block_rows a.node.own a.t a.l)) (sym c.in-Some.is) in
    (emitted_as text (emitted-also p.0 q.0), omega (arith, p.1, q.1))
