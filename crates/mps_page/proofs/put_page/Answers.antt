-- `mps_page::put_page` meets its contract. The four sections, one after the other. Assumes nothing.
use Rattle.std.proofs.Common.{◌≡◌, sym, ap, ap₂, ◌∙◌, List, ◌++◌, ℕ, ◌+◌, ◌*◌, length, arith}
use Rattle.rules.specs.Rows.{variable_count, rows_of}
use Rattle.rules.specs.TableTest.{nodes_in}
use Rattle.rules.proofs.TableTest.{length-nodes_in}
use Rattle.mps.specs.Page.{row_section, column_section, right_section, bound_section, page_of, page}
use Rattle.mps_line.specs.Emitted.{emitted-also, emitted_as}
use Rattle.mps_page.proofs.put_page.Goals as goal

pub returns : goal.returns
unfolding page page_of
returns c =
    let p = c.args.plan in
    let ns = nodes_in p.table.now in
    let rs = rows_of p.t p.m p.l ns in
    let n : p.nodes ≡ length ns = p.counted ∙ sym (length-nodes_in p.m p.table.now) in
    let count : (p.m + p.nodes + c.kept_count.result) * p.t ≡ variable_count p.t p.m p.l ns =
    rw (n, c.kept_count.ensures.0) (omega arith) in
    emitted_as
    (ap (λ (z : List ℕ). row_section rs ++ (column_section (variable_count p.t p.m p.l ns) rs ++ (right_section rs ++ z)))
    (ap₂ bound_section (c.from-atoms.ensures ∙ c.first_variable.ensures.0) (c.from-variables.ensures ∙ c.first_variable-2.ensures.0 ∙ count)))
    (emitted-also c.put_rows.ensures.0
    (emitted-also c.put_columns.ensures.0 (emitted-also c.put_rights.ensures.0 c.put_bounds.ensures.0)))
