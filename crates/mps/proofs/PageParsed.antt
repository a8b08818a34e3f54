-- A page of any rows, read back: at most 1000000 rows and variables, so that every name fits its field.
use Rattle.std.specs.Prelude.{◌≡◌, List, [], ◌∷◌, ◌++◌, ℕ, ◌≤◌, ◌<◌, length}
use Rattle.std.proofs.Math.Path.{refl}
use Rattle.std.proofs.Math.Option.{some}
use Rattle.std.proofs.Common.{arith}
use Rattle.lists.specs.Flat.{flat, flat_singles}
use Rattle.rules.specs.Rows.{Row}
use Rattle.mps.specs.Words.{NAME, ROWS, COLUMNS, RHS, BOUNDS, ENDATA, COST, N}
use Rattle.mps.specs.Merged.{coefficient, stands}
use Rattle.mps.specs.Page.{type_line, row_line, entry_line, right_line, each_row, column_lines, bound_line}
use Rattle.mps.specs.Page.{row_section, column_section, right_section, bound_section, page_of}
use Rattle.mps.specs.Parsing.{row_fact, column_fact, right_fact, bound_fact, same, model_from, parse_six, parse_page}
use Rattle.mps.specs.Parsing.RowFact.{free}
use Rattle.mps.specs.Says.{bound_of, model_of}
use Rattle.mps.specs.Facts.{row_facts, entry_facts, column_facts, right_facts}
use Rattle.mps.proofs.Blocks.{Block, block-both, block_cond, block-flat, block-each, block_facts, Sectioned, no_sections, bare-headed, headed}
use Rattle.mps.proofs.LineFacts.{free-line, row-line, entry-unless-zero, cost-line, right-unless-zero, bound-line}
use Rattle.mps.proofs.Gathered.{rows-parsed, costs_gathered}
use Rattle.mps.proofs.Declared.{columns_declared, rights-declared}

module _ (atoms variables : ℕ) (rs : List Row) (short : variables ≤ 1000000) (few : length rs ≤ 1000000) where
  -- ---- what each section's lines say

  row_block : Block row_fact (type_line N COST ++ each_row row_line 0 rs) (free ∷ each_row row_facts 0 rs)
  row_block = block-both row_fact free-line (block-each row_fact row_line row_facts 0 rs (λ i r h. row-line i r (omega arith)))

  column-block : (v : ℕ) → v < 1000000 → Block column_fact (column_lines rs v) (column_facts rs v)
  unfolding column_lines
  column-block v h =
      block_cond column_fact (stands v rs)
      (block-each column_fact (entry_line v) (entry_facts v) 0 rs (λ i r l. entry-unless-zero v i (coefficient v r.terms) h (omega arith)))
      (cost-line v h)

  column-blocks : Block column_fact (flat (column_lines rs) variables) (flat (column_facts rs) variables)
  column-blocks = block-flat column_fact (column_lines rs) (column_facts rs) variables (λ v h. column-block v (omega arith))

  right-block : Block right_fact (each_row right_line 0 rs) (each_row right_facts 0 rs)
  right-block = block-each right_fact right_line right_facts 0 rs (λ i r h. right-unless-zero i r.right (omega arith))

  bound_block : Block bound_fact (flat (bound_line atoms) variables) (flat (λ v. bound_of atoms v ∷ []) variables)
  bound_block = block-flat bound_fact (bound_line atoms) (λ v. bound_of atoms v ∷ []) variables (λ v h. bound-line atoms v (omega arith))

  -- ---- the page

  sections :
      Sectioned (page_of atoms variables rs)
      (record { name = NAME; lines = [] } ∷ record { name = ROWS; lines = row_block.lines } ∷ record { name = COLUMNS; lines = column-blocks.lines } ∷
      record { name = RHS; lines = right-block.lines } ∷ record { name = BOUNDS; lines = bound_block.lines } ∷ record { name = ENDATA; lines = [] } ∷ [])
  unfolding page_of row_section column_section right_section bound_section
  sections =
      bare-headed NAME (omega arith) refl (headed ROWS (omega arith) refl row_block (headed COLUMNS (omega arith) refl column-blocks
      (headed RHS (omega arith) refl right-block (headed BOUNDS (omega arith) refl bound_block
      (bare-headed ENDATA (omega arith) refl no_sections)))))

  pub page-parsed : parse_page (page_of atoms variables rs) ≡ some (model_of atoms variables rs)
  unfolding parse_page parse_six same model_from
  page-parsed =
      rw (sections.cut-is, block_facts row_block, block_facts column-blocks, block_facts right-block, block_facts bound_block)
      (rw (columns_declared rs variables, rights-declared rs)
      (rw (rows-parsed variables rs, costs_gathered variables rs, flat_singles (bound_of atoms) variables) refl))
