-- The sizes that include/sepia.h offers to callers, and what they promise: no table has more, and with buffers of these sizes no call refuses with 11.
use Rattle.std.specs.Prelude.{◌≡◌, ◌↔◌, List, ℕ, ◌+◌, ◌*◌, ◌≤◌, length}
use Rattle.lists.specs.Every.{Every}
use Rattle.rules.specs.Quantities.{SlotsAllowed, LoopAllowed, AtomsAllowed, text_limit, node_limit, one, tolerance_limit}
use Rattle.rules.specs.Table.{Node, Good, node_bytes}
use Rattle.rules.specs.Rows.{Row, variable_count, rows_of, row_bytes, rows_bytes}
use Rattle.rules.specs.Demands.Answer.{refused}
use Rattle.rules.specs.Outcome.{read_outcome, evaluate_outcome, rows_outcome}
use Rattle.mps.specs.Page.{page}
use Rattle.mps.specs.Outcome.{page_outcome}
use Rattle.printer_text.specs.Outcome.{print_outcome}

-- "Horizon T: slots 1 to 64."
abbrev pub max_slots : ℕ
max_slots = 64

-- "Atom count M: 1 to 16."
abbrev pub max_atoms : ℕ
max_atoms = 16

-- "Nodes N: 1 to 128." The evaluator writes a word for each.
abbrev pub max_nodes : ℕ
max_nodes = 128

-- "Text: at most 1,024 bytes." Request N9: no longer text is printed.
abbrev pub max_text : ℕ
max_text = 1024

-- the bytes of a node record
abbrev pub node_record : ℕ
node_record = 8

-- the bytes of a table, which the reader writes: 128 records
abbrev pub max_table : ℕ
max_table = 1024

-- "Figures are signed 32-bit millionths": `one` is that of crate rules.

-- "Tolerance: 0 to 1,000 millionths."
abbrev pub max_tolerance : ℕ
max_tolerance = 1000

-- the variables, and so the figures: 16 atoms, 128 nodes and 127 V's, at 64 slots; the first node of a table is an atom's and has no V
abbrev pub max_variables : ℕ
max_variables = 17344

-- "a row is 5 bytes and 3 per term"
abbrev pub row_head : ℕ
row_head = 5

abbrev pub term_record : ℕ
term_record = 3

-- the terms of a row: the last of a window has its slots', and the node's own
abbrev pub max_terms : ℕ
max_terms = 65

-- the rows: those of an atom under 127 windows of 64 slots are 64 + 127 · 64 · 65, and the goal row
abbrev pub max_rows : ℕ
max_rows = 528385

-- the bytes of these rows, which the row writer writes: 64 · 11 + 127 · 64 · (64 · 11 + 200) + 8
abbrev pub max_rows_bytes : ℕ
max_rows_bytes = 7348424

-- the bytes of their MPS page, with 16 atoms
abbrev pub max_page : ℕ
max_page = 48544593

-- ---- what the papers have by definition

pub record AsDefined : Type 0 where
  pub slots : (T : ℕ) → SlotsAllowed T ↔ ((1 ≤ T) × (T ≤ max_slots))
  pub atoms : (M : ℕ) → AtomsAllowed M ↔ ((1 ≤ M) × (M ≤ max_atoms))
  pub nodes : max_nodes ≡ node_limit
  pub text : max_text ≡ text_limit
  pub node-record : (height : ℕ) (nd : Node) → length (node_bytes height nd) ≡ node_record
  pub figure : one ≡ 1000000
  pub tolerance : max_tolerance ≡ tolerance_limit
  pub row_record : (r : Row) → length (row_bytes r) ≡ row_head + term_record * length r.terms

-- ---- no good table has more, with any T, M and L that are allowed

pub record LimitsHold (T M L : ℕ) (table : List ℕ) (ns : List Node) : Type 0 where
  pub bytes : length table ≤ max_table
  pub variables : variable_count T M L ns ≤ max_variables
  pub terms : Every (λ (r : Row). length r.terms ≤ max_terms) (rows_of T M L ns)
  pub rows : length (rows_of T M L ns) ≤ max_rows
  pub rows-bytes : length (rows_bytes (rows_of T M L ns)) ≤ max_rows_bytes
  pub page-bytes : length (page T M L ns) ≤ max_page

abbrev pub NoTableHasMore : Type 0
NoTableHasMore =
    (T M L : ℕ) (table : List ℕ) (ns : List Node) → SlotsAllowed T → AtomsAllowed M → LoopAllowed T L → Good M table ns → LimitsHold T M L table ns

-- ---- a buffer of the largest size is never too short, whatever else is passed; `room` is its length, in words for the evaluator

pub record RoomEnough : Type 0 where
  pub read : (M : ℕ) (text : List ℕ) (room : ℕ) → max_table ≤ room → read_outcome M text room ≡ refused 11 → ⊥
  pub evaluate : (T M L : ℕ) (table run : List ℕ) (room : ℕ) → max_nodes ≤ room → evaluate_outcome T M L table run room ≡ refused 11 → ⊥
  pub rows : (T M L : ℕ) (table : List ℕ) (room : ℕ) → max_rows_bytes ≤ room → rows_outcome T M L table room ≡ refused 11 → ⊥
  pub mps : (T M L : ℕ) (table : List ℕ) (room : ℕ) → max_page ≤ room → page_outcome T M L table room ≡ refused 11 → ⊥
  pub print : (M : ℕ) (table : List ℕ) (room : ℕ) → max_text ≤ room → print_outcome M table room ≡ refused 11 → ⊥
