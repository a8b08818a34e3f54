-- Three pages, line by line.
use Rattle.std.specs.Prelude.{◌≡◌, refl, List, [], ◌∷◌, ℕ}
use Rattle.lists.specs.Any.{any}
use Rattle.lists.specs.Flat.{flat}
use Rattle.rules.specs.Rule.Binary.{and, implies, until}
use Rattle.rules.specs.Rule.Window.{within, throughout}
use Rattle.rules.specs.Table.{Node}
use Rattle.rules.specs.Table.Node.{atom, binary, windowed}
use Rattle.text.specs.Decimal.{digits_to, decimal}
use Rattle.text.specs.Literals.{lines}
use Rattle.mps.specs.Merged.{coefficient, stands}
use Rattle.mps.specs.Page.{field, type_line, row_line, number_line, number_unless_zero, each_row, cost_line, column_lines, binary_line, upper_line}
use Rattle.mps.specs.Page.{row_section, column_section, right_section, bound_section, page_of, page}

-- ---- the rule a0Ua1 with T = 2 and M = 2

abbrev pub until_nodes : List Node
until_nodes = atom 0 ∷ atom 1 ∷ binary until 0 1 ∷ []

abbrev pub until_page : List ℕ
until_page =
    lines (
    "NAME" ∷
    "ROWS" ∷
    " N  COST" ∷
    " E  R0" ∷
    " E  R1" ∷
    " E  R2" ∷
    " E  R3" ∷
    " G  R4" ∷
    " G  R5" ∷
    " G  R6" ∷
    " G  R7" ∷
    " E  R8" ∷
    " E  R9" ∷
    "COLUMNS" ∷
    "    X0        R0        -1" ∷
    "    X1        R1        -1" ∷
    "    X2        R2        -1" ∷
    "    X3        R3        -1" ∷
    "    X4        R0        1" ∷
    "    X4        R5        1" ∷
    "    X4        R7        -1" ∷
    "    X5        R1        1" ∷
    "    X6        R2        1" ∷
    "    X6        R4        -1" ∷
    "    X6        R5        1" ∷
    "    X6        R6        1" ∷
    "    X7        R3        1" ∷
    "    X7        R8        -1" ∷
    "    X8        R4        1" ∷
    "    X8        R5        -1" ∷
    "    X8        R6        -1" ∷
    "    X8        R7        1" ∷
    "    X8        R9        1" ∷
    "    X9        R6        1" ∷
    "    X9        R7        -1" ∷
    "    X9        R8        1" ∷
    "RHS" ∷
    "    RHS       R7        -1" ∷
    "    RHS       R9        1" ∷
    "BOUNDS" ∷
    " BV BND       X0" ∷
    " BV BND       X1" ∷
    " BV BND       X2" ∷
    " BV BND       X3" ∷
    " UP BND       X4        1" ∷
    " UP BND       X5        1" ∷
    " UP BND       X6        1" ∷
    " UP BND       X7        1" ∷
    " UP BND       X8        1" ∷
    " UP BND       X9        1" ∷
    "ENDATA" ∷
    [])

pub until-page : page 2 2 2 until_nodes ≡ until_page
unfolding page page_of row_section column_section right_section bound_section type_line row_line number_line number_unless_zero each_row
    cost_line column_lines binary_line upper_line field coefficient stands flat decimal digits_to
until-page = refl

-- ---- rows that merge, with T = 1 and M = 2. R3 is P − p − q with p = q, so p has the coefficient −2.
-- R6 is q − p − P with p = q, so only P is left. Atom 1 is in no row.

abbrev pub merging_nodes : List Node
merging_nodes = atom 0 ∷ binary and 0 0 ∷ binary implies 0 0 ∷ []

abbrev pub merging_page : List ℕ
merging_page =
    lines (
    "NAME" ∷
    "ROWS" ∷
    " N  COST" ∷
    " E  R0" ∷
    " G  R1" ∷
    " G  R2" ∷
    " G  R3" ∷
    " G  R4" ∷
    " G  R5" ∷
    " G  R6" ∷
    " E  R7" ∷
    "COLUMNS" ∷
    "    X0        R0        -1" ∷
    "    X1        COST      0" ∷
    "    X2        R0        1" ∷
    "    X2        R1        1" ∷
    "    X2        R2        1" ∷
    "    X2        R3        -2" ∷
    "    X2        R4        1" ∷
    "    X2        R5        -1" ∷
    "    X3        R1        -1" ∷
    "    X3        R2        -1" ∷
    "    X3        R3        1" ∷
    "    X4        R4        1" ∷
    "    X4        R5        1" ∷
    "    X4        R6        -1" ∷
    "    X4        R7        1" ∷
    "RHS" ∷
    "    RHS       R3        -1" ∷
    "    RHS       R4        1" ∷
    "    RHS       R6        -1" ∷
    "    RHS       R7        1" ∷
    "BOUNDS" ∷
    " BV BND       X0" ∷
    " BV BND       X1" ∷
    " UP BND       X2        1" ∷
    " UP BND       X3        1" ∷
    " UP BND       X4        1" ∷
    "ENDATA" ∷
    [])

pub merging-page : page 1 2 1 merging_nodes ≡ merging_page
unfolding page page_of row_section column_section right_section bound_section type_line row_line number_line number_unless_zero each_row
    cost_line column_lines binary_line upper_line field coefficient stands flat decimal digits_to
merging-page = refl

-- ---- windows: the rule F[0,1]G[1,1]a0 with T = 2 and M = 1. G has a window of one slot, so its last row has the right side 0.
-- F has a window of both slots at slot 1, and of slot 2 alone at slot 2.

abbrev pub window_nodes : List Node
window_nodes = atom 0 ∷ windowed throughout 1 1 0 ∷ windowed within 0 1 1 ∷ []

abbrev pub window_page : List ℕ
window_page =
    lines (
    "NAME" ∷
    "ROWS" ∷
    " N  COST" ∷
    " E  R0" ∷
    " E  R1" ∷
    " G  R2" ∷
    " G  R3" ∷
    " G  R4" ∷
    " G  R5" ∷
    " G  R6" ∷
    " G  R7" ∷
    " G  R8" ∷
    " G  R9" ∷
    " G  R10" ∷
    " E  R11" ∷
    "COLUMNS" ∷
    "    X0        R0        -1" ∷
    "    X1        R1        -1" ∷
    "    X2        R0        1" ∷
    "    X3        R1        1" ∷
    "    X3        R2        1" ∷
    "    X3        R3        -1" ∷
    "    X3        R4        1" ∷
    "    X3        R5        -1" ∷
    "    X4        R2        -1" ∷
    "    X4        R3        1" ∷
    "    X4        R6        -1" ∷
    "    X4        R8        1" ∷
    "    X5        R4        -1" ∷
    "    X5        R5        1" ∷
    "    X5        R7        -1" ∷
    "    X5        R8        1" ∷
    "    X5        R9        -1" ∷
    "    X5        R10       1" ∷
    "    X6        R6        1" ∷
    "    X6        R7        1" ∷
    "    X6        R8        -1" ∷
    "    X6        R11       1" ∷
    "    X7        R9        1" ∷
    "    X7        R10       -1" ∷
    "RHS" ∷
    "    RHS       R11       1" ∷
    "BOUNDS" ∷
    " BV BND       X0" ∷
    " BV BND       X1" ∷
    " UP BND       X2        1" ∷
    " UP BND       X3        1" ∷
    " UP BND       X4        1" ∷
    " UP BND       X5        1" ∷
    " UP BND       X6        1" ∷
    " UP BND       X7        1" ∷
    "ENDATA" ∷
    [])

pub window-page : page 2 1 2 window_nodes ≡ window_page
unfolding page page_of row_section column_section right_section bound_section type_line row_line number_line number_unless_zero each_row
    cost_line column_lines binary_line upper_line field coefficient stands flat decimal digits_to any
window-page = refl
