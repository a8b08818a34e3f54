-- A small page with the model that it states, and pages that state none.
use Rattle.std.specs.Prelude.{◌≡◌, refl, ℕ, ℤ, pos, negsuc, replicate}
use mathlib.Core.List.{List, [], ◌∷◌, ◌++◌, map, flat_map}
use Rattle.std.proofs.Math.Option.{none, some}
use Prim.Native.String.{String}
use Rattle.rules.specs.Rows.{Term}
use Rattle.rules.specs.Rows.Relation.{at_least, equal}
use Rattle.text.specs.Literals.{lines}
use Rattle.mps.specs.Parsing.{lines_in, trimmed, fields_in, same, digits_in, row_fact, column_fact, right_fact, bound_fact, cut, cut_at, each, every}
use Rattle.mps.specs.Parsing.{Model, model_from, parse_six, parse_page}
use Rattle.mps.specs.Parsing.ModelRow.{free, numbered}
use Rattle.mps.specs.Parsing.Bound.{binary, upper}

-- a page by the lines of its sections
abbrev pub page_with : (rows columns rights bounds : List String) → List ℕ
page_with rows columns rights bounds =
    lines ("NAME" ∷ "ROWS" ∷ rows) ++ (lines ("COLUMNS" ∷ columns) ++ (lines ("RHS" ∷ rights) ++ (lines ("BOUNDS" ∷ bounds) ++ lines ("ENDATA" ∷ []))))

abbrev pub small_rows : List String
small_rows =
    " N  COST" ∷
    " G  R0" ∷
    " E  R1" ∷
    []

abbrev pub small_columns : List String
small_columns =
    "    X0        R0        1" ∷
    "    X0        R1        -2" ∷
    "    X1        COST      0" ∷
    "    X2        R0        1" ∷
    []

abbrev pub small_rights : List String
small_rights =
    "    RHS       R1        -1" ∷
    []

abbrev pub small_bounds : List String
small_bounds =
    " BV BND       X0" ∷
    " BV BND       X1" ∷
    " UP BND       X2        1" ∷
    []

abbrev term : ℤ → (v : ℕ) → Term
term c v = record { coefficient = c; variable = v }

-- R0: X0 + X2 ≥ 0, and R1: −2·X0 = −1
abbrev pub small_model : Model
small_model =
    record {
      rows =
          free ∷
          numbered 0 (record { relation = at_least; terms = term (pos 1) 0 ∷ term (pos 1) 2 ∷ []; right = pos 0 }) ∷
          numbered 1 (record { relation = equal; terms = term (negsuc 1) 0 ∷ []; right = negsuc 0 }) ∷
          [];
      costs = term (pos 0) 1 ∷ [];
      bounds = binary 0 ∷ binary 1 ∷ upper 2 (pos 1) ∷ [];
    }

pub small-parsed : parse_page (page_with small_rows small_columns small_rights small_bounds) ≡ some small_model
unfolding parse_page parse_six model_from each every flat_map cut cut_at lines_in fields_in trimmed same digits_in row_fact column_fact right_fact bound_fact
small-parsed = refl

-- ---- the small page with one line more, or with another section; each states no model

abbrev rows_with : String → List ℕ
rows_with line = page_with (small_rows ++ (line ∷ [])) small_columns small_rights small_bounds

abbrev columns_with : String → List ℕ
columns_with line = page_with small_rows (small_columns ++ (line ∷ [])) small_rights small_bounds

abbrev rights_with : String → List ℕ
rights_with line = page_with small_rows small_columns (small_rights ++ (line ∷ [])) small_bounds

abbrev bounds_with : String → List ℕ
bounds_with line = page_with small_rows small_columns small_rights (small_bounds ++ (line ∷ []))

abbrev pub bad_pages : List (List ℕ)
bad_pages =
    -- a row that ROWS does not declare; R00 is not R0
    columns_with "    X3        R2        1" ∷
    columns_with "    X3        R00       1" ∷
    rights_with "    RHS       R2        1" ∷
    -- COST is not declared
    page_with (" G  R0" ∷ " E  R1" ∷ []) small_columns small_rights small_bounds ∷
    -- a row declared twice; two free rows
    rows_with " G  R1" ∷
    rows_with " N  COST" ∷
    -- a second right side of R1
    rights_with "    RHS       R1        -1" ∷
    -- a field one column late, or early
    rows_with "  G R2" ∷
    rows_with " G   R2" ∷
    rows_with " G R2" ∷
    columns_with "     X3       R0        1" ∷
    columns_with "    X3         R0       1" ∷
    columns_with "    X3        R0         1" ∷
    columns_with "    X3        R0       1" ∷
    bounds_with " UP BND       X3         1" ∷
    -- a number that is none
    columns_with "    X3        R0        -0" ∷
    columns_with "    X3        R0        01" ∷
    columns_with "    X3        R0        1.5" ∷
    columns_with "    X3        R0" ∷
    -- a type that is none
    rows_with " L  R2" ∷
    bounds_with " FX BND       X3        1" ∷
    []

pub bad-pages : map parse_page bad_pages ≡ replicate 21 none
unfolding parse_page parse_six model_from each every flat_map cut cut_at lines_in fields_in trimmed same digits_in row_fact column_fact right_fact bound_fact
bad-pages = refl
