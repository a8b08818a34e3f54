-- How many bytes the sections of a page have, by its rows.
use Rattle.std.specs.Prelude.{◌≡◌, refl, Bool, true, false, cond, not, ◌||◌, List, [], ◌∷◌, ℕ, zero, suc, ◌+◌, ◌*◌, ◌≤◌, ◌<◌, ℤ, pos, negsuc, length}
use Rattle.std.proofs.Common.{ap, ap₂, ◌∙◌, arith, lt-ltb, le-ltb}
use Rattle.std.proofs.Math.ListN.{length-append}
use Rattle.lists.specs.Flat.{flat}
use Rattle.rules.specs.Rows.{Relation, Row}
use Rattle.rules.specs.Rows.Relation.{at_least, equal}
use Rattle.text.specs.Decimal.{decimal}
use Rattle.text.proofs.DecimalLaws.{length-low}
use Rattle.mps.specs.Words.{COST, N}
use Rattle.mps.specs.Merged.{coefficient, is_zero, stands}
use Rattle.mps.specs.Page.{type_line, type_text, row_name, row_line, entry_line, right_line, each_row, cost_line, column_lines, binary_line, upper_line, bound_line}
use Rattle.mps.specs.Page.{row_section, column_section, right_section, bound_section, page_of}
use Rattle.mps_line.specs.declared.Name.TheVariants.{Cost, Rights, Row as RowName, Variable}
use Rattle.mps_line.specs.Names.{type_length, number-length, binary-length, upper-length}
use Rattle.lists.specs.Sums.{sum_to, sum_same, sum-add, sum-times, sum-even, sum-split, length-flat}
use Rattle.mps_length.specs.Digits.{digit_sum, digits-below}
use Rattle.mps_length.specs.Terms.{size, size-zero, line-size, total}
use Rattle.mps_length.specs.RowSizes.{weight}

-- ---- ROWS

abbrev digits_to : ℕ → ℕ
digits_to = sum_to (λ i. length (decimal i))

row-line : (i : ℕ) (r : Row) → length (row_line i r) ≡ 6 + length (decimal i)
unfolding row_line
row-line i r = go r.relation
  where
    go : (o : Relation) → length (type_line (type_text o) (row_name i)) ≡ 6 + length (decimal i)
    go at_least = type_length 71 (RowName i) ∙ omega arith
    go equal = type_length 69 (RowName i) ∙ omega arith

row-lines : (i : ℕ) (rs : List Row) → digits_to i + length (each_row row_line i rs) ≡ 6 * length rs + digits_to (i + length rs)
unfolding each_row
row-lines i [] = let e : i + 0 ≡ i = omega arith in omega (arith, ap digits_to e)
row-lines i (r ∷ rs) =
    let e : i + 1 + length rs ≡ i + suc (length rs) = omega arith in
    let f : i + 1 ≡ suc i = omega arith in
    omega (arith, length-append (row_line i r) (each_row row_line (i + 1) rs), row-line i r, row-lines (i + 1) rs, ap digits_to e, ap digits_to f)

free-line : length (type_line N COST) ≡ 9
free-line = type_length 78 Cost ∙ omega arith

row-section : (rs : List Row) → length rs ≤ 1000000 → length (row_section rs) ≡ 19 + 6 * length rs + digit_sum (length rs)
unfolding row_section
row-section rs h =
    let e : 0 + length rs ≡ length rs = omega arith in
    let a = row-lines 0 rs in
    let b = ap digits_to e in
    let c = digits-below (length rs) h in
    let d = free-line in
    simp length-append (omega arith)

-- ---- RHS

abbrev rights : List Row → ℕ
rights [] = 0
rights (r ∷ rs) = size r.right + rights rs

right-lines : (i : ℕ) (rs : List Row) → i + length rs ≤ 1000000 → length (each_row right_line i rs) ≡ rights rs
unfolding each_row
right-lines i [] h = refl
right-lines i (r ∷ rs) h =
    length-append (right_line i r) (each_row right_line (i + 1) rs)
    ∙ ap₂ ◌+◌ (line-size Rights i r.right tt (omega arith)) (right-lines (i + 1) rs (omega arith))

-- ---- COLUMNS: the lines of variable v in rows

abbrev column : (v : ℕ) → List Row → ℕ
column v [] = 0
column v (r ∷ rs) = size (coefficient v r.terms) + column v rs

entry-lines : (v i : ℕ) (rs : List Row) → v < 1000000 → i + length rs ≤ 1000000 → length (each_row (entry_line v) i rs) ≡ column v rs
unfolding each_row
entry-lines v i [] g h = refl
entry-lines v i (r ∷ rs) g h =
    length-append (entry_line v i r) (each_row (entry_line v) (i + 1) rs)
    ∙ ap₂ ◌+◌ (line-size (Variable v) i (coefficient v r.terms) g (omega arith)) (entry-lines v (i + 1) rs g (omega arith))

size_none : (c : ℤ) → is_zero c ≡ true → size c ≡ 0
size_none (pos zero) e = size-zero
size_none (pos (suc n)) e = let z : ◌≡◌ {A = ℕ} 0 1 = cc in absurd (omega arith)
size_none (negsuc n) e = let z : ◌≡◌ {A = ℕ} 0 1 = cc in absurd (omega arith)

or_neither : (a b : Bool) → (not a || b) ≡ false → (a ≡ true) × (b ≡ false)
or_neither true b e = (refl, e)
or_neither false b e = let z : ◌≡◌ {A = ℕ} 0 1 = cc in absurd (omega arith)

column-none : (v : ℕ) (rs : List Row) → stands v rs ≡ false → column v rs ≡ 0
unfolding stands
column-none v [] e = refl
column-none v (r ∷ rs) e =
    let h = or_neither (is_zero (coefficient v r.terms)) (stands v rs) e in
    ap₂ ◌+◌ (size_none (coefficient v r.terms) h.0) (column-none v rs h.1)

-- "A variable in no row has one COST line with 0."
abbrev pub idle_at : List Row → (v : ℕ) → ℕ
idle_at rs v = cond (stands v rs) 0 1

column-lines : (rs : List Row) (v : ℕ) → v < 1000000 → length rs ≤ 1000000 → length (column_lines rs v) ≡ column v rs + 26 * idle_at rs v
unfolding column_lines cost_line
column-lines rs v g h = go (stands v rs) refl
  where
    go : (b : Bool) → stands v rs ≡ b → length (cond b (each_row (entry_line v) 0 rs) (cost_line v)) ≡ column v rs + 26 * cond b 0 1
    go true e = omega (arith, entry-lines v 0 rs g (omega arith))
    go false e = omega (arith, number-length (Variable v) Cost (pos 0) g tt, length-low 0 (omega arith), column-none v rs e)

columns_and-rights : (n : ℕ) (rs : List Row) → sum_to (λ v. column v rs) n + rights rs ≡ weight n rs
unfolding total
columns_and-rights n [] = omega (arith, sum-even (λ v. 0) 0 n (λ v h. refl))
columns_and-rights n (r ∷ rs) =
    omega (arith, sum-add (λ v. size (coefficient v r.terms)) (λ v. column v rs) n, columns_and-rights n rs)

-- ---- BOUNDS: k variables after the atoms'

bound_lines : (atoms k : ℕ) → atoms + k ≤ 1000000 → length (flat (bound_line atoms) (atoms + k)) ≡ 16 * atoms + digit_sum atoms + 26 * k
bound_lines atoms k h =
    let f : ℕ → ℕ = λ v. length (bound_line atoms v) in
    let a : sum_to f atoms ≡ sum_to (λ v. 16 + length (decimal v)) atoms = sum_same f (λ v. 16 + length (decimal v)) atoms below in
    let b : sum_to (λ i. f (atoms + i)) k ≡ k * 26 = sum-even (λ i. f (atoms + i)) 26 k after in
    let c = sum-add (λ v. 16) (λ v. length (decimal v)) atoms in
    let d = sum-even (λ v. 16) 16 atoms (λ v g. refl) in
    omega (arith, length-flat (bound_line atoms) (atoms + k), sum-split f atoms k, c, d, digits-below atoms (omega arith))
  where
    below : (v : ℕ) → v < atoms → length (bound_line atoms v) ≡ 16 + length (decimal v)
    below v g = ap (λ (t : Bool). length (cond t (binary_line v) (upper_line v))) (lt-ltb v atoms g) ∙ binary-length v

    after : (i : ℕ) → i < k → length (bound_line atoms (atoms + i)) ≡ 26
    after i g =
        ap (λ (t : Bool). length (cond t (binary_line (atoms + i)) (upper_line (atoms + i)))) (le-ltb (atoms + i) atoms (omega arith))
        ∙ upper-length (atoms + i) (omega arith)

-- ---- the page

module _ (atoms k : ℕ) (rs : List Row) (few : atoms + k ≤ 1000000) (short : length rs ≤ 1000000) where
  abbrev n : ℕ
  n = atoms + k

  column-section : length (flat (column_lines rs) n) ≡ sum_to (λ v. column v rs) n + 26 * sum_to (idle_at rs) n
  column-section =
      length-flat (column_lines rs) n
      ∙ sum_same (λ v. length (column_lines rs v)) (λ v. column v rs + 26 * idle_at rs v) n (λ v g. column-lines rs v (omega arith) short)
      ∙ sum-add (λ v. column v rs) (λ v. 26 * idle_at rs v) n ∙ ap (λ (x : ℕ). sum_to (λ v. column v rs) n + x) (sum-times 26 (idle_at rs) n)

  pub page-sections : length (page_of atoms n rs) ≡
      45 + 6 * length rs + digit_sum (length rs) + weight n rs + 26 * sum_to (idle_at rs) n + 16 * atoms + digit_sum atoms + 26 * k
  unfolding page_of column_section right_section bound_section
  page-sections =
      let a = row-section rs short in
      let b = column-section in
      let c = right-lines 0 rs (omega arith) in
      let d = columns_and-rights n rs in
      let e = bound_lines atoms k few in
      simp length-append (omega arith)
