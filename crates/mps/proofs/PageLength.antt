-- How long a page is at most: each term of the rows gives at most one line of a column, so a page has as many lines as terms, rows and variables.
use Rattle.std.specs.Prelude.{◌≡◌, refl, Bool, true, false, cond, List, [], ◌∷◌, ◌++◌, map, ℕ, zero, suc, ◌+◌, ◌-◌, ◌*◌, ◌≤◌, ◌<◌, eqb, ltb, ℤ, pos, negsuc, neg_ℤ, nat_abs, ◌+ℤ◌, length}
use Rattle.std.proofs.Common.{ap, mul-le-mul, arith}
use Rattle.std.proofs.Math.ListN.{length-append}
use Rattle.std.proofs.lemmas.List.{length-map, length-replicate}
use Rattle.lists.specs.Every.{Every}
use Rattle.lists.specs.Flat.{flat}
use Rattle.lists.specs.Sums.{sum_to, sum_le, sum-add, sum-times, sum-even, pick, pick-most, length-flat}
use Rattle.ints.specs.Magnitudes.{sum_magnitude}
use Rattle.lists.specs.Passing.{passing-length}
use Rattle.rules.specs.Rule.{Unary, Binary, Window}
use Rattle.rules.specs.Rule.Unary.{not, eventually, always}
use Rattle.rules.specs.Rule.Binary.{and, or, implies, until}
use Rattle.rules.specs.Rule.Window.{within, throughout}
use Rattle.rules.specs.Table.{Node}
use Rattle.rules.specs.Table.Node.{atom, unary, binary, windowed}
use Rattle.rules.specs.Rows.{Relation, Term, Row, plus, minus, ge, in_window, window_slots, unary_rows, binary_rows, window_rows, slack, unary_loops, binary_loops}
use Rattle.rules.specs.Rows.{looping, loop_slack, variable_count, goes_on, next_slack, rows_at, loop_rows_at, slots_rows}
use Rattle.rules.specs.Rows.{node_rows, nodes_rows, slack_rows, goal_row, rows_of}
use Rattle.rules.specs.Rows.Relation.{at_least, equal}
use Rattle.rules.specs.RowRecords.{Small, Recordable}
use Rattle.rules.proofs.RowRecords.{rows_recordable}
use Rattle.rules.proofs.RowCount.{rows-count}
use Rattle.text.specs.Decimal.{decimal, signed_text}
use Rattle.text.proofs.DecimalLaws.{below_1000, below_100000, below_1000000}
use Rattle.mps.specs.Words.{RHS, COST, N, G, E, BND, BV, UP, R, X}
use Rattle.mps.proofs.Proved.{looping_le, if-le}
use Rattle.mps.specs.Merged.{coefficient, is_zero, stands}
use Rattle.mps.specs.Page.{field, row_name, variable_name, type_text, type_line, row_line, number_line, number_unless_zero, entry_line, right_line}
use Rattle.mps.specs.Page.{each_row, cost_line, column_lines, binary_line, upper_line, bound_line}
use Rattle.mps.specs.Page.{row_section, column_section, right_section, bound_section, page_of, page}

-- ---- how often a variable stands in terms and in rows: in all, as often as there are terms

abbrev occurs : (v : ℕ) → List Term → ℕ
occurs v [] = 0
occurs v (t ∷ ts) = pick t.variable 1 v + occurs v ts

occurs-all : (ts : List Term) (n : ℕ) → sum_to (λ v. occurs v ts) n ≤ length ts
occurs-all [] n = omega (arith, sum-even (λ v. 0) 0 n (λ v h. refl))
occurs-all (t ∷ ts) n = omega (arith, sum-add (pick t.variable 1) (λ v. occurs v ts) n, pick-most t.variable 1 n, occurs-all ts n)

abbrev in_rows : (v : ℕ) → List Row → ℕ
in_rows v [] = 0
in_rows v (r ∷ rs) = occurs v r.terms + in_rows v rs

abbrev pub term_count : List Row → ℕ
term_count [] = 0
term_count (r ∷ rs) = length r.terms + term_count rs

rows_all : (rs : List Row) (n : ℕ) → sum_to (λ v. in_rows v rs) n ≤ term_count rs
rows_all [] n = omega (arith, sum-even (λ v. 0) 0 n (λ v h. refl))
rows_all (r ∷ rs) n = omega (arith, sum-add (λ v. occurs v r.terms) (λ v. in_rows v rs) n, occurs-all r.terms n, rows_all rs n)

-- ---- a line has at most 40 bytes

field-length : (column : ℕ) (text content : List ℕ) → length (field column text content) ≡ length text + (column - 1 - length text + length content)
unfolding field
field-length column text content = simp (length-append, length-replicate)

number_short : (name row : List ℕ) (c : ℤ) → length name ≤ 7 → length row ≤ 7 → length (signed_text c) ≤ 7 → length (number_line name row c) ≤ 40
unfolding number_line
number_short name row c a b d =
    let first = field 5 [] name in
    let second = field 15 first row in
    let third = field 25 second (signed_text c) in
    omega (arith, field-length 5 [] name, field-length 15 first row, field-length 25 second (signed_text c), length-append third (10 ∷ []))

name-short : (letter n : ℕ) → n < 1000000 → length (letter ∷ decimal n) ≤ 7
name-short letter n h = omega (arith, below_1000000 n h)

signed_short : (c : ℤ) → nat_abs c < 100000 → length (signed_text c) ≤ 7
signed_short (pos n) h = omega (arith, below_100000 n h)
signed_short (negsuc n) h = omega (arith, below_100000 (suc n) h)

letter-short : (type name : List ℕ) → length type ≡ 1 → length name ≤ 7 → length (type_line type name) ≤ 40
unfolding type_line
letter-short type name e h =
    let first = field 2 [] type in
    let second = field 5 first name in
    omega (arith, field-length 2 [] type, field-length 5 first name, length-append second (10 ∷ []))

type_short : (o : Relation) (i : ℕ) → i < 1000000 → length (type_line (type_text o) (row_name i)) ≤ 40
type_short at_least i h = letter-short G (row_name i) refl (name-short R i h)
type_short equal i h = letter-short E (row_name i) refl (name-short R i h)

bound_short : (atoms v : ℕ) → v < 1000000 → length (bound_line atoms v) ≤ 40
unfolding binary_line upper_line
bound_short atoms v h = go (ltb v atoms)
  where
    named : (type : List ℕ) → length type ≡ 2 → length (field 15 (field 5 (field 2 [] type) BND) (variable_name v)) ≤ 21
    named type e =
        let first = field 2 [] type in
        let second = field 5 first BND in
        omega (arith, field-length 2 [] type, field-length 5 first BND, field-length 15 second (variable_name v), name-short X v h)

    go : (b : Bool) → length (cond b (binary_line v) (upper_line v)) ≤ 40
    go true = omega (arith, named BV refl, length-append (field 15 (field 5 (field 2 [] BV) BND) (variable_name v)) (10 ∷ []))
    go false =
        let third = field 15 (field 5 (field 2 [] UP) BND) (variable_name v) in
        let fourth = field 25 third (decimal 1) in
        omega (arith, named UP refl, field-length 25 third (decimal 1), below_1000 1 (omega arith), length-append fourth (10 ∷ []))

-- ---- entries: as many as the variable stands in rows

coefficient-none : (v : ℕ) (ts : List Term) → occurs v ts ≡ 0 → coefficient v ts ≡ pos 0
unfolding coefficient
coefficient-none v [] e = refl
coefficient-none v (t ∷ ts) e = go (eqb t.variable v) refl (λ q. coefficient-none v ts q)
  where
    go : (b : Bool) → eqb t.variable v ≡ b → (occurs v ts ≡ 0 → coefficient v ts ≡ pos 0) → cond b t.coefficient (pos 0) +ℤ coefficient v ts ≡ pos 0
    go true q f = let z : pick t.variable 1 v ≡ 1 = ap (λ (b : Bool). cond b 1 0) q in absurd (omega arith)
    go false q f = rw (f (omega arith)) refl

small_size : (c : ℤ) → Small c → nat_abs c ≤ 128
small_size (pos n) h = omega arith
small_size (negsuc n) h = omega arith

coefficient-size : (v : ℕ) (ts : List Term) → Every (λ (t : Term). Small t.coefficient) ts → nat_abs (coefficient v ts) ≤ 128 * length ts
unfolding coefficient
coefficient-size v [] h = omega arith
coefficient-size v (t ∷ ts) h = go (eqb t.variable v) (coefficient-size v ts h.1)
  where
    go : (b : Bool) → nat_abs (coefficient v ts) ≤ 128 * length ts → nat_abs (cond b t.coefficient (pos 0) +ℤ coefficient v ts) ≤ 128 * suc (length ts)
    go true g = omega (arith, sum_magnitude t.coefficient (coefficient v ts) (small_size t.coefficient h.0) g)
    go false g = omega (arith, sum_magnitude (pos 0) (coefficient v ts) {m = 0} (omega arith) g)

unless-zero-short : (name : List ℕ) (i : ℕ) (c : ℤ) → length name ≤ 7 → i < 1000000 → nat_abs c < 100000 → length (number_unless_zero name i c) ≤ 40
unfolding number_unless_zero
unless-zero-short name i c a b d = go (is_zero c)
  where
    go : (b : Bool) → length (cond b [] (number_line name (row_name i) c)) ≤ 40
    go true = omega arith
    go false = number_short name (row_name i) c a (name-short R i b) (signed_short c d)

entry_length : (v i : ℕ) (r : Row) → v < 1000000 → i < 1000000 → Recordable r → length (entry_line v i r) ≤ 40 * occurs v r.terms
unfolding number_unless_zero
entry_length v i r g h q = go (occurs v r.terms) refl
  where
    go : (k : ℕ) → occurs v r.terms ≡ k → length (entry_line v i r) ≤ 40 * k
    go zero e = rw (coefficient-none v r.terms e) (omega arith)
    go (suc k) e =
        let c = coefficient v r.terms in
        let small : nat_abs c < 100000 = omega (arith, coefficient-size v r.terms q.small, q.few) in
        omega (arith, unless-zero-short (variable_name v) i c (name-short X v g) h small)

entries_length : (v i : ℕ) (rs : List Row) → v < 1000000 → i + length rs ≤ 1000000 → Every Recordable rs →
    length (each_row (entry_line v) i rs) ≤ 40 * in_rows v rs
unfolding each_row
entries_length v i [] g h q = omega arith
entries_length v i (r ∷ rs) g h q =
    let first = entry_length v i r g (omega arith) q.0 in
    let others = entries_length v (i + 1) rs g (omega arith) q.1 in
    omega (arith, length-append (entry_line v i r) (each_row (entry_line v) (i + 1) rs))

column-length : (rs : List Row) (v : ℕ) → v < 1000000 → length rs ≤ 1000000 → Every Recordable rs → length (column_lines rs v) ≤ 40 + 40 * in_rows v rs
unfolding column_lines cost_line
column-length rs v g h q = go (stands v rs)
  where
    go : (b : Bool) → length (cond b (each_row (entry_line v) 0 rs) (cost_line v)) ≤ 40 + 40 * in_rows v rs
    go true = omega (arith, entries_length v 0 rs g (omega arith) q)
    go false = omega (arith, number_short (variable_name v) COST (pos 0) (name-short X v g) (omega arith) (signed_short (pos 0) (omega arith)))

parts-length : {A : Type 0} (f : ℕ → List A) (g : ℕ → ℕ) (n : ℕ) → ((i : ℕ) → i < n → length (f i) ≤ g i) → length (flat f n) ≤ sum_to g n
parts-length f g n h = omega (arith, length-flat f n, sum_le (λ i. length (f i)) g n h)

-- ---- rows and right sides

each-short : (f : ℕ → Row → List ℕ) (i : ℕ) (rs : List Row) → i + length rs ≤ 1000000 → Every Recordable rs →
    ((j : ℕ) (r : Row) → j < 1000000 → Recordable r → length (f j r) ≤ 40) → length (each_row f i rs) ≤ 40 * length rs
unfolding each_row
each-short f i [] h q g = omega arith
each-short f i (r ∷ rs) h q g =
    let first = g i r (omega arith) q.0 in
    let others = each-short f (i + 1) rs (omega arith) q.1 g in
    omega (arith, length-append (f i r) (each_row f (i + 1) rs))

row-short : (i : ℕ) (r : Row) → i < 1000000 → length (row_line i r) ≤ 40
unfolding row_line
row-short i r h = type_short r.relation i h

right-short : (i : ℕ) (r : Row) → i < 1000000 → Recordable r → length (right_line i r) ≤ 40
right-short i r h q = unless-zero-short RHS i r.right (omega arith) h (omega (arith, small_size r.right q.right-small))

-- ---- the whole page

module _ (atoms n : ℕ) (rs : List Row) (few : n ≤ 1000000) (short : length rs ≤ 1000000) (q : Every Recordable rs) where
  free-short : length (type_line N COST) ≤ 40
  free-short = letter-short N COST refl (omega arith)

  pub page_of-length : length (page_of atoms n rs) ≤ 40 * (2 * length rs + term_count rs + 2 * n) + 100
  unfolding page_of row_section column_section right_section bound_section
  page_of-length =
      let a = each-short row_line 0 rs (omega arith) q (λ j r h p. row-short j r h) in
      let b = each-short right_line 0 rs (omega arith) q right-short in
      let c = parts-length (column_lines rs) (λ v. 40 + 40 * in_rows v rs) n (λ v h. column-length rs v (omega arith) short q) in
      let d = parts-length (bound_line atoms) (λ v. 40) n (λ v h. bound_short atoms v (omega arith)) in
      let e = sum-add (λ v. 40) (λ v. 40 * in_rows v rs) n in
      let s = sum-times 40 (λ v. in_rows v rs) n in
      let f = sum-even (λ v. 40) 40 n (λ v h. refl) in
      let g = rows_all rs n in
      let h = free-short in
      simp length-append (omega arith)

-- ---- how many terms the rows of a table have: at most 3·T + 22 for each node and slot, V's with them, and the goal row's

terms-append : (a b : List Row) → term_count (a ++ b) ≡ term_count a + term_count b
terms-append [] b = omega arith
terms-append (r ∷ a) b = omega (arith, terms-append a b)

unary-terms : (u : Unary) (inner : Bool) (P p P' : ℕ) → term_count (unary_rows u inner P p P') ≤ 11
unary-terms not inner P p P' = omega arith
unary-terms eventually true P p P' = omega arith
unary-terms eventually false P p P' = omega arith
unary-terms always true P p P' = omega arith
unary-terms always false P p P' = omega arith

binary-terms : (o : Binary) (inner : Bool) (P p q P' : ℕ) → term_count (binary_rows o inner P p q P') ≤ 11
binary-terms and inner P p q P' = omega arith
binary-terms or inner P p q P' = omega arith
binary-terms implies inner P p q P' = omega arith
binary-terms until true P p q P' = omega arith
binary-terms until false P p q P' = omega arith

pair-terms : (f : ℕ → Row) → ((s : ℕ) → length (f s).terms ≡ 2) → (ss : List ℕ) → term_count (map f ss) ≡ 2 * length ss
pair-terms f h [] = refl
pair-terms f h (s ∷ ss) = omega (arith, h s, pair-terms f h ss)

-- two for each slot of the window, and the last row's
window-terms : (w : Window) (P : ℕ) (p : ℕ → ℕ) (ss : List ℕ) → term_count (window_rows w P p ss) ≡ 3 * length ss + 1
window-terms within P p ss =
    let pair : ℕ → Row = λ s. ge (plus P ∷ minus (p s) ∷ []) (pos 0) in
    let long : Row = ge (map (λ s. plus (p s)) ss ++ (minus P ∷ [])) (pos 0) in
    let parts = length-append (map (λ (s : ℕ). plus (p s)) ss) (minus P ∷ []) in
    omega (arith, terms-append (map pair ss) (long ∷ []), pair-terms pair (λ s. refl) ss, length-map ss (λ (s : ℕ). plus (p s)))
window-terms throughout P p ss =
    let pair : ℕ → Row = λ s. ge (plus (p s) ∷ minus P ∷ []) (pos 0) in
    let long : Row = ge (plus P ∷ map (λ s. minus (p s)) ss) (neg_ℤ (pos (length ss - 1))) in
    omega (arith, terms-append (map pair ss) (long ∷ []), pair-terms pair (λ s. refl) ss, length-map ss (λ (s : ℕ). minus (p s)))

-- rows that are there or not
if-terms : (b : Bool) (rs : List Row) {k : ℕ} → term_count rs ≤ k → term_count (cond b rs []) ≤ k
if-terms true rs h = h
if-terms false rs h = omega arith

slots-terms : (f : ℕ → List Row) (m : ℕ) → ((t : ℕ) → term_count (f t) ≤ m) → (k t : ℕ) → term_count (slots_rows f k t) ≤ m * k
slots-terms f m h zero t = omega arith
slots-terms f m h (suc k) t = omega (arith, terms-append (f t) (slots_rows f k (t + 1)), h t, slots-terms f m h k (t + 1))

module _ (T M L : ℕ) (ns : List Node) where
  at-terms : (n : ℕ) (nd : Node) (t : ℕ) → term_count (rows_at T M L ns n nd t) ≤ 3 * T + 11
  at-terms n (atom a) t = omega arith
  at-terms n (unary u c) t = omega (arith, unary-terms u (goes_on T L t) (slack T M n t) (slack T M c t) (next_slack T M L ns n t))
  at-terms n (binary o l r) t = omega (arith, binary-terms o (goes_on T L t) (slack T M n t) (slack T M l t) (slack T M r t) (next_slack T M L ns n t))
  at-terms n (windowed w a b c) t =
      omega (arith, window-terms w (slack T M n t) (slack T M c) (window_slots T L t a b), passing-length (in_window T L t a b) T 1)

  loop-terms : (n : ℕ) (nd : Node) (t : ℕ) → term_count (loop_rows_at T M ns n nd t) ≤ 11
  loop-terms n (atom a) t = omega arith
  loop-terms n (unary u c) t = if-terms (unary_loops u) _ (unary-terms u (ltb t T) (loop_slack T M ns n t) (slack T M c t) (loop_slack T M ns n (t + 1)))
  loop-terms n (binary o l r) t =
      if-terms (binary_loops o) _ (binary-terms o (ltb t T) (loop_slack T M ns n t) (slack T M l t) (slack T M r t) (loop_slack T M ns n (t + 1)))
  loop-terms n (windowed w a b c) t = omega arith

  node-terms : (n : ℕ) (nd : Node) → term_count (node_rows T M L ns n nd) ≤ (3 * T + 22) * T
  node-terms n nd =
      let v = slots_rows (loop_rows_at T M ns n nd) T 1 in
      let p = slots_rows (rows_at T M L ns n nd) T 1 in
      omega (
        arith,
        terms-append (cond (ltb L T) v []) p,
        if-terms (ltb L T) v (slots-terms (loop_rows_at T M ns n nd) 11 (loop-terms n nd) T 1),
        slots-terms (rows_at T M L ns n nd) (3 * T + 11) (at-terms n nd) T 1,
      )

  nodes-terms : (n : ℕ) (l : List Node) → term_count (nodes_rows T M L ns n l) ≤ (3 * T + 22) * (length l * T)
  nodes-terms n [] = omega arith
  nodes-terms n (nd ∷ l) = omega (arith, terms-append (node_rows T M L ns n nd) (nodes_rows T M L ns (n + 1) l), node-terms n nd, nodes-terms (n + 1) l)

  rows-terms : term_count (rows_of T M L ns) ≤ (3 * T + 22) * (length ns * T) + 1
  rows-terms = omega (arith, terms-append (slack_rows T M L ns) (goal_row T M ns ∷ []), nodes-terms 0 ns)

pub page-short : (T M L : ℕ) (ns : List Node) → T ≤ 64 → M ≤ 16 → length ns ≤ 128 → length (page T M L ns) ≤ 200000000
unfolding page
page-short T M L ns t m few =
    let b = length ns + cond (ltb L T) (looping ns) 0 in
    let i : b ≤ 256 = omega (arith, if-le (ltb L T) (looping ns), looping_le ns) in
    let a : M * T ≤ 16 * 64 = mul-le-mul {n₂ = 16} {m₂ = 64} m t in
    let v : b * T ≤ 256 * 64 = mul-le-mul {n₂ = 256} {m₂ = 64} i t in
    let k : length ns * T ≤ 128 * 64 = mul-le-mul {n₂ = 128} {m₂ = 64} few t in
    let r : (T + 8) * (length ns * T) ≤ 72 * 8192 = mul-le-mul {n₂ = 72} {m₂ = 8192} (omega arith) (omega arith) in
    let c : (3 * T + 22) * (length ns * T) ≤ 214 * 8192 = mul-le-mul {n₂ = 214} {m₂ = 8192} (omega arith) (omega arith) in
    let rs = rows_of T M L ns in
    let n = rows-count T M L ns in
    omega (arith, n, rows-terms T M L ns, page_of-length (M * T) (variable_count T M L ns) rs (omega arith) (omega arith) (rows_recordable T M L t ns))
