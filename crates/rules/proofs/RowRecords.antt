-- Row records: their length, and that reading the records of a table's rows back gives the rows.
use Rattle.rules.specs.RowRecords.{Recordable, Small, row_length}
use Rattle.std.specs.Prelude.{◌≡◌, refl, Bool, true, false, cond, List, [], ◌∷◌, ◌++◌, map, ℕ, zero, suc, ◌+◌, ◌-◌, ◌*◌, ◌≤◌, ltb, length, ℤ, pos, negsuc, neg_ℤ}
use Rattle.std.proofs.Common.{ap, ap₂, ◌∙◌, arith, lt-ltb, le-ltb, length-append, drop_at}
use Rattle.std.proofs.lemmas.List.{length-map}
use Rattle.lists.specs.Every.{Every, every_append}
use Rattle.lists.specs.Passing.{passing-length}
use Rattle.rules.specs.Rule.{Unary, Binary, Window}
use Rattle.rules.specs.Rule.Unary.{not, eventually, always}
use Rattle.rules.specs.Rule.Binary.{and, or, implies, until}
use Rattle.rules.specs.Rule.Window.{within, throughout}
use Rattle.rules.specs.Table.{Node}
use Rattle.rules.specs.Table.Node.{atom, unary, binary, windowed}
use Rattle.rules.specs.Rows.{Relation, Term, Row, signed_byte, signed_in, relation_byte, relation_in, terms_bytes, terms_in, row_bytes, row_in, rows_bytes}
use Rattle.rules.specs.Rows.{rows_in, plus, minus, ge, in_window, window_slots, unary_rows, binary_rows, window_rows, unary_loops, binary_loops, slack, goes_on}
use Rattle.rules.specs.Rows.{rows_at, loop_rows_at, slots_rows, node_rows, nodes_rows, slack_rows, goal_row, rows_of}
use Rattle.rules.specs.Rows.Relation.{at_least, equal}

-- ---- a record

length-terms : (ts : List Term) → length (terms_bytes ts) ≡ 3 * length ts
length-terms [] = refl
length-terms (t ∷ ts) = omega (arith, length-terms ts)

pub length-row : (r : Row) → length (row_bytes r) ≡ row_length r
length-row r = omega (arith, length-terms r.terms)

signed_back : (z : ℤ) → Small z → signed_in (signed_byte z) ≡ z
signed_back (pos n) h = ap (λ (b : Bool). cond b (pos n) (negsuc (255 - n))) (lt-ltb n 128 h)
signed_back (negsuc n) h =
    ap (λ (b : Bool). cond b (pos (255 - n)) (negsuc (255 - (255 - n)))) (le-ltb (255 - n) 128 (omega arith)) ∙ ap negsuc (omega arith)

relation-back : (o : Relation) → relation_in (relation_byte o) ≡ o
relation-back at_least = refl
relation-back equal = refl

term_is : (c d : ℤ) (v w : ℕ) → c ≡ d → v ≡ w → ◌≡◌ {A = Term} (record { coefficient = c; variable = v }) (record { coefficient = d; variable = w })
term_is c d v w e f = ap₂ (λ (x : ℤ) (y : ℕ). let t : Term = record { coefficient = x; variable = y } in t) e f

terms-back : (ts : List Term) (rest : List ℕ) → Every (λ (t : Term). Small t.coefficient) ts → terms_in (length ts) (terms_bytes ts ++ rest) ≡ ts
terms-back [] rest h = refl
terms-back (t ∷ ts) rest h =
    ap₂ ◌∷◌ (term_is _ t.coefficient _ t.variable (signed_back t.coefficient h.0) (omega arith)) (terms-back ts rest h.1)

row_is : (r : Row) (o : Relation) (b : ℤ) (ts : List Term) → o ≡ r.relation → b ≡ r.right → ts ≡ r.terms →
    ◌≡◌ {A = Row} (record { relation = o; terms = ts; right = b }) r
row_is r o b ts e f g = λ i. record { relation = e i; terms = g i; right = f i }

-- a record, whatever follows it
pub row_back : (r : Row) (rest : List ℕ) → Recordable r → row_in (row_bytes r ++ rest) ≡ r
row_back r rest h =
    row_is r (relation_in (relation_byte r.relation)) (signed_in (signed_byte r.right)) (terms_in (length r.terms) (terms_bytes r.terms ++ rest))
    (relation-back r.relation) (signed_back r.right h.right-small) (terms-back r.terms rest h.small)

-- ---- records one after the other

pub rows_back : (rs : List Row) → Every Recordable rs → rows_in (length rs) (rows_bytes rs) ≡ rs
rows_back [] h = refl
rows_back (r ∷ rs) h =
    ap₂ ◌∷◌ (row_back r (rows_bytes rs) h.0)
    (ap (rows_in (length rs)) (drop_at (row_bytes r) (rows_bytes rs) (row_length r) (length-row r)) ∙ rows_back rs h.1)

-- ---- every row of a table has a record

unary_recordable : (u : Unary) (inner : Bool) (P p P' : ℕ) → Every Recordable (unary_rows u inner P p P')
unary_recordable not inner P p P' = omega arith
unary_recordable eventually true P p P' = omega arith
unary_recordable eventually false P p P' = omega arith
unary_recordable always true P p P' = omega arith
unary_recordable always false P p P' = omega arith

binary_recordable : (o : Binary) (inner : Bool) (P p q P' : ℕ) → Every Recordable (binary_rows o inner P p q P')
binary_recordable and inner P p q P' = omega arith
binary_recordable or inner P p q P' = omega arith
binary_recordable implies inner P p q P' = omega arith
binary_recordable until true P p q P' = omega arith
binary_recordable until false P p q P' = omega arith

-- a window of at most 64 slots
small-less : (k : ℕ) → k ≤ 64 → Small (neg_ℤ (pos (k - 1)))
small-less zero h = omega arith
small-less (suc zero) h = omega arith
small-less (suc (suc k)) h = let e : suc (suc k) - 1 ≡ suc k = omega arith in rw e (omega arith)

pluses-small : (p : ℕ → ℕ) (ss : List ℕ) (rest : List Term) → Every (λ (t : Term). Small t.coefficient) rest →
    Every (λ (t : Term). Small t.coefficient) (map (λ s. plus (p s)) ss ++ rest)
pluses-small p [] rest h = h
pluses-small p (s ∷ ss) rest h = (omega arith, pluses-small p ss rest h)

minuses-small : (p : ℕ → ℕ) (ss : List ℕ) → Every (λ (t : Term). Small t.coefficient) (map (λ s. minus (p s)) ss)
minuses-small p [] = tt
minuses-small p (s ∷ ss) = (omega arith, minuses-small p ss)

every-pair : (f : ℕ → Row) → ((s : ℕ) → Recordable (f s)) → (ss : List ℕ) → Every Recordable (map f ss)
every-pair f h [] = tt
every-pair f h (s ∷ ss) = (h s, every-pair f h ss)

window_recordable : (w : Window) (P : ℕ) (p : ℕ → ℕ) (ss : List ℕ) → length ss ≤ 64 → Every Recordable (window_rows w P p ss)
window_recordable within P p ss h =
    let pair : ℕ → Row = λ s. ge (plus P ∷ minus (p s) ∷ []) (pos 0) in
    let long : Row = ge (map (λ s. plus (p s)) ss ++ (minus P ∷ [])) (pos 0) in
    (every_append Recordable (map pair ss) (long ∷ [])).1 (
      every-pair pair (λ s. omega arith) ss,
      (
        record {
          few = omega (arith, length-append (map (λ (s : ℕ). plus (p s)) ss) (minus P ∷ []), length-map ss (λ (s : ℕ). plus (p s)));
          right-small = omega arith;
          small = pluses-small p ss (minus P ∷ []) (omega arith);
        },
        tt,
      ),
    )
window_recordable throughout P p ss h =
    let pair : ℕ → Row = λ s. ge (plus (p s) ∷ minus P ∷ []) (pos 0) in
    let long : Row = ge (plus P ∷ map (λ s. minus (p s)) ss) (neg_ℤ (pos (length ss - 1))) in
    (every_append Recordable (map pair ss) (long ∷ [])).1 (
      every-pair pair (λ s. omega arith) ss,
      (
        record {
          few = omega (arith, length-map ss (λ (s : ℕ). minus (p s)));
          right-small = small-less (length ss) h;
          small = (omega arith, minuses-small p ss);
        },
        tt,
      ),
    )

if-recordable : (b : Bool) (rs : List Row) → Every Recordable rs → Every Recordable (cond b rs [])
if-recordable true rs h = h
if-recordable false rs h = tt

slots_recordable : (f : ℕ → List Row) → ((t : ℕ) → Every Recordable (f t)) → (k t : ℕ) → Every Recordable (slots_rows f k t)
slots_recordable f h zero t = tt
slots_recordable f h (suc k) t = (every_append Recordable (f t) (slots_rows f k (t + 1))).1 (h t, slots_recordable f h k (t + 1))

module _ (T M L : ℕ) (T≤64 : T ≤ 64) (ns : List Node) where
  pub at_recordable : (n : ℕ) (nd : Node) (t : ℕ) → Every Recordable (rows_at T M L ns n nd t)
  at_recordable n (atom a) t = omega arith
  at_recordable n (unary u c) t = unary_recordable u (goes_on T L t) _ _ _
  at_recordable n (binary o l r) t = binary_recordable o (goes_on T L t) _ _ _ _
  at_recordable n (windowed w a b c) t =
      window_recordable w (slack T M n t) (slack T M c) (window_slots T L t a b) (omega (arith, passing-length (in_window T L t a b) T 1))

  pub loop-recordable : (n : ℕ) (nd : Node) (t : ℕ) → Every Recordable (loop_rows_at T M ns n nd t)
  loop-recordable n (atom a) t = tt
  loop-recordable n (unary u c) t = if-recordable (unary_loops u) _ (unary_recordable u (ltb t T) _ _ _)
  loop-recordable n (binary o l r) t = if-recordable (binary_loops o) _ (binary_recordable o (ltb t T) _ _ _ _)
  loop-recordable n (windowed w a b c) t = tt

  node_recordable : (n : ℕ) (nd : Node) → Every Recordable (node_rows T M L ns n nd)
  node_recordable n nd =
      (every_append Recordable (cond (ltb L T) (slots_rows (loop_rows_at T M ns n nd) T 1) []) (slots_rows (rows_at T M L ns n nd) T 1)).1 (
        if-recordable (ltb L T) _ (slots_recordable (loop_rows_at T M ns n nd) (loop-recordable n nd) T 1),
        slots_recordable (rows_at T M L ns n nd) (at_recordable n nd) T 1,
      )

  nodes_recordable : (n : ℕ) (l : List Node) → Every Recordable (nodes_rows T M L ns n l)
  nodes_recordable n [] = tt
  nodes_recordable n (nd ∷ l) =
      (every_append Recordable (node_rows T M L ns n nd) (nodes_rows T M L ns (n + 1) l)).1 (node_recordable n nd, nodes_recordable (n + 1) l)

  pub rows_recordable : Every Recordable (rows_of T M L ns)
  rows_recordable = (every_append Recordable (slack_rows T M L ns) (goal_row T M ns ∷ [])).1 (nodes_recordable 0 ns, omega arith)
