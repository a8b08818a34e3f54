-- The rows, costs and bounds gathered from what the lines say are those of the table, added together and with zeros dropped.
use Rattle.std.specs.Prelude.{◌≡◌, Bool, true, false, cond, not, ◌||◌, ℕ, zero, suc, ◌+◌, ◌≤◌, ℤ, pos, negsuc}
use Rattle.std.proofs.Math.Path.{refl, sym, ap, ap₂}
use Rattle.std.proofs.Common.{◌∙◌, true≢false, eq-eqb, ne_eqb}
use Rattle.std.proofs.Math.Option.{some}
use mathlib.Core.List.{List, [], ◌∷◌, ◌++◌, append_assoc, append-nil, flat_map}
use native.Mathlib.Omega.{arith}
use Rattle.std.proofs.Math.ListN.{length, length-append}
use Rattle.lists.specs.Flat.{flat, flat-same, flat_map_append, flat_map_flat}
use Rattle.rules.specs.Rows.{Relation, Row}
use Rattle.mps.specs.Merged.{coefficient, is_zero, term_of, merged, stands}
use Rattle.mps.specs.Parsing.{ModelRow, each, term_in, cost_in, right_in, right_of, declared, free_declared, is_one, type_in, free_in, model_row}
use Rattle.mps.specs.Parsing.RowFact.{free, typed}
use Rattle.mps.specs.Parsing.ColumnFact.{entry, cost}
use Rattle.mps.specs.Parsing.RightFact.{right}
use Rattle.mps.specs.Parsing.ModelRow.{numbered}
use Rattle.mps.specs.Says.{merged_rows, cost_of}
use Rattle.mps.specs.Page.{each_row}
use Rattle.mps.specs.Facts.{row_facts, entry_facts, column_facts, right_facts}

-- ---- gathering from parts

module _ {A B : Type 0} (f : A → List B) where
  flat_map_each : (g : ℕ → Row → List A) (i : ℕ) (rs : List Row) → flat_map f (each_row g i rs) ≡ each_row (λ j r. flat_map f (g j r)) i rs
  unfolding flat_map each_row
  flat_map_each g i [] = refl
  flat_map_each g i (r ∷ rs) =
      flat_map_append f (g i r) (each_row g (i + 1) rs) ∙ ap (λ (l : List B). flat_map f (g i r) ++ l) (flat_map_each g (i + 1) rs)

-- ---- one row of all

module _ {A : Type 0} (f : ℕ → Row → List A) where
  each_none : (i : ℕ) (rs : List Row) → ((j : ℕ) (r : Row) → i ≤ j → f j r ≡ []) → each_row f i rs ≡ []
  unfolding each_row
  each_none i [] h = refl
  each_none i (r ∷ rs) h = ap₂ ◌++◌ (h i r (omega arith)) (each_none (i + 1) rs (λ j q l. h j q (omega arith)))

  -- only row k, which follows those of `done`, has something
  each-one : (k i : ℕ) (done : List Row) (r : Row) (rest : List Row) → i + length done ≡ k →
      ((j : ℕ) (q : Row) → (j ≡ k → ⊥) → f j q ≡ []) → each_row f i (done ++ (r ∷ rest)) ≡ f k r
  unfolding each_row
  each-one k i [] r rest e h =
      let e' : i ≡ k = omega arith in
      ap (λ (l : List A). f i r ++ l) (each_none (i + 1) rest (λ j q l. h j q (λ d. omega arith))) ∙ append-nil (f i r) ∙ ap (λ (j : ℕ). f j r) e'
  each-one k i (q ∷ done) r rest e h =
      let n : f i q ≡ [] = h i q (λ d. omega arith) in
      ap₂ ◌++◌ n (each-one k (i + 1) done r rest (omega arith) h)

-- ---- the terms of a row

-- a variable in no row has no entries
unless-stands : (dropped rest : Bool) → (not dropped || rest) ≡ false → (dropped ≡ true) × (rest ≡ false)
unless-stands true rest e = (refl, e)
unless-stands false rest e = absurd (true≢false e)

no_entries : (v i : ℕ) (rs : List Row) → stands v rs ≡ false → each_row (entry_facts v) i rs ≡ []
unfolding stands each_row
no_entries v i [] e = refl
no_entries v i (r ∷ rs) e =
    let h = unless-stands (is_zero (coefficient v r.terms)) (stands v rs) e in
    rw h.0 (no_entries v (i + 1) rs h.1)

-- an entry counts for its own row only
own_row : (dropped : Bool) (k v : ℕ) (c : ℤ) →
    flat_map (term_in k) (cond dropped [] (entry v k c ∷ [])) ≡ cond dropped [] (record { coefficient = c; variable = v } ∷ [])
unfolding flat_map
own_row true k v c = refl
own_row false k v c = rw (eq-eqb k k refl) refl

other_row : (dropped : Bool) (k j v : ℕ) (c : ℤ) → (j ≡ k → ⊥) → flat_map (term_in k) (cond dropped [] (entry v j c ∷ [])) ≡ []
unfolding flat_map
other_row true k j v c h = refl
other_row false k j v c h = rw (ne_eqb j k h) refl

column_entries : (k v : ℕ) (all : List Row) → flat_map (term_in k) (column_facts all v) ≡ flat_map (term_in k) (each_row (entry_facts v) 0 all)
unfolding flat_map
column_entries k v all = go (stands v all) refl
  where
    go : (b : Bool) → stands v all ≡ b →
        flat_map (term_in k) (cond b (each_row (entry_facts v) 0 all) (cost v (pos 0) ∷ [])) ≡ flat_map (term_in k) (each_row (entry_facts v) 0 all)
    go true e = refl
    go false e = rw (no_entries v 0 all e) refl

-- and so does a right side; 0 is what counts where none is listed
own-right : (k : ℕ) (c : ℤ) → right_of (flat_map (right_in k) (cond (is_zero c) [] (right k c ∷ []))) ≡ some c
unfolding flat_map
own-right k (pos zero) = refl
own-right k (pos (suc n)) = rw (eq-eqb k k refl) refl
own-right k (negsuc n) = rw (eq-eqb k k refl) refl

other-right : (dropped : Bool) (k j : ℕ) (c : ℤ) → (j ≡ k → ⊥) → flat_map (right_in k) (cond dropped [] (right j c ∷ [])) ≡ []
unfolding flat_map
other-right true k j c h = refl
other-right false k j c h = rw (ne_eqb j k h) refl

-- a line of ROWS declares its own row only
own_type : (k : ℕ) (o : Relation) → flat_map (type_in k) (typed k o ∷ []) ≡ o ∷ []
unfolding flat_map
own_type k o = rw (eq-eqb k k refl) refl

other_type : (k j : ℕ) (o : Relation) → (j ≡ k → ⊥) → flat_map (type_in k) (typed j o ∷ []) ≡ []
unfolding flat_map
other_type k j o h = rw (ne_eqb j k h) refl

module _ (all done : List Row) (r : Row) (rest : List Row) (e : all ≡ done ++ (r ∷ rest)) where
  column-terms : (v : ℕ) → flat_map (term_in (length done)) (column_facts all v) ≡ term_of v (coefficient v r.terms)
  column-terms v =
      let k = length done in
      column_entries k v all ∙ flat_map_each (term_in k) (entry_facts v) 0 all ∙
      ap (each_row (λ j q. flat_map (term_in k) (entry_facts v j q)) 0) e ∙
      each-one (λ j q. flat_map (term_in k) (entry_facts v j q)) k 0 done r rest (omega arith)
      (λ j q d. other_row (is_zero (coefficient v q.terms)) k j v (coefficient v q.terms) d) ∙
      own_row (is_zero (coefficient v r.terms)) k v (coefficient v r.terms)

  row-terms : (n : ℕ) → flat_map (term_in (length done)) (flat (column_facts all) n) ≡ flat (λ v. term_of v (coefficient v r.terms)) n
  row-terms n =
      flat_map_flat (term_in (length done)) (column_facts all) n ∙
      flat-same (λ v. flat_map (term_in (length done)) (column_facts all v)) (λ v. term_of v (coefficient v r.terms)) n (λ v h. column-terms v)

  -- ---- its right side

  row-right : right_of (flat_map (right_in (length done)) (each_row right_facts 0 all)) ≡ some r.right
  row-right =
      let k = length done in
      ap right_of
      (flat_map_each (right_in k) right_facts 0 all ∙ ap (each_row (λ j q. flat_map (right_in k) (right_facts j q)) 0) e ∙
      each-one (λ j q. flat_map (right_in k) (right_facts j q)) k 0 done r rest (omega arith) (λ j q d. other-right (is_zero q.right) k j q.right d)) ∙
      own-right k r.right

  -- ---- its line in ROWS

  row_type : flat_map (type_in (length done)) (free ∷ each_row row_facts 0 all) ≡ r.relation ∷ []
  unfolding flat_map
  row_type =
      let k = length done in
      flat_map_each (type_in k) row_facts 0 all ∙ ap (each_row (λ j q. flat_map (type_in k) (row_facts j q)) 0) e ∙
      each-one (λ j q. flat_map (type_in k) (row_facts j q)) k 0 done r rest (omega arith) (λ j q d. other_type k j q.relation d) ∙
      own_type k r.relation

  pub row-declared : declared (free ∷ each_row row_facts 0 all) (length done) ≡ true
  row-declared = ap is_one row_type

  row-parsed : (n : ℕ) →
      model_row (free ∷ each_row row_facts 0 all) (flat (column_facts all) n) (each_row right_facts 0 all) (typed (length done) r.relation) ≡
      some (numbered (length done) (merged n r))
  unfolding merged
  row-parsed n = rw (row-declared, row-right, row-terms n) refl

-- ---- all rows

pub free-declared : (i : ℕ) (rs : List Row) → free_declared (free ∷ each_row row_facts i rs) ≡ true
unfolding flat_map
free-declared i rs =
    let others : flat_map free_in (each_row row_facts i rs) ≡ [] =
    flat_map_each free_in row_facts i rs ∙ each_none (λ j q. flat_map free_in (row_facts j q)) i rs (λ j q h. refl) in
    rw others refl

module _ (n : ℕ) (all : List Row) where
  rows-after : (done rest : List Row) → all ≡ done ++ rest →
      each (model_row (free ∷ each_row row_facts 0 all) (flat (column_facts all) n) (each_row right_facts 0 all)) (each_row row_facts (length done) rest) ≡
      some (merged_rows n (length done) rest)
  unfolding each each_row
  rows-after done [] e = refl
  rows-after done (r ∷ rest) e =
      let others = rw length-append at (rows-after (done ++ (r ∷ [])) rest (e ∙ sym (append_assoc done (r ∷ []) rest))) in
      rw (row-parsed all done r rest e n, others) refl

  pub rows-parsed :
      each (model_row (free ∷ each_row row_facts 0 all) (flat (column_facts all) n) (each_row right_facts 0 all)) (free ∷ each_row row_facts 0 all) ≡
      some (ModelRow.free ∷ merged_rows n 0 all)
  unfolding each
  rows-parsed = rw (free-declared 0 all, rows-after [] all refl) refl

-- ---- costs and bounds

entry_free : (dropped : Bool) (v i : ℕ) (c : ℤ) → flat_map cost_in (cond dropped [] (entry v i c ∷ [])) ≡ []
unfolding flat_map
entry_free true v i c = refl
entry_free false v i c = refl

entries_free : (v i : ℕ) (rs : List Row) → flat_map cost_in (each_row (entry_facts v) i rs) ≡ []
entries_free v i rs =
    flat_map_each cost_in (entry_facts v) i rs ∙
    each_none (λ j q. flat_map cost_in (entry_facts v j q)) i rs
    (λ j q h. entry_free (is_zero (coefficient v q.terms)) v j (coefficient v q.terms))

cost-by : (b : Bool) (v : ℕ) (rs : List Row) →
    flat_map cost_in (cond b (each_row (entry_facts v) 0 rs) (cost v (pos 0) ∷ [])) ≡ cond b [] (record { coefficient = pos 0; variable = v } ∷ [])
unfolding flat_map
cost-by true v rs = entries_free v 0 rs
cost-by false v rs = refl

pub costs_gathered : (n : ℕ) (rs : List Row) → flat_map cost_in (flat (column_facts rs) n) ≡ flat (cost_of rs) n
costs_gathered n rs =
    flat_map_flat cost_in (column_facts rs) n ∙
    flat-same (λ v. flat_map cost_in (column_facts rs v)) (cost_of rs) n (λ v h. cost-by (stands v rs) v rs)
