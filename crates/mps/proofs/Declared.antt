-- The lines of COLUMNS and RHS are for rows that ROWS declares.
use Rattle.std.specs.Prelude.{◌≡◌, Bool, cond, ◌&&◌, ℤ, pos, length}
use Rattle.std.proofs.Math.Path.{refl, sym}
use Rattle.std.proofs.Common.{◌∙◌, arith}
use Rattle.std.proofs.Math.Bool.{true, false}
use mathlib.Core.List.{List, [], ◌∷◌, ◌++◌, append_assoc}
use Prim.Native.Nat.{ℕ, zero, suc, ◌+◌, ◌<◌}
use Rattle.std.proofs.Math.ListN.{length-append}
use Rattle.lists.specs.Flat.{flat}
use Rattle.rules.specs.Rows.{Row}
use Rattle.mps.specs.Merged.{coefficient, is_zero, stands}
use Rattle.mps.specs.Page.{each_row}
use Rattle.mps.specs.Parsing.{RowFact, declared, entry_declared, right_declared, every}
use Rattle.mps.specs.Parsing.RowFact.{free}
use Rattle.mps.specs.Parsing.ColumnFact.{entry, cost}
use Rattle.mps.specs.Parsing.RightFact.{right}
use Rattle.mps.specs.Facts.{row_facts, entry_facts, column_facts, right_facts}
use Rattle.mps.proofs.Gathered.{row-declared, free-declared}

-- ---- a test of every element, by parts

module _ {A : Type 0} (test : A → Bool) where
  every_append : (a b : List A) → every test a ≡ true → every test b ≡ true → every test (a ++ b) ≡ true
  unfolding every
  every_append [] b p q = q
  every_append (x ∷ a) b p q = go (test x) p (λ h. every_append a b h q)
    where
      go : (t : Bool) → (t && every test a) ≡ true → (every test a ≡ true → every test (a ++ b) ≡ true) → (t && every test (a ++ b)) ≡ true
      go true p f = f p
      go false p f = p

  every-flat : (g : ℕ → List A) (n : ℕ) → ((i : ℕ) → i < n → every test (g i) ≡ true) → every test (flat g n) ≡ true
  unfolding every flat
  every-flat g zero h = refl
  every-flat g (suc n) h = every_append (flat g n) (g n) (every-flat g n (λ i l. h i (omega arith))) (h n (omega arith))

  -- what each row gives: row k is the one that follows k others
  module _ (g : ℕ → Row → List A) (all : List Row)
      (h : (done : List Row) (r : Row) (rest : List Row) → all ≡ done ++ (r ∷ rest) → every test (g (length done) r) ≡ true) where
    every-after : (done rest : List Row) → all ≡ done ++ rest → every test (each_row g (length done) rest) ≡ true
    unfolding every each_row
    every-after done [] e = refl
    every-after done (r ∷ rest) e =
        every_append (g (length done) r) (each_row g (length done + 1) rest) (h done r rest e)
        (rw length-append at (every-after (done ++ (r ∷ [])) rest (e ∙ sym (append_assoc done (r ∷ []) rest))))

    every-each : every test (each_row g 0 all) ≡ true
    every-each = every-after [] all refl

-- ---- the lines of a page

module _ (all : List Row) where
  abbrev lines : List RowFact
  lines = free ∷ each_row row_facts 0 all

  entry-declared : (dropped : Bool) (v i : ℕ) (c : ℤ) → declared lines i ≡ true → every (entry_declared lines) (cond dropped [] (entry v i c ∷ [])) ≡ true
  unfolding every
  entry-declared true v i c e = refl
  entry-declared false v i c e = rw e refl

  right-declared : (dropped : Bool) (i : ℕ) (c : ℤ) → declared lines i ≡ true → every (right_declared lines) (cond dropped [] (right i c ∷ [])) ≡ true
  unfolding every
  right-declared true i c e = refl
  right-declared false i c e = rw e refl

  column-declared : (v : ℕ) → every (entry_declared lines) (column_facts all v) ≡ true
  unfolding every
  column-declared v = go (stands v all)
    where
      go : (b : Bool) → every (entry_declared lines) (cond b (each_row (entry_facts v) 0 all) (cost v (pos 0) ∷ [])) ≡ true
      go true =
          every-each (entry_declared lines) (entry_facts v) all (λ done r rest e.
          let c = coefficient v r.terms in entry-declared (is_zero c) v (length done) c (row-declared all done r rest e))
      go false = rw (free-declared 0 all) refl

  pub columns_declared : (n : ℕ) → every (entry_declared lines) (flat (column_facts all) n) ≡ true
  columns_declared n = every-flat (entry_declared lines) (column_facts all) n (λ v h. column-declared v)

  pub rights-declared : every (right_declared lines) (each_row right_facts 0 all) ≡ true
  rights-declared =
      every-each (right_declared lines) right_facts all (λ done r rest e.
      right-declared (is_zero r.right) (length done) r.right (row-declared all done r rest e))
