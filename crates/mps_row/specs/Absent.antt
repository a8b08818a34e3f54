-- A variable's lines in rows: none where it is in none of them, and it stands in rows exactly where it has lines.
use Rattle.std.specs.Prelude.{◌≡◌, refl, Bool, cond, not, ◌||◌, List, [], ◌∷◌, ◌++◌, ℕ, zero, suc, ◌+◌, ◌<◌, ltb, ℤ, pos, negsuc, ◌+ℤ◌, length}
use Rattle.std.proofs.Common.{sym, ap, ap₂, ◌∙◌, arith, ne_eqb, lt-ltb, length-append}
use Rattle.lists.specs.Every.{Every}
use Rattle.rules.specs.Rows.{Term, Row}
use Rattle.mps.specs.Merged.{coefficient, is_zero, stands}
use Rattle.mps.specs.Page.{row_name, number_line, number_unless_zero, variable_name, entry_line, each_row}

-- ---- rows without the variable

abbrev pub Lacks : (v : ℕ) → Row → Type 0
Lacks v r = Every (λ (t : Term). t.variable ≡ v → ⊥) r.terms

pub coefficient-none : (v : ℕ) (ts : List Term) → Every (λ (t : Term). t.variable ≡ v → ⊥) ts → coefficient v ts ≡ pos 0
unfolding coefficient
coefficient-none v [] h = refl
coefficient-none v (t ∷ ts) h =
    ap₂ ◌+ℤ◌ (ap (λ (b : Bool). cond b t.coefficient (pos 0)) (ne_eqb t.variable v h.0)) (coefficient-none v ts h.1)

pub absent : (v i : ℕ) (rs : List Row) → Every (Lacks v) rs → each_row (entry_line v) i rs ≡ []
unfolding each_row number_unless_zero
absent v i [] h = refl
absent v i (r ∷ rs) h = ap₂ ◌++◌ (ap (number_unless_zero (variable_name v) i) (coefficient-none v r.terms h.0)) (absent v (i + 1) rs h.1)

-- ---- a line is never empty

line-some : (name row : List ℕ) (c : ℤ) → 0 < length (number_line name row c)
unfolding number_line
line-some name row c = simp length-append (omega arith)

number-some : (name : List ℕ) (i : ℕ) (c : ℤ) → not (is_zero c) ≡ ltb 0 (length (number_unless_zero name i c))
unfolding number_unless_zero
number-some name i (pos zero) = refl
number-some name i (pos (suc n)) = sym (lt-ltb 0 _ (line-some name (row_name i) (pos (suc n))))
number-some name i (negsuc n) = sym (lt-ltb 0 _ (line-some name (row_name i) (negsuc n)))

some-append : (a b : List ℕ) → (ltb 0 (length a) || ltb 0 (length b)) ≡ ltb 0 (length (a ++ b))
some-append [] b = refl
some-append (c ∷ a) b =
    ap (λ (t : Bool). t || ltb 0 (length b)) (lt-ltb 0 (suc (length a)) (omega arith)) ∙ sym (lt-ltb 0 (suc (length (a ++ b))) (omega arith))

pub lines-empty : (v i : ℕ) (rs : List Row) → stands v rs ≡ ltb 0 (length (each_row (entry_line v) i rs))
unfolding stands each_row
lines-empty v i [] = refl
lines-empty v i (r ∷ rs) =
    ap₂ ◌||◌ (number-some (variable_name v) i (coefficient v r.terms)) (lines-empty v (i + 1) rs)
    ∙ some-append (entry_line v i r) (each_row (entry_line v) (i + 1) rs)
