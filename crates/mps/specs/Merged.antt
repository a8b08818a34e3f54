-- "Equal variables in one row are added together and a zero coefficient is dropped."
use Rattle.std.specs.Prelude.{Bool, true, false, cond, ◌||◌, not, List, [], ◌∷◌, ℕ, zero, suc, eqb, ℤ, pos, negsuc, ◌+ℤ◌}
use Rattle.lists.specs.Flat.{flat}
use Rattle.rules.specs.Rows.{Term, Row}

-- the coefficients of a variable in a row, added together
unfoldable pub coefficient : ℕ → List Term → ℤ
coefficient v [] = pos 0
coefficient v (t ∷ ts) = cond (eqb t.variable v) t.coefficient (pos 0) +ℤ coefficient v ts

abbrev pub is_zero : ℤ → Bool
is_zero (pos zero) = true
is_zero (pos (suc n)) = false
is_zero (negsuc n) = false

-- the term of a variable with a coefficient; none where that is 0
abbrev pub term_of : ℕ → ℤ → List Term
term_of v c = cond (is_zero c) [] (record { coefficient = c; variable = v } ∷ [])

-- a row of a table of n variables, after that adding and dropping: its terms go by variable
unfoldable pub merged : (n : ℕ) → Row → Row
merged n r = record { relation = r.relation; terms = flat (λ v. term_of v (coefficient v r.terms)) n; right = r.right }

-- whether a variable is in some row after that adding and dropping
unfoldable pub stands : ℕ → List Row → Bool
stands v [] = false
stands v (r ∷ rs) = not (is_zero (coefficient v r.terms)) || stands v rs
