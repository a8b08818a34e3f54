-- Row sums of request N3, worked by hand, as one list with one theorem.
use Rattle.std.specs.Prelude.{◌≡◌, refl, List, [], ◌∷◌, ℤ, pos, negsuc}
use Rattle.lists.specs.Every.{Every}
use Rattle.rules.specs.Rows.{Term, plus, minus}
use Rattle.rules.specs.RowSum.{RowSum, row_sum}

pub record Line : Type 0 where
  pub terms : List Term
  pub gives : RowSum

abbrev pub line : List Term → (positive whole : ℤ) → Line
line ts p w = record { terms = ts; gives = record { positive = p; whole = w } }

-- the figures of variables 0 to 3: 5, −7, and the ends of their type
abbrev pub figures : List ℤ
figures = pos 5 ∷ negsuc 6 ∷ pos 2147483647 ∷ negsuc 2147483647 ∷ []

abbrev pub Shown : Line → Type 0
Shown l = row_sum figures l.terms ≡ l.gives

abbrev pub lines : List Line
lines =
    -- the plus terms stand first, last, and on both sides of the other
    line (plus 0 ∷ plus 2 ∷ minus 1 ∷ []) (pos 2147483652) (pos 2147483659) ∷
    line (minus 1 ∷ plus 0 ∷ plus 2 ∷ []) (pos 2147483652) (pos 2147483659) ∷
    line (plus 0 ∷ minus 1 ∷ plus 2 ∷ []) (pos 2147483652) (pos 2147483659) ∷
    -- the coefficient counts, whatever the figure: a plus term of −7, and a minus term of −7
    line (minus 0 ∷ plus 1 ∷ []) (negsuc 6) (negsuc 11) ∷
    line (minus 1 ∷ []) (pos 0) (pos 7) ∷
    -- a variable that stands in both kinds of terms, and no term
    line (minus 2 ∷ plus 2 ∷ []) (pos 2147483647) (pos 0) ∷
    line [] (pos 0) (pos 0) ∷
    -- the ends of a figure's type
    line (plus 3 ∷ plus 3 ∷ minus 2 ∷ []) (negsuc 4294967295) (negsuc 6442450942) ∷
    line (minus 3 ∷ plus 2 ∷ minus 3 ∷ []) (pos 2147483647) (pos 6442450943) ∷ []

pub lines-shown : Every Shown lines
lines-shown = (refl, (refl, (refl, (refl, (refl, (refl, (refl, (refl, (refl, tt)))))))))
