-- The rows of a window on an MPS page: one for each slot of it, and the last row; in ROWS and in RHS.
use Rattle.std.specs.Prelude.{◌≡◌, Bool, ℕ, zero, suc, ◌+◌, ◌-◌, ◌≤◌, ℤ, pos, neg_ℤ, nat_abs, length}
use Rattle.std.proofs.Math.Path.{refl, ap}
use Rattle.std.proofs.Common.{sym, ap₂, ◌∙◌, arith}
use Rattle.std.proofs.Math.Bool.{true, false}
use mathlib.Core.List.{List, [], ◌∷◌, ◌++◌, map, append-nil}
use Rattle.std.proofs.lemmas.List.{length-map}
use Rattle.lists.specs.Flat.{flat, flat-zero, flat-more, flat-first, flat-same}
use Rattle.lists.specs.Tabulate.{tabulate, length-tabulate, map-tabulate}
use Rattle.rules.specs.Rule.{Window}
use Rattle.rules.specs.Rule.Window.{within, throughout}
use Rattle.rules.specs.Rows.{Row, plus, minus, ge}
use Rattle.mps.specs.Words.{G, RHS}
use Rattle.mps.specs.Page.{row_name, type_line, row_line, right_line, number_line, number_unless_zero, each_row}
use Rattle.window.specs.Slots.{window_by}
use Rattle.row.specs.Kinds.{over_rows}
use Rattle.mps_row.specs.Laws.{each_append}
use Rattle.mps_row.specs.Coefficients.{some-line}

abbrev pub pair_row : Window → (P v : ℕ) → Row
pair_row within P v = ge (plus P ∷ minus v ∷ []) (pos 0)
pair_row throughout P v = ge (plus v ∷ minus P ∷ []) (pos 0)

abbrev pub long_row : Window → (P : ℕ) → List ℕ → Row
long_row within P vs = ge (map plus vs ++ (minus P ∷ [])) (pos 0)
long_row throughout P vs = ge (plus P ∷ map minus vs) (neg_ℤ (pos (length vs - 1)))

over-rows : (w : Window) (P : ℕ) (vs : List ℕ) → over_rows w P vs ≡ map (pair_row w P) vs ++ (long_row w P vs ∷ [])
over-rows within P vs = refl
over-rows throughout P vs = refl

module _ (line : ℕ → Row → List ℕ) (i : ℕ) (w : Window) (P : ℕ) (vs : List ℕ) where
  -- the lines of the pairs, and the last row's
  pub over-text : each_row line i (over_rows w P vs) ≡ each_row line i (map (pair_row w P) vs) ++ line (i + length vs) (long_row w P vs)
  unfolding each_row
  over-text =
      ap (each_row line i) (over-rows w P vs) ∙ each_append line i (map (pair_row w P) vs) (long_row w P vs ∷ [])
      ∙ ap (λ (l : List ℕ). each_row line i (map (pair_row w P) vs) ++ l)
      (append-nil _ ∙ ap (λ (k : ℕ). line (i + k) (long_row w P vs)) (length-map vs (pair_row w P)))

pub each-tabulate : (line : ℕ → Row → List ℕ) (f : ℕ → Row) (i k : ℕ) → each_row line i (tabulate k f) ≡ flat (λ j. line (i + j) (f j)) k
unfolding each_row
each-tabulate line f i zero = sym (flat-zero _)
each-tabulate line f i (suc k) =
    let e : i + 0 ≡ i = omega arith in
    ap₂ ◌++◌ (ap (λ (n : ℕ). line n (f 0)) (sym e))
    (each-tabulate line (λ j. f (suc j)) (i + 1) k
    ∙ flat-same (λ j. line (i + 1 + j) (f (suc j))) (λ j. line (i + suc j) (f (suc j))) k (λ j h. ap (λ (n : ℕ). line n (f (suc j))) (omega arith)))
    ∙ sym (flat-first (λ j. line (i + j) (f j)) k)

-- over the variables f 0 to f (k - 1)
module _ (line : ℕ → Row → List ℕ) (i : ℕ) (w : Window) (P k : ℕ) (f : ℕ → ℕ) where
  pub each-text : each_row line i (over_rows w P (tabulate k f)) ≡ flat (λ j. line (i + j) (pair_row w P (f j))) k ++ line (i + k) (long_row w P (tabulate k f))
  each-text =
      over-text line i w P (tabulate k f)
      ∙ ap₂ ◌++◌ (ap (each_row line i) (map-tabulate (pair_row w P) k f) ∙ each-tabulate line (λ j. pair_row w P (f j)) i k)
      (ap (λ (n : ℕ). line (i + n) (long_row w P (tabulate k f))) (length-tabulate k f))

-- ---- ROWS: they are all of type G

pair_type : (w : Window) (P v i : ℕ) → row_line i (pair_row w P v) ≡ type_line G (row_name i)
unfolding row_line
pair_type within P v i = refl
pair_type throughout P v i = refl

long_type : (w : Window) (P i : ℕ) (vs : List ℕ) → row_line i (long_row w P vs) ≡ type_line G (row_name i)
unfolding row_line
long_type within P i vs = refl
long_type throughout P i vs = refl

pub types_text : (i : ℕ) (w : Window) (P k : ℕ) (f : ℕ → ℕ) → flat (λ j. type_line G (row_name (i + j))) (k + 1) ≡ each_row row_line i (over_rows w P (tabulate k f))
types_text i w P k f =
    let g : ℕ → List ℕ = λ j. type_line G (row_name (i + j)) in
    flat-more g k
    ∙ ap₂ ◌++◌ (flat-same g (λ j. row_line (i + j) (pair_row w P (f j))) k (λ j h. sym (pair_type w P (f j) (i + j))))
    (sym (long_type w P (i + k) (tabulate k f)))
    ∙ sym (each-text row_line i w P k f)

-- ---- RHS: the last row's, if it is not 0

pair-right : (w : Window) (P v i : ℕ) → right_line i (pair_row w P v) ≡ []
unfolding number_unless_zero
pair-right within P v i = refl
pair-right throughout P v i = refl

flat-none : (f : ℕ → List ℕ) (k : ℕ) → ((j : ℕ) → f j ≡ []) → flat f k ≡ []
unfolding flat
flat-none f zero e = refl
flat-none f (suc k) e = ap₂ ◌++◌ (flat-none f k e) (e k)

abbrev pub last_right : Window → (k : ℕ) → ℤ
last_right within k = pos 0
last_right throughout k = neg_ℤ (pos (k - 1))

long-right : (w : Window) (P i k : ℕ) (f : ℕ → ℕ) → right_line i (long_row w P (tabulate k f)) ≡ number_unless_zero RHS i (last_right w k)
long-right within P i k f = refl
long-right throughout P i k f = ap (λ (n : ℕ). number_unless_zero RHS i (neg_ℤ (pos (n - 1)))) (length-tabulate k f)

pub rights-text : (i : ℕ) (w : Window) (P k : ℕ) (f : ℕ → ℕ) → number_unless_zero RHS (i + k) (last_right w k) ≡ each_row right_line i (over_rows w P (tabulate k f))
rights-text i w P k f =
    ap₂ ◌++◌ (sym (flat-none (λ j. right_line (i + j) (pair_row w P (f j))) k (λ j. pair-right w P (f j) (i + j)))) (sym (long-right w P (i + k) k f))
    ∙ sym (each-text right_line i w P k f)

-- by the window and how many slots it has
module _ (i k : ℕ) where
  pub no_right : (w : Bool) → w ≡ true → [] ≡ number_unless_zero RHS i (last_right (window_by w) k)
  unfolding number_unless_zero
  no_right w e = rw e refl

  pub right-one : (w : Bool) → k ≡ 1 → [] ≡ number_unless_zero RHS i (last_right (window_by w) k)
  unfolding number_unless_zero
  right-one true e = refl
  right-one false e = rw e refl

  pub right-more : (w : Bool) → w ≡ false → 2 ≤ k → number_line RHS (row_name i) (neg_ℤ (pos (k - 1))) ≡ number_unless_zero RHS i (last_right (window_by w) k)
  right-more w e h = rw e (some-line RHS i (neg_ℤ (pos (k - 1))) (λ z. absurd (nonzero (k - 1) (omega arith) z)))
    where
      nonzero : (n : ℕ) → 1 ≤ n → nat_abs (neg_ℤ (pos n)) ≡ 0 → ⊥
      nonzero zero l z = omega arith
      nonzero (suc n) l z = omega arith
