-- A window's rows at a slot, and the terms of the last one, slot by slot of the window.
use Rattle.std.specs.Prelude.{◌≡◌, ℕ, ◌+◌, ◌-◌, ◌<◌, ℤ, pos, negsuc, neg_ℤ, ◌+ℤ◌, length, refl}
use Rattle.std.proofs.Math.Path.{sym, ap}
use Rattle.std.proofs.Common.{ap₂, ◌∙◌, length-append}
use mathlib.Core.List.{List, [], ◌∷◌, ◌++◌, map}
use Rattle.std.proofs.lemmas.List.{length-map}
use Rattle.lists.specs.Flat.{flat, flat-zero, flat-more, flat-same, flat_singles}
use Rattle.lists.specs.Tabulate.{map-tabulate, tabulate-append}
use Rattle.rules.specs.Rule.{Window}
use Rattle.rules.specs.Rule.Window.{within, throughout}
use Rattle.rules.specs.Rows.{Term, Row, plus, minus, ge, value_at, sum_of}
use Rattle.rules.specs.Judge.{shortfall}
use Rattle.judge_sums.specs.Laws.{short_of}
use Rattle.row.specs.Kinds.{over_rows}
use Rattle.judge_sums.specs.declared.WindowKind.{WindowKind}
use Rattle.judge_sums.specs.declared.WindowKind.TheVariants.{Within, Throughout}
use Rattle.judge_sums.specs.Sums.{pair_of}
use Rattle.judge_sums.specs.Windows.{last_terms, sum-append, sum-plus}
use Rattle.window.specs.declared.Looks.{Looks}
use Rattle.window.specs.Slots.{variable_at, variables}
use Rattle.window.proofs.Slots.{length-variables}

-- P is the node's variable, and p its part's at the first slot of all; at the i-th slot of the window
abbrev pub above_row : (P : ℕ) → Looks → (p i : ℕ) → Row
above_row P w p i = ge (plus P ∷ minus (variable_at w p i) ∷ []) (pos 0)

abbrev pub below_row : (P : ℕ) → Looks → (p i : ℕ) → Row
below_row P w p i = ge (plus (variable_at w p i) ∷ minus P ∷ []) (pos 0)

-- ---- by kind

abbrev pub window_of : WindowKind → Window
window_of Within = within
window_of Throughout = throughout

-- the row at a slot of the window, and its sum, where x is the node's figure and y the part's
abbrev pub slot_row : WindowKind → (P : ℕ) → Looks → (p i : ℕ) → Row
slot_row Within = above_row
slot_row Throughout = below_row

abbrev pub slot_sum : WindowKind → (x y : ℤ) → ℤ
slot_sum Within x y = pair_of (pos 1) x (negsuc 0) y
slot_sum Throughout x y = pair_of (pos 1) y (negsuc 0) x

-- the last row, and its right side
abbrev pub last_right : WindowKind → (k : ℕ) → ℤ
last_right Within k = pos 0
last_right Throughout k = neg_ℤ (pos (k - 1))

abbrev pub last_row : WindowKind → (P : ℕ) → List ℕ → Row
last_row kind P vs = ge (last_terms kind vs P) (last_right kind (length vs))

-- what it falls short by
abbrev pub LastShort : WindowKind → (sum x : ℤ) → (k : ℕ) → (d : ℤ) → Type 0
LastShort kind sum x k d =
    (xs : List ℤ) (vs : List ℕ) (P : ℕ) → sum ≡ sum_of xs (map plus vs) → x ≡ value_at xs P → length vs ≡ k → d ≡ shortfall xs (last_row kind P vs)

-- ---- slot by slot

-- the sum of the figures of k variables, the i-th of which is `at i`
abbrev plus_at : (at : ℕ → ℕ) → (i : ℕ) → List Term
plus_at at i = plus (at i) ∷ []

unfoldable pub sum_to : List ℤ → (at : ℕ → ℕ) → (k : ℕ) → ℤ
sum_to xs at k = sum_of xs (flat (plus_at at) k)

module _ (P : ℕ) (w : Looks) (p : ℕ) where
  pub above_rows : flat (λ i. above_row P w p i ∷ []) w.count ≡ map (λ v. ge (plus P ∷ minus v ∷ []) (pos 0)) (variables w p)
  unfolding variables
  above_rows = flat_singles (above_row P w p) w.count ∙ sym (map-tabulate (λ v. ge (plus P ∷ minus v ∷ []) (pos 0)) w.count (variable_at w p))

  pub below_rows : flat (λ i. below_row P w p i ∷ []) w.count ≡ map (λ v. ge (plus v ∷ minus P ∷ []) (pos 0)) (variables w p)
  unfolding variables
  below_rows = flat_singles (below_row P w p) w.count ∙ sym (map-tabulate (λ v. ge (plus v ∷ minus P ∷ []) (pos 0)) w.count (variable_at w p))

-- all of them, and the last one
pub window-parts : (kind : WindowKind) (P : ℕ) (w : Looks) (p : ℕ) →
    flat (λ i. slot_row kind P w p i ∷ []) w.count ++ (last_row kind P (variables w p) ∷ []) ≡ over_rows (window_of kind) P (variables w p)
window-parts Within P w p = ap (λ (l : List Row). l ++ (last_row Within P (variables w p) ∷ [])) (above_rows P w p)
window-parts Throughout P w p = ap (λ (l : List Row). l ++ (last_row Throughout P (variables w p) ∷ [])) (below_rows P w p)

pub slot_short-is : (xs : List ℤ) (kind : WindowKind) (P : ℕ) (w : Looks) (p i : ℕ) {x y : ℤ} → x ≡ value_at xs P → y ≡ value_at xs (variable_at w p i) →
    short_of (pos 0) (slot_sum kind x y) ≡ shortfall xs (slot_row kind P w p i)
slot_short-is xs Within P w p i e f = rw (e, f) refl
slot_short-is xs Throughout P w p i e f = rw (e, f) refl

pub window-count : (o : Window) (P : ℕ) (w : Looks) (p : ℕ) → length (over_rows o P (variables w p)) ≡ w.count + 1
window-count within P w p =
    length-append (map (λ v. ge (plus P ∷ minus v ∷ []) (pos 0)) (variables w p)) (ge (map plus (variables w p) ++ (minus P ∷ [])) (pos 0) ∷ [])
    ∙ ap (λ (n : ℕ). n + 1) (length-map (variables w p) (λ (v : ℕ). ge (plus P ∷ minus v ∷ []) (pos 0)) ∙ length-variables w p)
window-count throughout P w p =
    length-append (map (λ v. ge (plus v ∷ minus P ∷ []) (pos 0)) (variables w p))
    (ge (plus P ∷ map minus (variables w p)) (neg_ℤ (pos (length (variables w p) - 1))) ∷ [])
    ∙ ap (λ (n : ℕ). n + 1) (length-map (variables w p) (λ (v : ℕ). ge (plus v ∷ minus P ∷ []) (pos 0)) ∙ length-variables w p)

module _ (xs : List ℤ) where
  pub sum-none : (at : ℕ → ℕ) → sum_to xs at 0 ≡ pos 0
  unfolding sum_to
  sum-none at = ap (sum_of xs) (flat-zero (plus_at at))

  pub sum_more : (at : ℕ → ℕ) (k : ℕ) {s y : ℤ} → s ≡ sum_to xs at k → y ≡ value_at xs (at k) → s +ℤ y ≡ sum_to xs at (k + 1)
  unfolding sum_to
  sum_more at k e f =
      sym (ap (sum_of xs) (flat-more (plus_at at) k) ∙ sum-append xs (flat (plus_at at) k) (plus_at at k)
      ∙ ap (λ (z : ℤ). sum_of xs (flat (plus_at at) k) +ℤ z) (sum-plus xs (at k)) ∙ rw (← e, ← f))

  pub sum_same : (f at : ℕ → ℕ) (k : ℕ) → ((i : ℕ) → i < k → f i ≡ at i) → sum_to xs f k ≡ sum_to xs at k
  unfolding sum_to
  sum_same f at k p = ap (sum_of xs) (flat-same (plus_at f) (plus_at at) k (λ i h. ap (λ (v : ℕ). plus v ∷ []) (p i h)))

  -- of the first j variables, and of the k after them
  pub sum-joined : (at : ℕ → ℕ) (j k : ℕ) → sum_to xs at j +ℤ sum_to xs (λ i. at (j + i)) k ≡ sum_to xs at (j + k)
  unfolding sum_to
  sum-joined at j k =
      sym (ap (sum_of xs) (flat_singles (λ i. plus (at i)) (j + k) ∙ tabulate-append j k (λ i. plus (at i))
      ∙ sym (ap₂ ◌++◌ (flat_singles (λ i. plus (at i)) j) (flat_singles (λ i. plus (at (j + i))) k)))
      ∙ sum-append xs (flat (plus_at at) j) (flat (plus_at (λ i. at (j + i))) k))

  -- of a window
  pub sum-all : (w : Looks) (p : ℕ) → sum_to xs (variable_at w p) w.count ≡ sum_of xs (map plus (variables w p))
  unfolding sum_to variables
  sum-all w p = ap (sum_of xs) (flat_singles (λ i. plus (variable_at w p i)) w.count ∙ sym (map-tabulate plus w.count (variable_at w p)))
