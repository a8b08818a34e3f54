-- The entries of a window's rows in a column: of the node's variable, in every row; of the part's at a slot of the window, in that slot's row
-- and in the last one; of other variables, none.
use Rattle.std.specs.Prelude.{◌≡◌, refl, Bool, true, false, cond, not, ℤ, pos, negsuc, ◌+ℤ◌, length}
use Rattle.std.proofs.Common.{sym, ◌∙◌, arith, ne_eqb, eq-eqb}
use Rattle.std.proofs.Math.Path.{ap, ap₂}
use mathlib.Core.List.{List, [], ◌∷◌, ◌++◌, map, append-nil}
use Prim.Native.Nat.{ℕ, zero, suc, ◌+◌, ◌-◌, ◌<◌}
use Rattle.std.proofs.Math.IntN.{+ℤ_idl}
use Rattle.std.proofs.lemmas.List.{length-map, map-append}
use Rattle.lists.specs.Every.{Every, every_append}
use Rattle.lists.specs.Flat.{flat, flat-same}
use Rattle.lists.specs.Tabulate.{tabulate, length-tabulate, tabulate-same}
use Rattle.rules.specs.Rule.{Window}
use Rattle.rules.specs.Rule.Window.{within, throughout}
use Rattle.rules.specs.Rows.{Term, Row, plus, minus}
use Rattle.mps.specs.Merged.{coefficient}
use Rattle.mps.specs.Page.{variable_name, number_unless_zero, entry_line, each_row}
use Rattle.row.specs.Kinds.{over_rows}
use Rattle.mps_line.specs.Units.{one, unit_line}
use Rattle.mps_row.specs.Laws.{each_append}
use Rattle.mps_row.specs.Absent.{Lacks, absent, coefficient-none}
use Rattle.window.specs.Slots.{window_by}
use Rattle.mps_window.specs.Over.{pair_row, long_row, over-text, each-text}

-- whether the node's variable has 1 in the rows of one slot each; it has the opposite in the last row, and the parts' have the opposite of it
abbrev pub ups : Window → Bool
ups within = true
ups throughout = false

abbrev pub downs : Window → Bool
downs within = false
downs throughout = true

coefficient-append : (v : ℕ) (a b : List Term) → Every (λ (t : Term). t.variable ≡ v → ⊥) a → coefficient v (a ++ b) ≡ coefficient v b
unfolding coefficient
coefficient-append v [] b h = refl
coefficient-append v (t ∷ a) b h =
    ap₂ ◌+ℤ◌ (ap (λ (x : Bool). cond x t.coefficient (pos 0)) (ne_eqb t.variable v h.0)) (coefficient-append v a b h.1) ∙ +ℤ_idl (coefficient v b)

-- variables other than v
abbrev pub Others : (v : ℕ) → List ℕ → Type 0
Others v vs = Every (λ (u : ℕ). u ≡ v → ⊥) vs

pluses-other : (v : ℕ) (vs : List ℕ) → Others v vs → Every (λ (t : Term). t.variable ≡ v → ⊥) (map plus vs)
pluses-other v [] h = tt
pluses-other v (u ∷ vs) h = (h.0, pluses-other v vs h.1)

minuses-other : (v : ℕ) (vs : List ℕ) → Others v vs → Every (λ (t : Term). t.variable ≡ v → ⊥) (map minus vs)
minuses-other v [] h = tt
minuses-other v (u ∷ vs) h = (h.0, minuses-other v vs h.1)

-- a term of v before terms of others
first-term : (v : ℕ) (c : ℤ) (ts : List Term) → Every (λ (t : Term). t.variable ≡ v → ⊥) ts → c +ℤ pos 0 ≡ c →
    coefficient v (record { coefficient = c; variable = v } ∷ ts) ≡ c
unfolding coefficient
first-term v c ts h e = rw (eq-eqb v v refl, coefficient-none v ts h) e

-- ---- the node's own variable

own_pair : (w : Window) (P v : ℕ) → (v ≡ P → ⊥) → coefficient P (pair_row w P v).terms ≡ one (ups w)
own_pair within P v h = first-term P (pos 1) (minus v ∷ []) (h, tt) refl
own_pair throughout P v h = coefficient-append P (plus v ∷ []) (minus P ∷ []) (h, tt) ∙ first-term P (negsuc 0) [] tt refl

own-long : (w : Window) (P : ℕ) (vs : List ℕ) → Others P vs → coefficient P (long_row w P vs).terms ≡ one (downs w)
own-long within P vs h = coefficient-append P (map plus vs) (minus P ∷ []) (pluses-other P vs h) ∙ first-term P (negsuc 0) [] tt refl
own-long throughout P vs h = first-term P (pos 1) (map minus vs) (minuses-other P vs h) refl

unit-line : (v i : ℕ) (up : Bool) (c : ℤ) → c ≡ one up → number_unless_zero (variable_name v) i c ≡ unit_line v i up
unfolding number_unless_zero
unit-line v i true c e = rw e refl
unit-line v i false c e = rw e refl

others : (v k : ℕ) (f : ℕ → ℕ) → ((j : ℕ) → j < k → f j ≡ v → ⊥) → Others v (tabulate k f)
others v zero f h = tt
others v (suc k) f h = (h 0 (omega arith), others v k (λ j. f (suc j)) (λ j l. h (suc j) (omega arith)))

pub own-text : (i : ℕ) (w : Window) (P k : ℕ) (f : ℕ → ℕ) → ((j : ℕ) → j < k → f j ≡ P → ⊥) →
    flat (λ j. unit_line P (i + j) (ups w)) k ++ unit_line P (i + k) (downs w) ≡ each_row (entry_line P) i (over_rows w P (tabulate k f))
own-text i w P k f h =
    let g : ℕ → List ℕ = λ j. unit_line P (i + j) (ups w) in
    ap₂ ◌++◌ (flat-same g (λ j. entry_line P (i + j) (pair_row w P (f j))) k (λ j l. sym (unit-line P (i + j) (ups w) _ (own_pair w P (f j) (h j l)))))
    (sym (unit-line P (i + k) (downs w) _ (own-long w P (tabulate k f) (others P k f h))))
    ∙ sym (each-text (entry_line P) i w P k f)

-- ---- other variables: rows of variables that are not v have none of it

pair_lacks : (w : Window) (P v u : ℕ) → (P ≡ v → ⊥) → (u ≡ v → ⊥) → Lacks v (pair_row w P u)
pair_lacks within P v u a b = (a, (b, tt))
pair_lacks throughout P v u a b = (b, (a, tt))

pairs_lack : (w : Window) (P v : ℕ) (vs : List ℕ) → (P ≡ v → ⊥) → Others v vs → Every (Lacks v) (map (pair_row w P) vs)
pairs_lack w P v [] a h = tt
pairs_lack w P v (u ∷ vs) a h = (pair_lacks w P v u a h.0, pairs_lack w P v vs a h.1)

long_lacks : (w : Window) (P v : ℕ) (vs : List ℕ) → (P ≡ v → ⊥) → Others v vs → Lacks v (long_row w P vs)
long_lacks within P v vs a h = (every_append (λ (t : Term). t.variable ≡ v → ⊥) (map plus vs) (minus P ∷ [])).1 (pluses-other v vs h, (a, tt))
long_lacks throughout P v vs a h = (a, minuses-other v vs h)

pub over_lacks : (w : Window) (P v : ℕ) (vs : List ℕ) → (P ≡ v → ⊥) → Others v vs → Every (Lacks v) (over_rows w P vs)
over_lacks within P v vs a h = (every_append (Lacks v) (map (pair_row within P) vs) _).1 (pairs_lack within P v vs a h, (long_lacks within P v vs a h, tt))
over_lacks throughout P v vs a h = (every_append (Lacks v) (map (pair_row throughout P) vs) _).1
    (pairs_lack throughout P v vs a h, (long_lacks throughout P v vs a h, tt))

pub other_text : (i : ℕ) (w : Window) (P k : ℕ) (f : ℕ → ℕ) (v : ℕ) → (P ≡ v → ⊥) → ((j : ℕ) → j < k → f j ≡ v → ⊥) →
    [] ≡ each_row (entry_line v) i (over_rows w P (tabulate k f))
other_text i w P k f v a h = sym (absent v i (over_rows w P (tabulate k f)) (over_lacks w P v (tabulate k f) a (others v k f h)))

-- ---- the part's variable at a slot of the window: v between variables that are not v

module _ (w : Window) (P v : ℕ) (a : P ≡ v → ⊥) where
  part_pair : coefficient v (pair_row w P v).terms ≡ one (downs w)
  part_pair = go w
    where
      go : (w : Window) → coefficient v (pair_row w P v).terms ≡ one (downs w)
      go within = coefficient-append v (plus P ∷ []) (minus v ∷ []) (a, tt) ∙ first-term v (negsuc 0) [] tt refl
      go throughout = first-term v (pos 1) (minus P ∷ []) (a, tt) refl

  module _ (before after : List ℕ) (b : Others v before) (c : Others v after) where
    part-long : coefficient v (long_row w P (before ++ (v ∷ after))).terms ≡ one (ups w)
    part-long = go w
      where
        go : (w : Window) → coefficient v (long_row w P (before ++ (v ∷ after))).terms ≡ one (ups w)
        go within =
            ap (λ (l : List Term). coefficient v (l ++ (minus P ∷ []))) (map-append plus before (v ∷ after))
            ∙ ap (coefficient v) (assoc (map plus before) (plus v ∷ map plus after) (minus P ∷ []))
            ∙ coefficient-append v (map plus before) _ (pluses-other v before b)
            ∙ first-term v (pos 1) (map plus after ++ (minus P ∷ []))
            ((every_append (λ (t : Term). t.variable ≡ v → ⊥) (map plus after) (minus P ∷ [])).1 (pluses-other v after c, (a, tt))) refl
          where
            assoc : (x y z : List Term) → (x ++ y) ++ z ≡ x ++ (y ++ z)
            assoc [] y z = refl
            assoc (t ∷ x) y z = ap (λ (l : List Term). t ∷ l) (assoc x y z)
        go throughout =
            coefficient-append v (plus P ∷ []) _ (a, tt) ∙ ap (coefficient v) (map-append minus before (v ∷ after))
            ∙ coefficient-append v (map minus before) _ (minuses-other v before b)
            ∙ first-term v (negsuc 0) (map minus after) (minuses-other v after c) refl

    pairs-text : (i : ℕ) → each_row (entry_line v) i (map (pair_row w P) (before ++ (v ∷ after))) ≡ unit_line v (i + length before) (downs w)
    unfolding each_row
    pairs-text i =
        let f : ℕ → Row = pair_row w P in
        ap (each_row (entry_line v) i) (map-append f before (v ∷ after)) ∙ each_append (entry_line v) i (map f before) (f v ∷ map f after)
        ∙ ap₂ ◌++◌ (absent v i (map f before) (pairs_lack w P v before a b))
        (ap₂ ◌++◌ (unit-line v _ (downs w) _ part_pair ∙ ap (λ (n : ℕ). unit_line v (i + n) (downs w)) (length-map before f))
        (absent v _ (map f after) (pairs_lack w P v after a c))
        ∙ append-nil _)

    part-lines : (i : ℕ) → each_row (entry_line v) i (over_rows w P (before ++ (v ∷ after)))
        ≡ unit_line v (i + length before) (downs w) ++ unit_line v (i + length (before ++ (v ∷ after))) (ups w)
    part-lines i = over-text (entry_line v) i w P (before ++ (v ∷ after)) ∙ ap₂ ◌++◌ (pairs-text i) (unit-line v _ (ups w) _ part-long)

-- the variables about one of them
split : (k j : ℕ) (f : ℕ → ℕ) (rest : List ℕ) → tabulate k (λ i. f (j + suc i)) ≡ rest → tabulate (j + suc k) f ≡ tabulate j f ++ (f j ∷ rest)
split k zero f rest e =
    let z : zero + suc k ≡ suc k = omega arith in
    ap (λ (n : ℕ). tabulate n f) z ∙ ap (λ (l : List ℕ). f 0 ∷ l) (tabulate-same k (λ i. f (suc i)) (λ i. f (zero + suc i)) (λ i h. ap f (omega arith)) ∙ e)
split k (suc j) f rest e =
    let z : suc j + suc k ≡ suc (j + suc k) = omega arith in
    let g : ℕ → ℕ = λ i. f (suc i) in
    ap (λ (n : ℕ). tabulate n f) z
    ∙ ap (λ (l : List ℕ). f 0 ∷ l) (split k j g rest (tabulate-same k (λ i. g (j + suc i)) (λ i. f (suc j + suc i)) (λ i h. ap f (omega arith)) ∙ e))

-- v is the j-th of them, and no other
pub part-text : (i : ℕ) (w : Window) (P k : ℕ) (f : ℕ → ℕ) (v j : ℕ) → (P ≡ v → ⊥) → j < k → f j ≡ v → ((n : ℕ) → f n ≡ v → n ≡ j) →
    unit_line v (i + j) (downs w) ++ unit_line v (i + k) (ups w) ≡ each_row (entry_line v) i (over_rows w P (tabulate k f))
part-text i w P k f v j a h e one =
    let m = k - suc j in
    let n : j + suc m ≡ k = omega arith in
    let before = tabulate j f in
    let after = tabulate m (λ n. f (j + suc n)) in
    let parts : tabulate k f ≡ before ++ (v ∷ after) =
    ap (λ (x : ℕ). tabulate x f) (sym n) ∙ split m j f after refl ∙ ap (λ (x : ℕ). before ++ (x ∷ after)) e in
    let long : length (before ++ (v ∷ after)) ≡ k = ap length (sym parts) ∙ length-tabulate k f in
    sym (
    ap (λ (vs : List ℕ). each_row (entry_line v) i (over_rows w P vs)) parts
    ∙ part-lines w P v a before after (others v j f (λ x y q. let z = one x q in omega arith))
    (others v m (λ n. f (j + suc n)) (λ x y q. let z = one (j + suc x) q in omega arith)) i
    ∙ ap₂ (λ (x y : ℕ). unit_line v (i + x) (downs w) ++ unit_line v (i + y) (ups w)) (length-tabulate j f) long)

-- ---- by the code's flag

module _ (i : ℕ) (b : Bool) (P k : ℕ) (f : ℕ → ℕ) (v : ℕ) where
  abbrev lines : List ℕ
  lines = each_row (entry_line v) i (over_rows (window_by b) P (tabulate k f))

  pub own-lines : v ≡ P → ((j : ℕ) → j < k → f j ≡ P → ⊥) → flat (λ j. unit_line v (i + j) b) k ++ unit_line v (i + k) (not b) ≡ lines
  own-lines e h = rw e (go b)
    where
      go : (b : Bool) → flat (λ j. unit_line P (i + j) b) k ++ unit_line P (i + k) (not b) ≡ each_row (entry_line P) i (over_rows (window_by b) P (tabulate k f))
      go true = own-text i within P k f h
      go false = own-text i throughout P k f h

  pub slot-lines : (v ≡ P → ⊥) → (j : ℕ) → j < k → f j ≡ v → ((n : ℕ) → f n ≡ v → n ≡ j) → unit_line v (i + j) (not b) ++ unit_line v (i + k) b ≡ lines
  slot-lines a j h e one = go b
    where
      go : (b : Bool) → unit_line v (i + j) (not b) ++ unit_line v (i + k) b ≡ each_row (entry_line v) i (over_rows (window_by b) P (tabulate k f))
      go true = part-text i within P k f v j (λ z. a (sym z)) h e one
      go false = part-text i throughout P k f v j (λ z. a (sym z)) h e one

  pub no_lines : (v ≡ P → ⊥) → ((j : ℕ) → j < k → f j ≡ v → ⊥) → [] ≡ lines
  no_lines a g = other_text i (window_by b) P k f v (λ e. a (sym e)) g
