-- The entries of a variable in the rows of a slot, by what it is there: the node's own P, a part p or q or both, or the node's at the next slot, P'.
use Rattle.std.specs.Prelude.{◌≡◌, Bool, not, ℕ, ◌+◌, eqb, ℤ, pos, negsuc}
use Rattle.std.proofs.Math.Path.{refl}
use Rattle.std.proofs.Common.{sym, ne_eqb, eq-eqb}
use Rattle.std.proofs.Math.Bool.{true, false}
use mathlib.Core.List.{List, [], ◌++◌, append-nil}
use Rattle.rules.specs.Rows.{Row, same_rows, not_rows, and_rows, or_rows, implies_rows, until_rows}
use Rattle.mps.specs.Merged.{coefficient}
use Rattle.mps.specs.Page.{row_name, variable_name, number_line, number_unless_zero, entry_line, each_row}
use Rattle.mps_line.specs.Units.{unit_line}

-- 2 or −2, where a part is both
abbrev pub two : (up : Bool) → ℤ
two true = pos 2
two false = negsuc 1

abbrev pub double_line : (v i : ℕ) (up : Bool) → List ℕ
double_line v i up = number_line (variable_name v) (row_name i) (two up)

-- the row of "not", where the part goes up, and that of an atom or of what has one part alone
abbrev pub pair_rows : (up : Bool) → (P p : ℕ) → List Row
pair_rows true P p = not_rows P p
pair_rows false P p = same_rows P p

-- the rows of "and", and those of "or", which have the opposite signs
abbrev pub join_rows : (up : Bool) → (P p q : ℕ) → List Row
join_rows true P p q = and_rows P p q
join_rows false P p q = or_rows P p q

module _ (v i : ℕ) where
  -- the lines that rows give
  abbrev pub lines : List Row → List ℕ
  lines rs = each_row (entry_line v) i rs

  -- 1 or −1 in three rows
  abbrev pub three_lines : (a b c : Bool) → List ℕ
  three_lines a b c = unit_line v i a ++ (unit_line v (i + 1) b ++ unit_line v (i + 1 + 1) c)

  -- a part that is both, of "and" where it goes up and of "or" where it goes down; and of "until"
  abbrev pub both_joined : (up : Bool) → List ℕ
  both_joined up = unit_line v i up ++ (unit_line v (i + 1) up ++ double_line v (i + 1 + 1) (not up))

  abbrev pub both_until : List ℕ
  both_until = unit_line v i false ++ (double_line v (i + 1) true ++ (unit_line v (i + 1 + 1) true ++ unit_line v (i + 1 + 1 + 1) false))

  -- the node's own variable, of "until"
  abbrev pub own_until : List ℕ
  own_until = unit_line v i true ++ (unit_line v (i + 1) false ++ (unit_line v (i + 1 + 1) false ++ unit_line v (i + 1 + 1 + 1) true))

  is : {x : ℕ} → v ≡ x → eqb x v ≡ true
  is {x} e = eq-eqb x v (sym e)

  other : {x : ℕ} → (v ≡ x → ⊥) → eqb x v ≡ false
  other {x} h = ne_eqb x v (λ e. h (sym e))

  module _ (P p : ℕ) where
    pub pair-own : (up : Bool) → v ≡ P → (v ≡ p → ⊥) → unit_line v i true ≡ lines (pair_rows up P p)
    unfolding each_row coefficient number_unless_zero
    pair-own true a b = rw (is a, other b) (sym (append-nil (unit_line v i true)))
    pair-own false a b = rw (is a, other b) (sym (append-nil (unit_line v i true)))

    pub pair-part : (up : Bool) → (v ≡ P → ⊥) → v ≡ p → unit_line v i up ≡ lines (pair_rows up P p)
    unfolding each_row coefficient number_unless_zero
    pair-part true a b = rw (other a, is b) (sym (append-nil (unit_line v i true)))
    pair-part false a b = rw (other a, is b) (sym (append-nil (unit_line v i false)))

    pub pair-none : (up : Bool) → (v ≡ P → ⊥) → (v ≡ p → ⊥) → [] ≡ lines (pair_rows up P p)
    unfolding each_row coefficient number_unless_zero
    pair-none true a b = rw (other a, other b) refl
    pair-none false a b = rw (other a, other b) refl

  module _ (P p q : ℕ) where
    pub join-own : (up : Bool) → v ≡ P → (v ≡ p → ⊥) → (v ≡ q → ⊥) → three_lines (not up) (not up) up ≡ lines (join_rows up P p q)
    unfolding each_row coefficient number_unless_zero
    join-own true a b c = rw (is a, other b, other c, append-nil (unit_line v (i + 1 + 1) true)) refl
    join-own false a b c = rw (is a, other b, other c, append-nil (unit_line v (i + 1 + 1) false)) refl

    pub join-both : (up : Bool) → (v ≡ P → ⊥) → v ≡ p → v ≡ q → both_joined up ≡ lines (join_rows up P p q)
    unfolding each_row coefficient number_unless_zero
    join-both true a b c = rw (other a, is b, is c, append-nil (double_line v (i + 1 + 1) false)) refl
    join-both false a b c = rw (other a, is b, is c, append-nil (double_line v (i + 1 + 1) true)) refl

    pub join_first : (up : Bool) → (v ≡ P → ⊥) → v ≡ p → (v ≡ q → ⊥) → unit_line v i up ++ unit_line v (i + 1 + 1) (not up) ≡ lines (join_rows up P p q)
    unfolding each_row coefficient number_unless_zero
    join_first true a b c = rw (other a, is b, other c, append-nil (unit_line v (i + 1 + 1) false)) refl
    join_first false a b c = rw (other a, is b, other c, append-nil (unit_line v (i + 1 + 1) true)) refl

    pub join-second : (up : Bool) → (v ≡ P → ⊥) → (v ≡ p → ⊥) → v ≡ q → unit_line v (i + 1) up ++ unit_line v (i + 1 + 1) (not up) ≡ lines (join_rows up P p q)
    unfolding each_row coefficient number_unless_zero
    join-second true a b c = rw (other a, other b, is c, append-nil (unit_line v (i + 1 + 1) false)) refl
    join-second false a b c = rw (other a, other b, is c, append-nil (unit_line v (i + 1 + 1) true)) refl

    pub join-none : (up : Bool) → (v ≡ P → ⊥) → (v ≡ p → ⊥) → (v ≡ q → ⊥) → [] ≡ lines (join_rows up P p q)
    unfolding each_row coefficient number_unless_zero
    join-none true a b c = rw (other a, other b, other c) refl
    join-none false a b c = rw (other a, other b, other c) refl

    pub implies_own : v ≡ P → (v ≡ p → ⊥) → (v ≡ q → ⊥) → three_lines true true false ≡ lines (implies_rows P p q)
    unfolding each_row coefficient number_unless_zero
    implies_own a b c = rw (is a, other b, other c, append-nil (unit_line v (i + 1 + 1) false)) refl

    pub implies_both : (v ≡ P → ⊥) → v ≡ p → v ≡ q → unit_line v i true ++ unit_line v (i + 1) false ≡ lines (implies_rows P p q)
    unfolding each_row coefficient number_unless_zero
    implies_both a b c = rw (other a, is b, is c, append-nil (unit_line v (i + 1) false)) refl

    pub implies_first : (v ≡ P → ⊥) → v ≡ p → (v ≡ q → ⊥) → unit_line v i true ++ unit_line v (i + 1 + 1) false ≡ lines (implies_rows P p q)
    unfolding each_row coefficient number_unless_zero
    implies_first a b c = rw (other a, is b, other c, append-nil (unit_line v (i + 1 + 1) false)) refl

    pub implies_second : (v ≡ P → ⊥) → (v ≡ p → ⊥) → v ≡ q → unit_line v (i + 1) false ++ unit_line v (i + 1 + 1) true ≡ lines (implies_rows P p q)
    unfolding each_row coefficient number_unless_zero
    implies_second a b c = rw (other a, other b, is c, append-nil (unit_line v (i + 1 + 1) true)) refl

    pub implies_none : (v ≡ P → ⊥) → (v ≡ p → ⊥) → (v ≡ q → ⊥) → [] ≡ lines (implies_rows P p q)
    unfolding each_row coefficient number_unless_zero
    implies_none a b c = rw (other a, other b, other c) refl

  module _ (P p q P' : ℕ) where
    pub until-own : v ≡ P → (v ≡ p → ⊥) → (v ≡ q → ⊥) → (v ≡ P' → ⊥) → own_until ≡ lines (until_rows P p q P')
    unfolding each_row coefficient number_unless_zero
    until-own a b c d = rw (is a, other b, other c, other d, append-nil (unit_line v (i + 1 + 1 + 1) true)) refl

    pub until-next : (v ≡ P → ⊥) → (v ≡ p → ⊥) → (v ≡ q → ⊥) → v ≡ P' →
        unit_line v (i + 1 + 1) true ++ unit_line v (i + 1 + 1 + 1) false ≡ lines (until_rows P p q P')
    unfolding each_row coefficient number_unless_zero
    until-next a b c d = rw (other a, other b, other c, is d, append-nil (unit_line v (i + 1 + 1 + 1) false)) refl

    pub until-both : (v ≡ P → ⊥) → v ≡ p → v ≡ q → (v ≡ P' → ⊥) → both_until ≡ lines (until_rows P p q P')
    unfolding each_row coefficient number_unless_zero
    until-both a b c d = rw (other a, is b, is c, other d, append-nil (unit_line v (i + 1 + 1 + 1) false)) refl

    pub until-first : (v ≡ P → ⊥) → v ≡ p → (v ≡ q → ⊥) → (v ≡ P' → ⊥) →
        unit_line v (i + 1) true ++ unit_line v (i + 1 + 1 + 1) false ≡ lines (until_rows P p q P')
    unfolding each_row coefficient number_unless_zero
    until-first a b c d = rw (other a, is b, other c, other d, append-nil (unit_line v (i + 1 + 1 + 1) false)) refl

    pub until-second : (v ≡ P → ⊥) → (v ≡ p → ⊥) → v ≡ q → (v ≡ P' → ⊥) → three_lines false true true ≡ lines (until_rows P p q P')
    unfolding each_row coefficient number_unless_zero
    until-second a b c d = rw (other a, other b, is c, other d, append-nil (unit_line v (i + 1 + 1) true)) refl

    pub until_none : (v ≡ P → ⊥) → (v ≡ p → ⊥) → (v ≡ q → ⊥) → (v ≡ P' → ⊥) → [] ≡ lines (until_rows P p q P')
    unfolding each_row coefficient number_unless_zero
    until_none a b c d = rw (other a, other b, other c, other d) refl
