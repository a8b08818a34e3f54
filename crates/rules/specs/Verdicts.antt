-- The verdict, computed: the first variable outside, the first atom variable that is not binary, the first broken row. It is the verdict of Judge.antt.
use Rattle.std.specs.Prelude.{Bool, ◌&&◌, ◌||◌, List, ℕ, ◌+◌, ◌*◌, ltb, length, ℤ, pos, neg_ℤ, ◌-ℤ◌, nat_abs}
use Rattle.std.proofs.Math.Option.{Option, none, some}
use Rattle.std.specs.Int.Signed.{lt_z}
use Rattle.lists.specs.First.{first}
use Rattle.rules.specs.Quantities.{zero, one}
use Rattle.rules.specs.Table.{Node}
use Rattle.rules.specs.Rows.{Row, value_at, rows_of}
use Rattle.rules.specs.Judge.{shortfall, Verdict, row_at}
use Rattle.rules.specs.Judge.VerdictWith.{outside, not-binary, broken, passed}
use Rattle.rules.specs.Errors.Figures.{root_error}

-- ---- the tests of one figure and of one row

abbrev pub apart : (e : ℕ) → (b x : ℤ) → Bool
apart e b x = ltb e (nat_abs (x -ℤ b))

abbrev pub is_outside : (e : ℕ) → ℤ → Bool
is_outside e x = lt_z x (neg_ℤ (pos e)) || lt_z (pos (one + e)) x

abbrev pub is_not_binary : (e : ℕ) → ℤ → Bool
is_not_binary e x = apart e (pos zero) x && apart e (pos one) x

-- a row is broken where its shortfall is above the tolerance
abbrev pub is_short : (e : ℕ) → ℤ → Bool
is_short e d = lt_z (pos e) d

abbrev pub is_broken : (e : ℕ) → List ℤ → Row → Bool
is_broken e xs r = is_short e (shortfall xs r)

-- ---- the first of

abbrev pub or_else : {A : Type 0} → Option ℕ → (ℕ → A) → A → A
or_else none f v = v
or_else (some k) f v = f k

module _ (T M L e : ℕ) (ns : List Node) (xs : List ℤ) where
  abbrev pub first_outside : Option ℕ
  first_outside = first (λ v. is_outside e (value_at xs v)) (length xs) 0

  abbrev pub first_not_binary : Option ℕ
  first_not_binary = first (λ v. is_not_binary e (value_at xs v)) (M * T) 0

  abbrev pub first_broken : Option ℕ
  first_broken = first (λ i. is_broken e xs (row_at (rows_of T M L ns) i)) (length (rows_of T M L ns)) 0

  -- row i and its shortfall
  abbrev pub broken_at : ℕ → Verdict
  broken_at i = broken i (shortfall xs (row_at (rows_of T M L ns) i))

  unfoldable pub verdict : Verdict
  verdict =
      or_else first_outside outside (or_else first_not_binary not-binary (or_else first_broken broken_at (passed (length (rows_of T M L ns)) (root_error T L e ns))))
