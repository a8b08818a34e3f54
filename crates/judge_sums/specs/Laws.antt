-- Shortfalls.
use Rattle.std.specs.Prelude.{◌≡◌, List, ℤ, pos, nat_abs, ◌*ℤ◌, ◌≤◌}
use Rattle.std.proofs.Common.{ap, ◌∙◌, to_z, of_z}
use Rattle.std.specs.Int.{w64}
use Rattle.ints.specs.Stored.{kept}
use Rattle.rules.specs.Quantities.{one}
use Rattle.rules.specs.Rows.{Term, sum_of}
use Rattle.rules.specs.Rows.Relation.{at_least, equal}
use Rattle.rules.specs.Judge.{shortfall_by, shortfall}
use Rattle.row.specs.declared.Relation.TheVariants.{AtLeast, Equal}
use Rattle.row.specs.declared.Row.{Row}
use Rattle.row.specs.Meaning.{terms_of, row_of}
use Rattle.millionths.specs.Bounds as Bounds
use Rattle.judge_sums.specs.declared.RowSum.{RowSum}
use Rattle.judge_sums.specs.Sums.{RowSumOf, whole_of}

-- ---- what a sum falls short of a right side by, and how far it is from it

abbrev pub short_of : (right sum : ℤ) → ℤ
short_of right s = shortfall_by at_least (right *ℤ pos one) s

abbrev pub off_of : (right sum : ℤ) → ℤ
off_of right s = shortfall_by equal (right *ℤ pos one) s

-- ---- a row against its sum

module _ (xs : List ℤ) (row : Row) {s b : ℤ} (p : s ≡ sum_of xs (terms_of row.terms)) (q : b ≡ row.right) where
  pub short_row : row.relation ≡ AtLeast → short_of b s ≡ shortfall xs (row_of row)
  short_row t = rw (p, q, t)

  pub off-row : row.relation ≡ Equal → off_of b s ≡ shortfall xs (row_of row)
  off-row t = rw (p, q, t)

-- ---- as it is passed on

module _ {xs : List ℤ} {ts : List Term} {r : RowSum} (h : RowSumOf xs ts r) (right : ℤ) {d : ℤ} where
  pub short_told : (d ≡ short_of right r.whole) × (nat_abs d ≤ Bounds.shortfall) → to_z w64 (of_z w64 d) ≡ short_of right (sum_of xs ts)
  short_told p = kept p ∙ ap (short_of right) (whole_of h)

  pub off_told : (d ≡ off_of right r.whole) × (nat_abs d ≤ Bounds.shortfall) → to_z w64 (of_z w64 d) ≡ off_of right (sum_of xs ts)
  off_told p = kept p ∙ ap (off_of right) (whole_of h)
