-- Row records: their length, and that reading the records of a table's rows back gives the rows.
use Rattle.std.specs.Prelude.{ℕ, ◌+◌, ◌*◌, ◌<◌, length, ℤ, pos, negsuc}
use Rattle.lists.specs.Every.{Every}
use Rattle.rules.specs.Rows.{Term, Row}

-- a row of fewer than 256 terms, whose right side and coefficients fit a signed byte
abbrev pub Small : ℤ → Type 0
Small (pos n) = n < 128
Small (negsuc n) = n < 128

pub record Recordable (r : Row) : Type 0 where
  pub few : length r.terms < 256
  pub right-small : Small r.right
  pub small : Every (λ (t : Term). Small t.coefficient) r.terms

-- "a row is 5 bytes and 3 per term"
abbrev pub row_length : Row → ℕ
row_length r = 5 + 3 * length r.terms
