-- Rows: refusals 1, 2, 13, 7 and 11.
use Rattle.std.specs.Prelude.{◌≡◌, refl, List, ℕ, ◌≤◌, ◌<◌, leb, length}
use Rattle.std.proofs.Common.{sym, ap, ◌∙◌, arith, leb-false, leb-true}
use Rattle.rules.specs.Table.{Node, Good}
use Rattle.rules.specs.TableTest.{nodes_in}
use Rattle.rules.proofs.TableTest.{good-nodes}
use Rattle.rules.specs.Rows.{rows_of, rows_bytes}
use Rattle.rules.specs.Refusals.{order, place, TableRefused, RowsRefused}
use Rattle.rules.specs.Demands.{Written, RowsExact}
use Rattle.rules.specs.Demands.Written.{wrote}
use Rattle.rules.specs.Outcome.{rows_outcome}
use Rattle.rules.proofs.Ladder.{From, rung, exact_answered}
use Rattle.rules.proofs.Exactness.Tests.{at_least}
use Rattle.rules.proofs.Exactness.Tables.{table-under, table_exact, of-nodes}

module _ (T M L : ℕ) (table : List ℕ) (room : ℕ) where
  abbrev RowsIs : Written → Type 0
  RowsIs w = (ns : List Node) × Good M table ns × (w ≡ wrote (length (rows_of T M L ns)) (rows_bytes (rows_of T M L ns)))

  rows-down : (j : ℕ) → RowsRefused T M L table room j → place j < place 8 → TableRefused T M L table j
  rows-down j x h = go x h
    where
      go : {j : ℕ} → RowsRefused T M L table room j → place j < place 8 → TableRefused T M L table j
      go (RowsRefused.table-refused x) h = x
      go (RowsRefused.short g x) h = absurd (omega arith)

  rows-from : (k : ℕ) → From order (RowsRefused T M L table room) RowsIs (place 8) →
      (place 11 < k → (ns : List Node) → Good M table ns → length (rows_bytes (rows_of T M L ns)) ≤ room) → k ≤ 13 → (j : ℕ) → RowsRefused T M L table room j →
      (k ≤ place j) × (place j < 13)
  rows-from k a c u j x = go (a j x) x
    where
      go : {j : ℕ} → place 8 ≤ place j → RowsRefused T M L table room j → (k ≤ place j) × (place j < 13)
      go h (RowsRefused.table-refused x) = absurd (omega (arith, table-under T M L table x))
      go h (RowsRefused.short {ns} g x) = (at_least (place 11) k (λ i. omega (arith, c i ns g)), omega arith)

pub rows_exact : RowsExact rows_outcome
unfolding rows_outcome
rows_exact T M L table room =
    let Refused : ℕ → Type 0 = RowsRefused T M L table room in
    let AnswerIs : Written → Type 0 = RowsIs T M L table room in
    let rows = rows_of T M L (nodes_in table) in
    table_exact T M L table Refused AnswerIs (λ k x. RowsRefused.table-refused x) (rows-down T M L table room) _
    (λ s m l g low.
    rung order Refused AnswerIs (leb (length (rows_bytes rows)) room) 11 _
    (λ j x. (rows-from T M L table room (place 11) low (λ h. absurd (omega arith)) (omega arith) j x).0)
    (λ e. RowsRefused.short g (leb-false (length (rows_bytes rows)) room e))
    (λ e. let f = of-nodes T M L table (λ ns. length (rows_bytes (rows_of T M L ns)) ≤ room) (leb-true (length (rows_bytes rows)) room e) in
    exact_answered order Refused AnswerIs (wrote (length rows) (rows_bytes rows))
    (λ j x. let z = rows-from T M L table room 13 low (λ h. f) (omega arith) j x in omega (arith, z))
    (nodes_in table, g, refl)
    (λ w i. ap (λ (l : List Node). wrote (length (rows_of T M L l)) (rows_bytes (rows_of T M L l))) (sym (good-nodes M table i.0 i.1)) ∙ sym i.2)))
