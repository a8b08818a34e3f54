-- A buffer of the largest size is never too short: 11 is refused only for want of room, and only where no earlier refusal applies.
use Rattle.std.specs.Prelude.{◌≡◌, refl, List, ℕ, ◌≤◌}
use Rattle.std.proofs.Common.{arith}
use Rattle.rules.specs.Rule.{size}
use Rattle.rules.specs.Table.{Node, Good}
use Rattle.rules.specs.Refusals.{WinsIn, Wins, TextRefused, ReadRefused, TableRefused, EvaluateRefused, RowsRefused}
use Rattle.rules.specs.Demands.Answer.{refused}
use Rattle.rules.specs.Outcome.{read_outcome, evaluate_outcome, rows_outcome}
use Rattle.rules.proofs.Exactness.Tests.{at_least}
use Rattle.rules.proofs.Exactness.Read.{read_exact}
use Rattle.rules.proofs.Exactness.Evaluate.{evaluate_exact}
use Rattle.rules.proofs.Exactness.Rows.{rows_exact}
use Rattle.mps.specs.Refused.{PageRefused}
use Rattle.mps.specs.Outcome.{page_outcome}
use Rattle.mps.proofs.Exact.{page_exact}
use Rattle.printer_text.specs.Refused.{print_order, PrintRefused}
use Rattle.printer_text.specs.Outcome.{print_outcome}
use Rattle.printer_text.proofs.Exact.{print_exact}
use Rattle.sepia_limits.specs.Limits.{max_nodes, max_text, max_table, max_rows_bytes, max_page, LimitsHold, NoTableHasMore}

pub read-room : (M : ℕ) (text : List ℕ) (room : ℕ) → max_table ≤ room → read_outcome M text room ≡ refused 11 → ⊥
read-room M text room h e = go w.applies refl
  where
    w : Wins (ReadRefused M text room) 11
    w = ((read_exact M text room).refuses 11).0 e

    go : {k : ℕ} → ReadRefused M text room k → k ≡ 11 → ⊥
    go (ReadRefused.text-refused (TextRefused.atoms x)) f = omega arith
    go (ReadRefused.text-refused (TextRefused.long x)) f = omega arith
    go (ReadRefused.text-refused (TextRefused.no_rule x)) f = omega arith
    go (ReadRefused.text-refused (TextRefused.atom-high s x)) f = omega arith
    go (ReadRefused.text-refused (TextRefused.window_bad s x)) f = omega arith
    go (ReadRefused.text-refused (TextRefused.nodes s x)) f = omega arith
    go (ReadRefused.short {p} s x) f =
        let few = at_least 128 (size p) (λ g. w.earlier 6 (omega arith) (ReadRefused.text-refused (TextRefused.nodes s g))) in
        omega arith

-- ---- the calls on a table

module _ (limits : NoTableHasMore) (T M L : ℕ) (table : List ℕ) where
  not-by-table : {k : ℕ} → TableRefused T M L table k → k ≡ 11 → ⊥
  not-by-table (TableRefused.slots x) f = omega arith
  not-by-table (TableRefused.atoms x) f = omega arith
  not-by-table (TableRefused.loop x) f = omega arith
  not-by-table (TableRefused.not_good x) f = omega arith

  -- where 11 is the first that applies, T, M and L are allowed
  within : (Refused : ℕ → Type 0) → ((k : ℕ) → TableRefused T M L table k → Refused k) → Wins Refused 11 →
      (ns : List Node) → Good M table ns → (LimitsHold T M L table ns → ⊥) → ⊥
  within Refused by w ns g f =
      w.earlier 1 (omega arith) (by 1 (TableRefused.slots (λ s.
      w.earlier 2 (omega arith) (by 2 (TableRefused.atoms (λ m.
      w.earlier 13 (omega arith) (by 13 (TableRefused.loop (λ l. f (limits T M L table ns s m l g))))))))))

  pub evaluate-room : (run : List ℕ) (room : ℕ) → max_nodes ≤ room → evaluate_outcome T M L table run room ≡ refused 11 → ⊥
  evaluate-room run room h e = go (((evaluate_exact T M L table run room).refuses 11).0 e).applies refl
    where
      go : {k : ℕ} → EvaluateRefused T M L table run room k → k ≡ 11 → ⊥
      go (EvaluateRefused.table-refused x) f = not-by-table x f
      go (EvaluateRefused.run_bad x) f = omega arith
      go (EvaluateRefused.short g x) f = omega (arith, g.few)

  pub rows-room : (room : ℕ) → max_rows_bytes ≤ room → rows_outcome T M L table room ≡ refused 11 → ⊥
  rows-room room h e = go w.applies refl
    where
      w : Wins (RowsRefused T M L table room) 11
      w = ((rows_exact T M L table room).refuses 11).0 e

      go : {k : ℕ} → RowsRefused T M L table room k → k ≡ 11 → ⊥
      go (RowsRefused.table-refused x) f = not-by-table x f
      go (RowsRefused.short {ns} g x) f = within (RowsRefused T M L table room) (λ k y. RowsRefused.table-refused y) w ns g (λ i. omega (arith, i.rows-bytes))

  pub page-room : (room : ℕ) → max_page ≤ room → page_outcome T M L table room ≡ refused 11 → ⊥
  page-room room h e = go w.applies refl
    where
      w : Wins (PageRefused T M L table room) 11
      w = ((page_exact T M L table room).refuses 11).0 e

      go : {k : ℕ} → PageRefused T M L table room k → k ≡ 11 → ⊥
      go (PageRefused.table-refused x) f = not-by-table x f
      go (PageRefused.short {ns} g x) f = within (PageRefused T M L table room) (λ k y. PageRefused.table-refused y) w ns g (λ i. omega (arith, i.page-bytes))

pub print-room : (M : ℕ) (table : List ℕ) (room : ℕ) → max_text ≤ room → print_outcome M table room ≡ refused 11 → ⊥
print-room M table room h e = go w.applies refl
  where
    w : WinsIn print_order (PrintRefused M table room) 11
    w = ((print_exact M table room).refuses 11).0 e

    go : {k : ℕ} → PrintRefused M table room k → k ≡ 11 → ⊥
    go (PrintRefused.atoms x) f = omega arith
    go (PrintRefused.not_good x) f = omega arith
    go (PrintRefused.long s x) f = omega arith
    go (PrintRefused.short s x) f = w.earlier 3 (omega arith) (PrintRefused.long s (omega arith))
