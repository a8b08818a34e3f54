-- The printer's outcome is exact: refused with the first that applies, in the order 2, 7, 3, 11, and else the text and its length.
use Rattle.std.specs.Prelude.{◌≡◌, refl, List, ℕ, ◌≤◌, ◌<◌, leb, length}
use Rattle.std.proofs.Common.{sym, ap, ◌∙◌, arith, leb-false, leb-true}
use Rattle.rules.specs.Quantities.{AtomsAllowed}
use Rattle.rules.specs.Table.{Node, Good, rule_at, root}
use Rattle.rules.specs.TableTest.{good, nodes_in}
use Rattle.rules.proofs.TableTest.{good-sound, good-complete, good-nodes}
use Rattle.rules.specs.Refusals.{place_in}
use Rattle.rules.specs.Demands.{Written}
use Rattle.rules.specs.Demands.Written.{wrote}
use Rattle.rules.specs.Outcome.{between}
use Rattle.rules.proofs.Ladder.{rung, exact_answered}
use Rattle.rules.proofs.Exactness.Tests.{between-true, between-false, passes, at_least}
use Rattle.printer_text.specs.Refused.{RootPrinted, print_order, PrintRefused, PrinterExact}
use Rattle.printer_text.specs.Shown.{printed}
use Rattle.printer_text.proofs.Proved.{printed-is, printed-only}
use Rattle.printer_text.specs.Outcome.{root_text, print_outcome}

abbrev at : ℕ → ℕ
at k = place_in print_order k

module _ (M : ℕ) (table : List ℕ) (room : ℕ) where
  abbrev PrintIs : Written → Type 0
  PrintIs w = (s : List ℕ) × RootPrinted M table s × (w ≡ wrote (length s) s)

  -- what is printed is the computed text
  text-is : {s : List ℕ} → RootPrinted M table s → s ≡ root_text table
  text-is {s} (ns, g, x) = printed-only (rule_at ns (root ns)) s x ∙ ap (λ (l : List Node). printed (rule_at l (root l))) (good-nodes M table ns g)

  -- no refusal before place k applies, where what decides those is known
  print-from : (k : ℕ) → (at 2 < k → AtomsAllowed M) → (at 7 < k → Good M table (nodes_in table)) → (at 3 < k → length (root_text table) ≤ 1024) →
      (at 11 < k → length (root_text table) ≤ room) → {j : ℕ} → PrintRefused M table room j → k ≤ at j
  print-from k a g l r (PrintRefused.atoms x) = at_least (at 2) k (λ h. x (a h))
  print-from k a g l r (PrintRefused.not_good x) = at_least (at 7) k (λ h. x (nodes_in table) (g h))
  print-from k a g l r (PrintRefused.long p x) = at_least (at 3) k (λ h. omega (arith, l h, ap length (text-is p)))
  print-from k a g l r (PrintRefused.short p x) = at_least (at 11) k (λ h. omega (arith, r h, ap length (text-is p)))

  print-under : {j : ℕ} → PrintRefused M table room j → at j < 4
  print-under (PrintRefused.atoms x) = omega arith
  print-under (PrintRefused.not_good x) = omega arith
  print-under (PrintRefused.long p x) = omega arith
  print-under (PrintRefused.short p x) = omega arith

pub print_exact : PrinterExact print_outcome
unfolding print_outcome
print_exact M table room =
    let Refused : ℕ → Type 0 = PrintRefused M table room in
    let AnswerIs : Written → Type 0 = PrintIs M table room in
    let text = root_text table in
    rung print_order Refused AnswerIs (between 1 16 M) 2 _
    (λ j x. print-from M table room (at 2) (λ h. absurd (omega arith)) (λ h. absurd (omega arith)) (λ h. absurd (omega arith)) (λ h. absurd (omega arith)) x)
    (λ e. PrintRefused.atoms (between-false 1 16 M e))
    (λ e. let m = between-true 1 16 M e in
    rung print_order Refused AnswerIs (good M table) 7 _
    (λ j x. print-from M table room (at 7) (λ h. m) (λ h. absurd (omega arith)) (λ h. absurd (omega arith)) (λ h. absurd (omega arith)) x)
    (λ e. PrintRefused.not_good (λ ns g. rw e at (good-complete M table ns g)))
    (λ e. let g = good-sound M table (passes (good M table) e) in
    let root_is : RootPrinted M table text = (nodes_in table, g, printed-is (rule_at (nodes_in table) (root (nodes_in table)))) in
    rung print_order Refused AnswerIs (leb (length text) 1024) 3 _
    (λ j x. print-from M table room (at 3) (λ h. m) (λ h. g) (λ h. absurd (omega arith)) (λ h. absurd (omega arith)) x)
    (λ e. PrintRefused.long root_is (leb-false (length text) 1024 e))
    (λ e. let l = leb-true (length text) 1024 e in
    rung print_order Refused AnswerIs (leb (length text) room) 11 _
    (λ j x. print-from M table room (at 11) (λ h. m) (λ h. g) (λ h. l) (λ h. absurd (omega arith)) x)
    (λ e. PrintRefused.short root_is (leb-false (length text) room e))
    (λ e. let r = leb-true (length text) room e in
    exact_answered print_order Refused AnswerIs (wrote (length text) text)
    (λ j x. omega (arith, print-from M table room 4 (λ h. m) (λ h. g) (λ h. l) (λ h. r) x, print-under M table room x))
    (text, root_is, refl)
    (λ w i. ap (λ (s : List ℕ). wrote (length s) s) (sym (text-is M table room i.1)) ∙ sym i.2)))))
