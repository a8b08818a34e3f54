-- For a table that the reader made, the printed text reads to that very table, and every text that does so has at least as many bytes.
use Rattle.std.specs.Prelude.{◌≡◌, refl, List, ℕ, ◌≤◌, ◌<◌, length}
use Rattle.std.proofs.Common.{sym, ap, subst, ◌∙◌, arith}
use Rattle.rules.specs.Rule.{Rule, size, AtomsBelow, WindowsAllowed}
use Rattle.rules.specs.Grammar.{Says}
use Rattle.rules.proofs.Reading.{one-reading}
use Rattle.rules.specs.Table.{Node, Good, table_bytes, nodes_of, rule_at, root}
use Rattle.rules.proofs.TableRules.{length-nodes_from}
use Rattle.rules.proofs.TableTest.{length-table}
use Rattle.rules.specs.Judge.{None}
use Rattle.rules.specs.Refusals.{place_in, TextRefused, ReadRefused}
use Rattle.rules.specs.Demands.Answer.{refused, answered}
use Rattle.rules.specs.Demands.Written.{wrote}
use Rattle.rules.specs.Outcome.{read_outcome}
use Rattle.rules.specs.Exactness.Unrefused.{Unrefused}
use Rattle.rules.proofs.Exactness.Unrefused.{unrefused}
use Rattle.rules.proofs.Exactness.Read.{read_exact}
use Rattle.printer_text.specs.Printed.{Printed}
use Rattle.printer_text.specs.Refused.{RootPrinted, print_order, PrintRefused, PrintsBack}
use Rattle.printer_text.specs.Shown.{printed}
use Rattle.printer_text.proofs.Shown.{printed-says}
use Rattle.printer_text.proofs.Proved.{printed-is, printed-only, printed-least}
use Rattle.printer_text.specs.Outcome.{print_outcome}
use Rattle.printer_text.proofs.Exact.{print_exact}

-- a rule that the reader made a table of
record MadeOf (M : ℕ) (text : List ℕ) (n : ℕ) (table : List ℕ) (p : Rule) : Type 0 where
  says : Says text p
  holds : Unrefused M text p
  is : wrote n table ≡ wrote (size p) (table_bytes (nodes_of p))

made_of : (M : ℕ) (text : List ℕ) (room n : ℕ) (table : List ℕ) → read_outcome M text room ≡ answered (wrote n table) →
    (p : Rule) × MadeOf M text n table p
made_of M text room n table e =
    let (none, (p, says, w)) = ((read_exact M text room).answers (wrote n table)).0 e in
    (p, record { says = says; holds = unrefused M text (λ k x. none k (ReadRefused.text-refused x)) p says; is = w })

module _ (M : ℕ) (text : List ℕ) (n : ℕ) (table : List ℕ) (p : Rule) (x : MadeOf M text n table p) where
  table_is : table ≡ table_bytes (nodes_of p)
  table_is = cc x.is

  good-table : Good M table (nodes_of p)
  good-table = subst (λ (t : List ℕ). Good M t (nodes_of p)) (sym table_is) x.holds.good-table

  -- the rule of the root, by whatever nodes the table has
  root-rule : (ns : List Node) → Good M table ns → rule_at ns (root ns) ≡ p
  root-rule ns g =
      ap (λ (l : List Node). rule_at l (root l)) (x.holds.nodes-alone ns (subst (λ (t : List ℕ). Good M t ns) table_is g)) ∙ x.holds.root-rule

  root-printed : RootPrinted M table (printed p)
  root-printed = (nodes_of p, good-table, subst (λ (r : Rule). Printed r (printed p)) (sym x.holds.root-rule) (printed-is p))

  printed-alone : {s : List ℕ} → RootPrinted M table s → s ≡ printed p
  printed-alone {s} (ns, g, y) = printed-only p s (subst (λ (r : Rule). Printed r s) (root-rule ns g) y)

  fits : length (printed p) ≤ 1024
  fits = omega (arith, printed-least p text x.says, x.holds.short)

  only-short : (room k : ℕ) → PrintRefused M table room k → (k ≡ 11) × (room < length (printed p))
  only-short room k y = go y
    where
      go : {k : ℕ} → PrintRefused M table room k → (k ≡ 11) × (room < length (printed p))
      go (PrintRefused.atoms y) = absurd (y x.holds.allowed)
      go (PrintRefused.not_good y) = absurd (y (nodes_of p) good-table)
      go (PrintRefused.long r y) = absurd (omega (arith, fits, ap length (printed-alone r)))
      go (PrintRefused.short r y) = (refl, omega (arith, ap length (printed-alone r)))

  prints : (room : ℕ) → length (printed p) ≤ room → print_outcome M table room ≡ answered (wrote (length (printed p)) (printed p))
  prints room h =
      ((print_exact M table room).answers (wrote (length (printed p)) (printed p))).1
      (λ k y. omega (arith, (only-short room k y).1), (printed p, root-printed, refl))

  refuses : (room : ℕ) → room < length (printed p) → print_outcome M table room ≡ refused 11
  refuses room h = ((print_exact M table room).refuses 11).1 (record {
    applies = PrintRefused.short root-printed h;
    earlier = λ j l y. omega (arith, ap (place_in print_order) (only-short room j y).0);
  })

  -- ---- the text read again

  unrefused-again : (room : ℕ) → length table ≤ room → None (ReadRefused M (printed p) room)
  unrefused-again room h k y = go y
    where
      same : {q : Rule} → Says (printed p) q → q ≡ p
      same {q} s = one-reading (printed p) q p s (printed-says p)

      go : {k : ℕ} → ReadRefused M (printed p) room k → ⊥
      go (ReadRefused.text-refused (TextRefused.atoms y)) = y x.holds.allowed
      go (ReadRefused.text-refused (TextRefused.long y)) = omega (arith, fits)
      go (ReadRefused.text-refused (TextRefused.no_rule y)) = y p (printed-says p)
      go (ReadRefused.text-refused (TextRefused.atom-high s y)) = y (subst (AtomsBelow M) (sym (same s)) x.holds.atoms)
      go (ReadRefused.text-refused (TextRefused.window_bad s y)) = y (subst WindowsAllowed (sym (same s)) x.holds.windows)
      go (ReadRefused.text-refused (TextRefused.nodes s y)) = omega (arith, x.holds.nodes, ap size (same s))
      go (ReadRefused.short s y) =
          omega (arith, ap size (same s), ap length table_is, length-table (nodes_of p), length-nodes_from 0 p)

  reads : (room : ℕ) → length table ≤ room → read_outcome M (printed p) room ≡ answered (wrote n table)
  reads room h =
      ((read_exact M (printed p) room).answers (wrote n table)).1
      (unrefused-again room h, (p, printed-says p, x.is))

  least : (t : List ℕ) (room : ℕ) → read_outcome M t room ≡ answered (wrote n table) → length (printed p) ≤ length t
  least t room e =
      let (q, y) = made_of M t room n table e in
      let written : table ≡ table_bytes (nodes_of q) = cc y.is in
      let g = subst (λ (b : List ℕ). Good M b (nodes_of q)) (sym written) y.holds.good-table in
      let same = sym y.holds.root-rule ∙ root-rule (nodes_of q) g in
      subst (λ (r : Rule). length (printed r) ≤ length t) same (printed-least q t y.says)

pub prints-back : PrintsBack read_outcome print_outcome
prints-back M text room n table e =
    let (p, x) = made_of M text room n table e in
    (printed p, fits M text n table p x, prints M text n table p x, refuses M text n table p x, reads M text n table p x, least M text n table p x)
