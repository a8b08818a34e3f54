-- Laws of the printer's outcome, one for each return.
use mathlib.Core.Path.{◌≡◌, refl, sym, ap, ◌∙◌}
use mathlib.Core.Bool.{true, false}
use mathlib.Core.List.{List, ◌++◌}
use Prim.Native.Nat.{ℕ, ◌-◌, ◌≤◌, ◌<◌}
use native.Mathlib.Nat.{zero-add}
use native.Mathlib.Omega.{arith}
use borrow.Author.Tests.{le-leb, lt-leb}
use lib.ListN.{length, drop}
use lib.Seq.{sets, sets-eq}
use Rattle.rules.specs.Table.{rule_at}
use Rattle.rules.specs.TableTest.{good, nodes_in, record_count}
use Rattle.rules.proofs.TableTest.{length-nodes_in, good-sound}
use Rattle.rules.specs.Demands.{Answer}
use Rattle.rules.specs.Demands.Answer.{refused, answered}
use Rattle.rules.specs.Outcome.{between, returned, buffer}
use Rattle.rules.proofs.Exactness.Tests.{between-true}
use Rattle.cursor.specs.Put.{Put}
use Rattle.cursor.specs.declared.Cursor.{Cursor}
use Rattle.table.specs.Checks.{good-nodes-at}
use Rattle.printer_text.specs.Shown.{shown}
use Rattle.printer_text.specs.Outcome.{root_text, print_outcome}
use Rattle.printer_node.specs.Shapes.{Printable}
use Rattle.printer_node.specs.Putting.{Putting}

-- what is answered, and what the buffer then holds
abbrev Ends : (M : ℕ) (table out : List ℕ) (answer : Answer ℕ) (after : List ℕ) → Type 0
Ends M table out answer after = record {
  r_value : answer ≡ returned (print_outcome M table (length out));
  out_after : after ≡ buffer (print_outcome M table (length out)) out;
}

module _ (M : ℕ) (table out : List ℕ) where
  pub atoms-refused : between 1 16 M ≡ false → Ends M table out (refused 2) out
  unfolding print_outcome
  atoms-refused e = record { r_value = rw e refl; out_after = rw e refl }

  module _ (m : between 1 16 M ≡ true) where
    pub table-refused : good M table ≡ false → Ends M table out (refused 7) out
    unfolding print_outcome
    table-refused e = record { r_value = rw (m, e) refl; out_after = rw (m, e) refl }

    -- a good table with n + 1 nodes
    module _ (g : good M table ≡ true) where
      pub some-nodes : 1 ≤ record_count table
      some-nodes = omega (arith, length-nodes_in M table, (good-sound M table (rw g tt)).some)

      pub printable : Printable table
      printable = record { atoms = M; few = (between-true 1 16 M m).1; nodes = good-nodes-at M table g }

      module _ (c : ℕ) (counted : c ≡ record_count table) where
        text-is : shown 0 (rule_at (nodes_in table) (c - 1)) ≡ root_text table
        text-is = ap (λ (n : ℕ). shown 0 (rule_at (nodes_in table) (n - 1))) (counted ∙ sym (length-nodes_in M table))

        pub long-refused : (length (shown 0 (rule_at (nodes_in table) (c - 1))) ≤ 1024 → ⊥) → Ends M table out (refused 3) out
        unfolding print_outcome
        long-refused e =
            let k = lt-leb (length (root_text table)) 1024 (omega (arith, e, ap length text-is)) in
            record { r_value = rw (m, g, k) refl; out_after = rw (m, g, k) refl }

        module _ (rest : ℕ) (spent : (length (shown 0 (rule_at (nodes_in table) (c - 1))) ≤ 1024) × (rest ≡ 1024 - length (shown 0 (rule_at (nodes_in table) (c - 1))))) where
          module _ (n : ℕ) (long : n ≡ 1024 - rest) where
            long-is : n ≡ length (root_text table)
            long-is = omega (arith, ap length text-is, spent)

            fits : length (root_text table) ≤ 1024
            fits = omega (arith, ap length text-is, spent)

            pub room-refused : length out < n → Ends M table out (refused 11) out
            unfolding print_outcome
            room-refused h =
                let k = le-leb (length (root_text table)) 1024 fits in
                let j = lt-leb (length (root_text table)) (length out) (omega (arith, long-is)) in
                record { r_value = rw (m, g, k, j) refl; out_after = rw (m, g, k, j) refl }

            pub putting : n ≤ length out → (page : Cursor) → page.at ≡ 0 → page.out.now ≡ out → Putting table (c - 1) 0 page
            putting h page start same = record {
              printable = printable;
              inside = omega (arith, some-nodes);
              room = omega (arith, start, ap length same, ap length text-is, long-is);
            }

            pub text-printed : n ≤ length out → {after : List ℕ} {next : ℕ} → Put 0 (shown 0 (rule_at (nodes_in table) (c - 1))) out after next →
                Ends M table out (answered n) after
            unfolding print_outcome
            text-printed h {after} p =
                let s = root_text table in
                let k = le-leb (length s) 1024 fits in
                let j = le-leb (length s) (length out) (omega (arith, long-is)) in
                let w : after ≡ s ++ drop (length s) out =
                p.content ∙ ap (sets out 0) text-is ∙ sets-eq s out 0 (omega (arith, long-is)) ∙ ap (λ (i : ℕ). s ++ drop i out) (zero-add (length s)) in
                record { r_value = rw (m, g, k, j) (ap (λ (i : ℕ). answered i) long-is); out_after = rw (m, g, k, j) w }
