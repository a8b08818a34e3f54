-- The first refusal in the order, and else what the program makes of the rule that the text says.
use Rattle.std.specs.Prelude.{◌≡◌, refl, Bool, true, false, List, ℕ, ◌≤◌, ◌<◌, T as Is, leb}
use Rattle.std.proofs.Common.{sym, ap, subst, ◌∙◌, le_refl, arith, le-leb, leb-true, leb-false}
use Rattle.rules.specs.Quantities.{SlotsAllowed, AtomsAllowed}
use Rattle.rules.specs.Rule.{Rule, size}
use Rattle.rules.specs.Grammar.{Says}
use Rattle.rules.specs.Table.{Node, Good, table_bytes, nodes_of}
use Rattle.rules.specs.TableTest.{good}
use Rattle.rules.proofs.TableTest.{good-complete}
use Rattle.rules.specs.Refusals.{order, place, Wins, TextRefused, ReadRefused}
use Rattle.rules.specs.Judge.{None}
use Rattle.rules.specs.Demands.{Answer, Written, Exact}
use Rattle.rules.specs.Demands.Answer.{refused, answered}
use Rattle.rules.specs.Demands.Written.{wrote}
use Rattle.rules.specs.Outcome.{require, between, read_outcome, table_checked}
use Rattle.rules.proofs.Ladder.{rung, refuse, exact_answered}
use Rattle.rules.proofs.Exactness.Tests.{between-true, between-false, at_least}
use Rattle.rules.proofs.Reading.{one-reading}
use Rattle.rules.specs.Exactness.Unrefused.{Unrefused}
use Rattle.rules.proofs.Exactness.Unrefused.{unrefused}
use Rattle.rules.proofs.Exactness.Read.{read_exact}
use Rattle.program_rule.specs.Sizes.{table_room}
use Rattle.program_rule.specs.Output.{RuleRefused, RuleExact}
use Rattle.program_rule.specs.Outcome.{Work, read_then, rule_then}
use Rattle.program_rule.proofs.Cut.{read-then}

-- ---- a good table passes the checks of T, M, the loop slot T and the table

is_true : (b : Bool) → Is b → b ≡ true
is_true true t = refl
is_true false t = absurd t

pub good-passes : {A : Type 0} (T M : ℕ) (table : List ℕ) (ns : List Node) (rest : Answer A) → SlotsAllowed T → AtomsAllowed M → Good M table ns →
    table_checked T M T table rest ≡ rest
unfolding table_checked
good-passes T M table ns rest s m g =
    rw (
      le-leb 1 T s.0,
      le-leb T 64 s.1,
      le-leb 1 M m.0,
      le-leb M 16 m.1,
      le-leb T T (le_refl T),
      is_true (good M table) (good-complete M table ns g),
    ) refl

-- ---- the reader's refusals

-- the reader's 11 comes with its 6, which comes first
text-only : (M : ℕ) (text : List ℕ) {k : ℕ} → (TextRefused M text 6 → place 6 < place k → ⊥) → ReadRefused M text table_room k → TextRefused M text k
text-only M text f (ReadRefused.text-refused t) = t
text-only M text f (ReadRefused.short {p} s h) = absurd (f (TextRefused.nodes s (omega arith)) (omega arith))

text-places : (M : ℕ) (text : List ℕ) {k : ℕ} → TextRefused M text k → (place 1 ≤ place k) × (place k ≤ place 6)
text-places M text (TextRefused.atoms x) = (omega arith, omega arith)
text-places M text (TextRefused.long x) = (omega arith, omega arith)
text-places M text (TextRefused.no_rule x) = (omega arith, omega arith)
text-places M text (TextRefused.atom-high s x) = (omega arith, omega arith)
text-places M text (TextRefused.window_bad s x) = (omega arith, omega arith)
text-places M text (TextRefused.nodes s x) = (omega arith, omega arith)

-- what holds of a rule that the reader does not refuse
of-rule : (M : ℕ) (text : List ℕ) → None (ReadRefused M text table_room) → (p : Rule) → Says text p → Unrefused M text p
of-rule M text none p says = unrefused M text (λ k x. none k (ReadRefused.text-refused x)) p says

-- ---- a program whose work on the table of a rule p is refused with 11 where it has more than `room` bytes, and else makes `made T M p`

module _ {A : Type 0} (work : Work A) (room : ℕ) (bytes : (T M : ℕ) → Rule → ℕ) (made : (T M : ℕ) → Rule → A) where
  abbrev pub Works : Type 0
  Works =
      (T M : ℕ) (p : Rule) → SlotsAllowed T → AtomsAllowed M → Good M (table_bytes (nodes_of p)) (nodes_of p) →
      work T M (size p) (table_bytes (nodes_of p)) ≡ require (leb (bytes T M p) room) 11 (answered (made T M p))

  module _ (works : Works) (T M : ℕ) (text : List ℕ) where
    abbrev Refused : ℕ → Type 0
    Refused = RuleRefused room bytes T M text

    abbrev MadeIs : A → Type 0
    MadeIs x = (p : Rule) × Says text p × (x ≡ made T M p)

    module _ (allowed : SlotsAllowed T) where
      -- the reader refuses
      read-refused : (k : ℕ) → Wins (ReadRefused M text table_room) k → Exact Refused MadeIs (refused k)
      read-refused k low = refuse order Refused MadeIs k (λ j. from) (RuleRefused.reader first)
        where
          first : TextRefused M text k
          first = text-only M text (λ x h. low.earlier 6 h (ReadRefused.text-refused x)) low.applies

          from : {j : ℕ} → Refused j → place k ≤ place j
          from (RuleRefused.slots x) = absurd (x allowed)
          from (RuleRefused.reader {k = j} x) = at_least (place j) (place k) (λ h. low.earlier j h (ReadRefused.text-refused x))
          from (RuleRefused.short s x) = omega (arith, (text-places M text first).1)

      -- the reader writes the table of the rule p
      module _ (p : Rule) (says : Says text p) (none : None (ReadRefused M text table_room)) where
        -- only the room can be short
        from-short : {j : ℕ} → Refused j → (place 11 ≤ place j) × (room < bytes T M p)
        from-short (RuleRefused.slots x) = absurd (x allowed)
        from-short (RuleRefused.reader {k = j} x) = absurd (none j (ReadRefused.text-refused x))
        from-short (RuleRefused.short {p = q} s x) = (omega arith, subst (λ (r : Rule). room < bytes T M r) (one-reading text q p s says) x)

        made_exact : Exact Refused MadeIs (work T M (size p) (table_bytes (nodes_of p)))
        made_exact =
            subst (Exact Refused MadeIs) (sym (let q = of-rule M text none p says in works T M p allowed q.allowed q.good-table))
            (rung order Refused MadeIs (leb (bytes T M p) room) 11 (answered (made T M p))
            (λ j x. (from-short x).0)
            (λ e. RuleRefused.short says (leb-false (bytes T M p) room e))
            (λ e. exact_answered order Refused MadeIs (made T M p)
            (λ j x. omega (arith, leb-true (bytes T M p) room e, (from-short x).1))
            (p, says, refl)
            (λ x i. ap (made T M) (one-reading text p i.0 says i.1) ∙ sym i.2)))

      read-outcome : (o : Answer Written) → read_outcome M text table_room ≡ o → Exact Refused MadeIs (read_then work T M o)
      read-outcome (refused k) e = read-refused k (((read_exact M text table_room).refuses k).0 e)
      read-outcome (answered (wrote n table)) e =
          let r = ((read_exact M text table_room).answers (wrote n table)).0 e in
          let p = r.1.0 in
          subst (λ (w : Written). Exact Refused MadeIs (read_then work T M (answered w))) (sym r.1.2) (made_exact p r.1.1 r.0)

    from-slots : {j : ℕ} → Refused j → place 1 ≤ place j
    from-slots (RuleRefused.slots x) = omega arith
    from-slots (RuleRefused.reader x) = (text-places M text x).0
    from-slots (RuleRefused.short s x) = omega arith

    exact_at : Exact Refused MadeIs (rule_then work T M text)
    exact_at =
        subst (Exact Refused MadeIs) (sym (read-then work T M text (read_outcome M text table_room) refl))
        (rung order Refused MadeIs (between 1 64 T) 1 (read_then work T M (read_outcome M text table_room))
        (λ j x. from-slots x) (λ e. RuleRefused.slots (between-false 1 64 T e))
        (λ e. read-outcome (between-true 1 64 T e) (read_outcome M text table_room) refl))

  pub rule_exact : Works → RuleExact room bytes made (rule_then work)
  rule_exact works T M text = exact_at works T M text
