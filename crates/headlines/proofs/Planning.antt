-- From what read, write_rows and evaluate answer and write, called one after the other, to what is answered and written in all, and to demand 3.
use Rattle.std.specs.Prelude.{◌≡◌, refl, List, ℕ, ◌*◌, ◌≤◌, length, take}
use Rattle.std.proofs.Common.{sym, ap, ap₂, subst, ◌∙◌, arith}
use Rattle.std.proofs.Math.Path.{subst⁻¹}
use Rattle.rules.specs.Rule.{Rule, size}
use Rattle.rules.specs.Grammar.{Says}
use Rattle.rules.proofs.Reading.{one-reading}
use Rattle.rules.specs.Table.{Node, Good, table_bytes, nodes_of, rule_at, root}
use Rattle.rules.proofs.TableRules.{length-nodes_from}
use Rattle.rules.specs.Truth.{Holds, endless, TruthBit, TruthWords}
use Rattle.rules.specs.Rows.{rows_of, rows_bytes}
use Rattle.rules.specs.Judge.{None}
use Rattle.rules.specs.Refusals.{TextRefused, EvaluateRefused}
use Rattle.rules.specs.Demands.{Answer, Written, Demand3At}
use Rattle.rules.specs.Demands.Answer.{refused, answered}
use Rattle.rules.specs.Demands.Written.{wrote}
use Rattle.rules.specs.Outcome.{returned, buffer, read_outcome, rows_outcome, evaluate_outcome}
use Rattle.rules.proofs.Exactness.Read.{read_exact}
use Rattle.rules.proofs.Exactness.Rows.{rows_exact}
use Rattle.rules.proofs.Exactness.Evaluate.{evaluate_exact}
use Rattle.rules.proofs.Exactness.Unrefused.{unrefused}
use Rattle.rules.proofs.Solution.Bytes.{demand3}
use Rattle.headlines.specs.Demand2.{Holding}
use Rattle.headlines.specs.Demand3.{Plan, TableRead, RowsWritten, Planning, Demanded}
use Rattle.headlines.specs.Demand3.Planning.{unread, unwritten, unevaluated, done}
use Rattle.headlines.proofs.Refusing.{reader-refuses, row-writer-refuses, evaluator-refuses}
use Rattle.headlines.proofs.Answering.{row-writer-answers, evaluator-answers}
use Rattle.headlines.proofs.TableLeft.{table-long, held, TableLeft, table-left}

-- ---- the four ends of the function

module _ (t m l : ℕ) (text run table rows truth table' : List ℕ) (left : table' ≡ buffer (read_outcome m text (length table)) table) where
  pub read-refused : (k : ℕ) → refused k ≡ returned (read_outcome m text (length table)) →
      Planning t m l text run table rows truth table' rows truth (refused k)
  read-refused k e =
      let r = reader-refuses m text (refused k) table table' e left in
      unread ((r.first k).0 refl) refl (r.untouched k refl) refl refl

  -- after the reader's value n
  module _ (n : ℕ) (e : answered n ≡ returned (read_outcome m text (length table))) where
    abbrev written : TableLeft m text table table' n
    written = table-left m text table table' left n e

    abbrev p : Rule
    p = written.rule

    abbrev ns : List Node
    ns = nodes_of p

    -- the table handed on has p's nodes
    same_nodes : (ms : List Node) → Good m (take (8 * n) table') ms → ms ≡ ns
    same_nodes ms good = written.holds.nodes-alone ms (rw written.handed at good)

    pub read-room : (8 * n ≤ length table) × (length table' ≡ length table)
    read-room = written.room

    -- the rows that the row writer leaves
    module _ (rows' : List ℕ) (put : rows' ≡ buffer (rows_outcome t m l (take (8 * n) table') (length rows)) rows) where
      pub rows-refused : (k : ℕ) → refused k ≡ returned (rows_outcome t m l (take (8 * n) table') (length rows)) →
          Planning t m l text run table rows truth table' rows' truth (refused k)
      rows-refused k h =
          let r = row-writer-refuses t m l (take (8 * n) table') (refused k) rows rows' h put in
          unwritten written.read (rw written.handed at ((r.first k).0 refl)) refl (r.untouched k refl) refl

      module _ (count : ℕ) (h : answered count ≡ returned (rows_outcome t m l (take (8 * n) table') (length rows))) where
        rows_written : (count ≡ length (rows_of t m l ns)) × RowsWritten t m l rows rows' p
        rows_written =
            let (none, (ms, good, counted, holds)) = (row-writer-answers t m l (take (8 * n) table') (answered count) rows rows' h put count).0 refl in
            let same = same_nodes ms good in (
              counted ∙ ap (λ (x : List Node). length (rows_of t m l x)) same,
              (rw written.handed at none, subst (λ (x : List Node). Holding (rows_bytes (rows_of t m l x)) rows rows') same holds),
            )

        -- the words that the evaluator leaves
        module _ (truth' : List ℕ) (set : truth' ≡ buffer (evaluate_outcome t m l (take (8 * n) table') run (length truth)) truth) where
          pub evaluate-refused : (k : ℕ) → refused k ≡ returned (evaluate_outcome t m l (take (8 * n) table') run (length truth)) →
              Planning t m l text run table rows truth table' rows' truth' (refused k)
          evaluate-refused k i =
              let r = evaluator-refuses t m l (take (8 * n) table') run (refused k) truth truth' i set in
              unevaluated written.read rows_written.1 (rw written.handed at ((r.first k).0 refl)) refl (r.untouched k refl)

          pub all_done : (v : ℕ) → answered v ≡ returned (evaluate_outcome t m l (take (8 * n) table') run (length truth)) →
              Planning t m l text run table rows truth table' rows' truth' (answered (Plan.planned n count v))
          all_done v i =
              let (none, (ms, words, good, truths, bit, holds)) =
              (evaluator-answers t m l (take (8 * n) table') run (answered v) truth truth' i set v).0 refl in
              let same = same_nodes ms good in
              let root-truth = subst (λ (x : List Node). TruthBit (Holds (endless t l run) (rule_at x (root x)) 1) v) same bit in
              let rule-truth = subst (λ (r : Rule). TruthBit (Holds (endless t l run) r 1) v) written.holds.root-rule root-truth in
              done written.read rows_written.1 (rw written.handed at none)
              (subst (λ (x : List Node). TruthWords t l run x words) same truths) rule-truth
              (ap₂ (λ (i j : ℕ). answered (Plan.planned i j v)) written.nodes rows_written.0) holds

-- ---- demand 3

module _ (t m l : ℕ) (text run table rows truth table' rows' truth' : List ℕ) (answer : Answer Plan) (D : ℕ) (ok : None (TextRefused m text)) where
  -- what the three outcomes are of a rule's text, and what demand 3 says of the function's answer
  abbrev Outcomes : Rule → Type 0
  Outcomes p =
      (first second third : List ℕ) × (count v : ℕ) ×
      (read_outcome m text (length table) ≡ answered (wrote (size p) first)) ×
      (rows_outcome t m l first (length rows) ≡ answered (wrote count second)) ×
      (evaluate_outcome t m l first run (length truth) ≡ answered (wrote v third)) ×
      Demand3At t m l D run p first count second v third

  abbrev Due : Rule → Type 0
  Due p =
      (count v : ℕ) × (answer ≡ answered (Plan.planned (size p) count v)) ×
      Demand3At t m l D run p (take (8 * size p) table') count (take (length (rows_bytes (rows_of t m l (nodes_of p)))) rows') v (take (size p) truth')

  module _ (p : Rule) (words : List ℕ) (v : ℕ) where
    abbrev parts : List Node
    parts = nodes_of p

    due : Outcomes p → TableRead m text table table' p → RowsWritten t m l rows rows' p →
        None (EvaluateRefused t m l (table_bytes parts) run (length truth)) → TruthWords t l run parts words → TruthBit (Holds (endless t l run) p 1) v →
        answer ≡ answered (Plan.planned (size p) (length (rows_of t m l parts)) v) → Holding words truth truth' → Due p
    due (first, second, third, count, u, e, f, g, at) (none₁, says, held₁) (none₂, held₂) none₃ truths bit is held₃ =
        let good = (unrefused m text ok p says).good-table in
        let root-bit = subst⁻¹ (λ (r : Rule). TruthBit (Holds (endless t l run) r 1) v) (unrefused m text ok p says).root-rule bit in
        let wrote₂ = wrote (length (rows_of t m l parts)) (rows_bytes (rows_of t m l parts)) in
        let f' = ((rows_exact t m l (table_bytes parts) (length rows)).answers wrote₂).1 (none₂, (parts, good, refl)) in
        let g' =
        ((evaluate_exact t m l (table_bytes parts) run (length truth)).answers (wrote v words)).1 (none₃, (parts, v, words, good, truths, root-bit, refl)) in
        let same₂ : ◌≡◌ {A = Answer Written} (answered (wrote count second)) (answered wrote₂) = sym f ∙ rw at.table_is f' in
        let same₃ : ◌≡◌ {A = Answer Written} (answered (wrote u third)) (answered (wrote v words)) = sym g ∙ rw at.table_is g' in
        let counted : count ≡ length (rows_of t m l parts) = cc same₂ in
        let second_is : second ≡ rows_bytes (rows_of t m l parts) = cc same₂ in
        let truth-is : u ≡ v = cc same₃ in
        let third-is : third ≡ words = cc same₃ in
        let r₁ : take (8 * size p) table' ≡ first = held (8 * size p) (table_bytes parts) table table' held₁ (table-long p) ∙ sym at.table_is in
        let r₂ : take (length (rows_bytes (rows_of t m l parts))) rows' ≡ second =
        held (length (rows_bytes (rows_of t m l parts))) (rows_bytes (rows_of t m l parts)) rows rows' held₂ refl ∙ sym second_is in
        let r₃ : take (size p) truth' ≡ third = held (size p) words truth truth' held₃ (truths.count ∙ length-nodes_from 0 p) ∙ sym third-is in
        (count, u, is ∙ rw (counted, truth-is) refl, rw (r₁, r₂, r₃) at)

  -- a refusal is none of the three outcomes
  given : (p : Rule) → Says text p → Outcomes p → Planning t m l text run table rows truth table' rows' truth' answer → Due p
  given p says (first, second, third, count, v, e, f, g, at) (unread {k} wins x y z w) =
      let r = ((read_exact m text (length table)).refuses k).1 wins in
      let n : ◌≡◌ {A = ℕ} 0 1 = cc in absurd (omega arith)
  given p says (first, second, third, count, v, e, f, g, at) (unwritten {k} {p = q} read wins x y z) =
      let r = ((rows_exact t m l (table_bytes (nodes_of q)) (length rows)).refuses k).1 wins in
      let same = ap (λ (x : Rule). table_bytes (nodes_of x)) (one-reading text q p read.1 says) ∙ sym at.table_is in
      let h = sym (rw same at r) ∙ f in
      let n : ◌≡◌ {A = ℕ} 0 1 = cc in absurd (omega arith)
  given p says (first, second, third, count, v, e, f, g, at) (unevaluated {k} {p = q} read rows_are wins x y) =
      let r = ((evaluate_exact t m l (table_bytes (nodes_of q)) run (length truth)).refuses k).1 wins in
      let same = ap (λ (x : Rule). table_bytes (nodes_of x)) (one-reading text q p read.1 says) ∙ sym at.table_is in
      let h = sym (rw same at r) ∙ g in
      let n : ◌≡◌ {A = ℕ} 0 1 = cc in absurd (omega arith)
  given p says outcomes (done {p = q} {words} {v} read rows_are none truths bit is holds) =
      let same = one-reading text q p read.1 says in
      subst Due same (due q words v (subst⁻¹ Outcomes same outcomes) read rows_are none truths bit is holds)

demanded : (t m l : ℕ) (text run table rows truth table' rows' truth' : List ℕ) (answer : Answer Plan) →
    Planning t m l text run table rows truth table' rows' truth' answer → Demanded t m l text run table rows truth table' rows' truth' answer
demanded t m l text run table rows truth table' rows' truth' answer ends ok slots loop runs D 0<D =
    let (p, says, outcomes) = demand3 m text ok t l D run slots loop runs 0<D in (
      p,
      says,
      λ a b c. given t m l text run table rows truth table' rows' truth' answer D ok p says (outcomes (length table) (length rows) (length truth) a b c) ends,
    )

-- the function's two promises
pub both : (t m l : ℕ) (text run table rows truth table' rows' truth' : List ℕ) (answer : Answer Plan) →
    Planning t m l text run table rows truth table' rows' truth' answer →
    Planning t m l text run table rows truth table' rows' truth' answer × Demanded t m l text run table rows truth table' rows' truth' answer
both t m l text run table rows truth table' rows' truth' answer ends =
    (ends, demanded t m l text run table rows truth table' rows' truth' answer ends)
