-- The starred lines are shown: computed, and by the exactness of what computes them so by the definitions.
use Rattle.std.specs.Prelude.{◌≡◌, refl, List, [], ◌∷◌, map, ℕ, ◌-◌, ◌≤◌, get_or, drop, pos, nat_abs}
use Rattle.std.proofs.Common.{sym, ap, subst, ◌∙◌, arith}
use Rattle.std.proofs.Math.Option.{some}
use Rattle.lists.specs.All.{all}
use Rattle.lists.specs.Every.{Every}
use Rattle.lists.specs.First.{first}
use Rattle.rules.specs.Rule.{Rule, size}
use Rattle.rules.specs.Table.{Node, table_bytes, nodes_of, kind_of}
use Rattle.rules.specs.TableTest.{node_in, record_good, good, nodes_in}
use Rattle.rules.proofs.TableTest.{good-nodes}
use Rattle.rules.specs.Reading.{reading}
use Rattle.rules.proofs.Reading.{reading-sound}
use Rattle.rules.specs.Reading.Lexer.{spaces, digits, value, is_numeral, token_at, sign_at}
use Rattle.rules.specs.Reading.Parser.{parse, parsed}
use Rattle.rules.specs.Truth.{Holds, endless, TruthBit}
use Rattle.rules.specs.Evaluation.{bit_of, truth}
use Rattle.rules.specs.Words.{word_from}
use Rattle.rules.specs.Judge.{Judged}
use Rattle.rules.specs.Verdicts.{verdict}
use Rattle.rules.specs.Refusals.{ReadRefused}
use Rattle.rules.specs.Demands.{Written}
use Rattle.rules.specs.Demands.Answer.{answered}
use Rattle.rules.specs.Outcome.{read_outcome, table_checked, run_good, truth_words, evaluate_outcome, judge_outcome}
use Rattle.rules.proofs.Exactness.Read.{read_exact}
use Rattle.rules.proofs.Exactness.Evaluate.{evaluate_exact, truth-bit}
use Rattle.rules.proofs.Exactness.Judge.{judge_exact}
use Rattle.rules.specs.Starred.{Line, Shown, starred, StarredShown}
use Rattle.rules.specs.Starred.Line.{truths, kinds, judged}

-- what is computed of a line: its rule, and the answer or what the line gives
abbrev Computed : Line → Type 0
Computed (truths text run gives) =
    (p : Rule) × (w : Written) × (reading text ≡ some p) × (evaluate_outcome 3 2 3 (table_bytes (nodes_of p)) run (size p) ≡ answered w) ×
    (map (λ t. bit_of (truth 3 3 run p t)) (1 ∷ 2 ∷ 3 ∷ []) ≡ gives)
Computed (kinds text gives) =
    (p : Rule) × (w : Written) × (reading text ≡ some p) × (read_outcome 2 text 1024 ≡ answered w) × (map kind_of (nodes_of p) ≡ gives)
Computed (judged text figures e gives) =
    (p : Rule) × (reading text ≡ some p) × (nodes_in (table_bytes (nodes_of p)) ≡ nodes_of p) ×
    (judge_outcome 1 1 1 (table_bytes (nodes_of p)) figures (pos e) ≡ answered gives)

bit_at : (run gives : List ℕ) (p : Rule) (t : ℕ) → 1 ≤ t → t ≤ 3 → bit_of (truth 3 3 run p t) ≡ get_or gives (t - 1) 0 →
    TruthBit (Holds (endless 3 3 run) p t) (get_or gives (t - 1) 0)
bit_at run gives p t l u e = subst (TruthBit (Holds (endless 3 3 run) p t)) e (truth-bit 3 3 (omega arith, omega arith) run p t l u)

shown : (line : Line) → Computed line → Shown line
shown (truths text run gives) (p, w, r, a, is) =
    let at : (i : ℕ) → get_or (map (λ t. bit_of (truth 3 3 run p t)) (1 ∷ 2 ∷ 3 ∷ [])) i 0 ≡ get_or gives i 0 = λ i. ap (λ (l : List ℕ). get_or l i 0) is in (
      p,
      reading-sound text p r,
      (((evaluate_exact 3 2 3 (table_bytes (nodes_of p)) run (size p)).answers w).0 a).0,
      (
        bit_at run gives p 1 (omega arith) (omega arith) (at 0),
        (bit_at run gives p 2 (omega arith) (omega arith) (at 1), (bit_at run gives p 3 (omega arith) (omega arith) (at 2), tt)),
      ),
    )
shown (kinds text gives) (p, w, r, a, is) =
    (p, reading-sound text p r, λ k x. (((read_exact 2 text 1024).answers w).0 a).0 k (ReadRefused.text-refused x), is)
shown (judged text figures e gives) (p, r, back, a) =
    let table = table_bytes (nodes_of p) in
    let (none, (ns, d, good, tol, j)) = ((judge_exact 1 1 1 table figures (pos e)).answers gives).0 a in
    let same : ns ≡ nodes_of p = good-nodes 1 table ns good ∙ back in (
      p,
      reading-sound text p r,
      none,
      subst (λ (l : List Node). Judged 1 1 1 e l figures gives) same
          (subst (λ (c : ℕ). Judged 1 1 1 c ns figures gives) (ap nat_abs (sym tol)) j),
    )

all_shown : (lines : List Line) → Every Computed lines → Every Shown lines
all_shown [] h = tt
all_shown (line ∷ lines) h = (shown line h.0, all_shown lines h.1)

computed : Every Computed starred
unfolding read_outcome reading parsed parse token_at sign_at spaces digits value is_numeral evaluate_outcome table_checked good record_good node_in nodes_in all run_good
    truth_words word_from truth judge_outcome verdict first
computed =
    let rest : Every Computed (drop 8 starred) =
    ((_, _, refl, refl, refl), ((_, _, refl, refl, refl), ((_, _, refl, refl, refl), ((_, refl, refl, refl), tt)))) in
    let others : Every Computed (drop 4 starred) =
    ((_, _, refl, refl, refl), ((_, _, refl, refl, refl), ((_, _, refl, refl, refl), ((_, _, refl, refl, refl), rest)))) in
    ((_, _, refl, refl, refl), ((_, _, refl, refl, refl), ((_, _, refl, refl, refl), ((_, _, refl, refl, refl), others))))

pub starred-shown : StarredShown
starred-shown = all_shown starred computed
