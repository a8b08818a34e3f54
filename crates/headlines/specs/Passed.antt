-- What a passed verdict means: every limit and every row holds and every atom is 0 or 1, within the tolerance; and, with tolerance 0,
-- every slack, V's too, has its truth on the run that the atoms make, looping to L, and the rule holds at slot 1.
use Rattle.std.specs.Prelude.{◌≡◌, Bool, true, ◌↔◌, ◌⊎◌, List, ℕ, ◌+◌, ◌*◌, ◌≤◌, ◌<◌, eqb, length, ℤ, pos, neg_ℤ, ◌-ℤ◌, ◌*ℤ◌, nat_abs, ◌≤ℤ◌}
use Rattle.lists.specs.Every.{Every}
use Rattle.rules.specs.Quantities.{bit_at, zero, one, of_truth, LoopAllowed}
use Rattle.rules.specs.Table.{Node, Good, node_at, rule_at, root}
use Rattle.rules.specs.Truth.{Holds, HoldsKept, endless, TruthOf}
use Rattle.rules.specs.Rows.{Relation, Row, value_at, sum_of, atom_variable, slack, loops, loop_slack, variable_count, rows_of}
use Rattle.rules.specs.Rows.Relation.{at_least, equal}
use Rattle.rules.specs.ErrorFigure.{ErrorFigures}
use Rattle.rules.specs.Judge.{None, Verdict, Judged}
use Rattle.rules.specs.Judge.VerdictWith.{passed}
use Rattle.rules.specs.Refusals.{RunGood, JudgeRefused}
use Rattle.rules.specs.Demands.{Answer}
use Rattle.rules.specs.Demands.Answer.{answered}

-- "A ≥ row holds when its sum is at least the right side times 1,000,000, less e. An = row holds when the difference is at most e either way."
abbrev pub HoldsBy : Relation → (e : ℕ) → (right sum : ℤ) → Type 0
HoldsBy at_least e b s = (b -ℤ pos e) ≤ℤ s
HoldsBy equal e b s = nat_abs (s -ℤ b) ≤ e

abbrev pub RowHolds : (e : ℕ) → List ℤ → Row → Type 0
RowHolds e xs r = HoldsBy r.relation e (r.right *ℤ pos one) (sum_of xs r.terms)

pub record Passes (T M L e : ℕ) (ns : List Node) (figures : List ℤ) : Type 0 where
  pub limits : (v : ℕ) → v < length figures → (neg_ℤ (pos e) ≤ℤ value_at figures v) × (value_at figures v ≤ℤ pos (one + e))
  pub binary : (v : ℕ) → v < M * T → (nat_abs (value_at figures v -ℤ pos zero) ≤ e) ⊎ (nat_abs (value_at figures v -ℤ pos one) ≤ e)
  pub rows : Every (RowHolds e figures) (rows_of T M L ns)

-- the judge passes exactly these figures
abbrev pub PassedIff : Type 0
PassedIff =
    (T M L e : ℕ) (ns : List Node) (figures : List ℤ) (error : ℕ → ℕ) → ErrorFigures T M L e ns error →
    Judged T M L e ns figures (passed (length (rows_of T M L ns)) (error (slack T M (root ns) 1))) ↔ Passes T M L e ns figures

-- the run of the atoms, and what the figures say of it
pub record TrulyMet (T M L : ℕ) (ns : List Node) (figures : List ℤ) : Type 0 where
  pub run : List ℕ
  pub run-good : RunGood T M run
  pub atoms : (a t : ℕ) → a < M → 1 ≤ t → t ≤ T → value_at figures (atom_variable T a t) ≡ pos (of_truth (eqb (bit_at run t a) 1))
  pub nodes : (n t : ℕ) (b : Bool) → n < length ns → 1 ≤ t → t ≤ T →
      TruthOf (Holds (endless T L run) (rule_at ns n) t) b → value_at figures (slack T M n t) ≡ pos (of_truth b)
  -- request N8: "with V among the slacks"
  pub kept : (n t : ℕ) (b : Bool) → n < length ns → loops (node_at ns n) ≡ true → L < T → 1 ≤ t → t ≤ T →
      TruthOf (HoldsKept T (endless T L run) (rule_at ns n) t) b → value_at figures (loop_slack T M ns n t) ≡ pos (of_truth b)
  pub rule-holds : Holds (endless T L run) (rule_at ns (root ns)) 1

-- figures passed with tolerance 0 are the truth, and the rule is met
abbrev pub PassedIsTrue : Type 0
PassedIsTrue =
    (T M L : ℕ) (table : List ℕ) (ns : List Node) (figures : List ℤ) (n f : ℕ) → LoopAllowed T L → Good M table ns →
    length figures ≡ variable_count T M L ns → Judged T M L 0 ns figures (passed n f) → TrulyMet T M L ns figures

-- ---- of a ruling that meets the judge's contract

-- the judge passes exactly where nothing refuses and every limit, every row and every atom is right within the tolerance
abbrev pub PassedMeans : (t m l : ℕ) (table : List ℕ) (figures : List ℤ) (tolerance : ℤ) (ruling : Answer Verdict) → Type 0
PassedMeans t m l table figures tolerance ruling =
    (n f : ℕ) → (ruling ≡ answered (passed n f)) ↔
    (None (JudgeRefused t m l table figures tolerance) ×
    ((ns : List Node) × (e : ℕ) × (error : ℕ → ℕ) × Good m table ns × (tolerance ≡ pos e) × ErrorFigures t m l e ns error ×
    (n ≡ length (rows_of t m l ns)) × (f ≡ error (slack t m (root ns) 1)) × Passes t m l e ns figures))

-- figures passed with tolerance 0: the bridge from the judge to the rule
abbrev pub PassedAtZero : (t m l : ℕ) (table : List ℕ) (figures : List ℤ) (tolerance : ℤ) (ruling : Answer Verdict) → Type 0
PassedAtZero t m l table figures tolerance ruling =
    (n f : ℕ) → tolerance ≡ pos 0 → ruling ≡ answered (passed n f) → (ns : List Node) × Good m table ns × TrulyMet t m l ns figures
