-- The evaluator's checks: refusals 1, 2, 13, 7, 8 and 11.
use Rattle.std.specs.Prelude.{◌≡◌, refl, Bool, true, List, ℕ, ◌^◌, ◌≤◌, ◌<◌, leb, ltb, eqb, length, get_or, Err}
use Rattle.std.proofs.Common.{ap, ◌∙◌, arith, eqb→eq, leb-true, ltb-true}
use Rattle.lists.specs.All.{all, all_iff}
use Rattle.lists.specs.Tests.{and_left, and_right, is_true}
use Rattle.rules.specs.Demands.{Answer, Written}
use Rattle.rules.specs.Demands.Answer.{answered}
use Rattle.rules.specs.Demands.Written.{wrote}
use Rattle.rules.specs.Table.{rule_at, root}
use Rattle.rules.specs.TableRules.{NodesGood}
use Rattle.rules.specs.TableTest.{record_count, nodes_in}
use Rattle.rules.proofs.TableTest.{length-nodes_in}
use Rattle.rules.specs.Evaluation.{bit_of, truth}
use Rattle.rules.specs.Outcome.{run_good, truth_words, evaluate_outcome}
use Rattle.answers.specs.declared.Refusal.TheVariants.{Run, Room}
use Rattle.table.specs.Checks.{Checked, passed, unless, check_of, after_check, require-is, checked, unless-passed, Ready}

-- refusals 8 and 11
abbrev pub own_check : (T M : ℕ) (table run : List ℕ) (room : ℕ) → Checked
own_check T M table run room = unless (run_good T M run) (Err Run) (unless (leb (length (nodes_in table)) room) (Err Room) passed)

-- what is written where no refusal applies
abbrev pub evaluated : (T L : ℕ) (table run : List ℕ) → Answer Written
evaluated T L table run =
    answered (wrote (bit_of (truth T L run (rule_at (nodes_in table) (root (nodes_in table))) 1)) (truth_words T L run (nodes_in table)))

pub outcome_is : (T M L : ℕ) (table run : List ℕ) (room : ℕ) →
    evaluate_outcome T M L table run room ≡ after_check (check_of T M L table) (after_check (own_check T M table run room) (evaluated T L table run))
unfolding evaluate_outcome
outcome_is T M L table run room =
    checked T M L table _
    ∙ ap (after_check (check_of T M L table))
    (require-is (run_good T M run) 8 (Err Run) _ (evaluated T L table run) _ refl
    (require-is (leb (length (nodes_in table)) room) 11 (Err Room) passed (evaluated T L table run) (evaluated T L table run) refl refl))

-- every node of a plan's table is as it must be
pub nodes-good : {T M L : ℕ} {table : List ℕ} → Ready T M L table → NodesGood M (nodes_in table)
nodes-good {M = M} {table = table} r i h = r.nodes i (omega (arith, length-nodes_in M table))

-- ---- what the work may count on, besides a plan

pub record Workable (T M : ℕ) (table run : List ℕ) (room : ℕ) : Type 0 where
  pub enough : T ≤ length run
  pub numbers : (s : ℕ) → s < T → get_or run s 0 < 2 ^ M
  pub room_for : record_count table ≤ room

run_long : (T M : ℕ) (run : List ℕ) → run_good T M run ≡ true → T ≤ length run
unfolding run_good
run_long T M run e =
    let t = and_left (eqb (length run) T) (all (λ i. ltb (get_or run i 0) (2 ^ M)) (length run)) (rw e tt) in
    omega (arith, eqb→eq (length run) T t)

run_small : (T M : ℕ) (run : List ℕ) → run_good T M run ≡ true → (s : ℕ) → s < T → get_or run s 0 < 2 ^ M
unfolding run_good
run_small T M run e s h =
    let f : ℕ → Bool = λ i. ltb (get_or run i 0) (2 ^ M) in
    let long = eqb→eq (length run) T (and_left (eqb (length run) T) (all f (length run)) (rw e tt)) in
    let t = (all_iff f (length run)).0 (and_right (eqb (length run) T) (all f (length run)) (rw e tt)) s (omega arith) in
    ltb-true (get_or run s 0) (2 ^ M) (is_true (f s) t)

pub workable : (T M : ℕ) (table run : List ℕ) (room : ℕ) → own_check T M table run room ≡ passed → Workable T M table run room
workable T M table run room e =
    let b = unless-passed (run_good T M run) Run _ e in
    let c = (unless-passed (leb (length (nodes_in table)) room) Room passed b.1).0 in
    record {
      enough = run_long T M run b.0;
      numbers = run_small T M run b.0;
      room_for = rw (length-nodes_in M table) at (leb-true (length (nodes_in table)) room c);
    }
