-- The checks of all calls but read, and what is known once they are passed.
use Rattle.std.specs.Prelude.{◌≡◌, refl, Bool, true, false, ◌&&◌, List, ℕ, ◌*◌, ◌≤◌, ◌<◌, leb, eqb, length, Result, Ok, Err}
use Rattle.std.proofs.Common.{sym, arith, eqb→eq}
use Rattle.lists.specs.Tests.{and_left}
use Rattle.lists.specs.All.{all}
use Rattle.rules.specs.Demands.{Answer}
use Rattle.rules.specs.Demands.Answer.{refused}
use Rattle.rules.specs.Outcome.{between, require, table_checked}
use Rattle.rules.proofs.Exactness.Tests.{between-true}
use Rattle.rules.specs.Table.{NodeGood, node_at, Node}
use Rattle.rules.specs.Table.Node.{atom, unary, binary, windowed}
use Rattle.rules.specs.TableTest.{good, record_good, record_count, nodes_in}
use Rattle.rules.proofs.TableTest.{good-sound, length-nodes_in}
use Rattle.answers.specs.Meaning.{number_of}
use Rattle.answers.specs.declared.Refusal.{Refusal}
use Rattle.answers.specs.declared.Refusal.TheVariants.{Slots, Atoms, Loop, Table}
use denote.Struct.Props.{props}

-- a check of a call: passed, or the refusal that applies
abbrev pub Checked : Type 0
Checked = Result (Unit {0}) Refusal

abbrev pub passed : Checked
passed = Ok tt

-- the refusal, unless the test passes
abbrev pub unless : Bool → Checked → Checked → Checked
unless true r rest = rest
unless false r rest = r

-- refusals 1, 2, 13 and 7: the first that applies
unfoldable pub check_of : (T M L : ℕ) → List ℕ → Checked
check_of T M L table =
    unless (between 1 64 T) (Err Slots)
    (unless (between 1 16 M) (Err Atoms) (unless (between 1 T L) (Err Loop) (unless (good M table) (Err Table) passed)))

-- what is answered after a check
abbrev pub after_check : {A : Type 0} → Checked → Answer A → Answer A
after_check (Ok _) rest = rest
after_check (Err r) rest = refused (number_of r)

-- a test that must pass, as a check
pub require-is : {A : Type 0} (b : Bool) (k : ℕ) (r other : Checked) (rest more : Answer A) → after_check r rest ≡ refused k → more ≡ after_check other rest →
    require b k more ≡ after_check (unless b r other) rest
require-is true k r other rest more e f = f
require-is false k r other rest more e f = sym e

-- the checks `more` after those that were passed
abbrev pub and_then : Checked → Checked → Checked
and_then (Ok _) more = more
and_then (Err r) more = Err r

pub after_then : {A : Type 0} (c more : Checked) (rest : Answer A) → after_check c (after_check more rest) ≡ after_check (and_then c more) rest
after_then (Ok _) more rest = refl
after_then (Err r) more rest = refl

pub then-passed : (c more : Checked) → and_then c more ≡ passed → (c ≡ passed) × (more ≡ passed)
then-passed (Ok _) more e = (refl, e)
then-passed (Err r) more e = let z : ◌≡◌ {A = ℕ} 0 1 = cc in absurd (omega arith)

pub checked : {A : Type 0} (T M L : ℕ) (table : List ℕ) (rest : Answer A) → table_checked T M L table rest ≡ after_check (check_of T M L table) rest
unfolding table_checked check_of
checked T M L table rest =
    require-is (between 1 64 T) 1 (Err Slots) _ rest _ refl
    (require-is (between 1 16 M) 2 (Err Atoms) _ rest _ refl
    (require-is (between 1 T L) 13 (Err Loop) _ rest _ refl
    (require-is (good M table) 7 (Err Table) passed rest rest refl refl)))

-- ---- what a call may count on
pub record Ready (T M L : ℕ) (table : List ℕ) : Type 0 where
  pub slots-low : 1 ≤ T
  pub slots-high : T ≤ 64
  pub loop-low : 1 ≤ L
  pub loop-high : L ≤ T
  pub atoms-low : 1 ≤ M
  pub atoms-high : M ≤ 16
  pub table-good : good M table ≡ true
  pub some-nodes : 1 ≤ record_count table
  pub few-nodes : record_count table ≤ 128
  pub whole : length table ≡ 8 * record_count table
  pub nodes : (n : ℕ) → n < record_count table → NodeGood M n (node_at (nodes_in table) n)

NodeGood-prop : (M n : ℕ) (nd : Node) → IsProp (NodeGood M n nd)
NodeGood-prop M n (atom a) = hlevel props
NodeGood-prop M n (unary u c) = hlevel props
NodeGood-prop M n (binary o l r) = hlevel props
NodeGood-prop M n (windowed w a b c) = hlevel props

-- it is known in one way at most, as a plan's ghost field asks
pub Ready-prop : (T M L : ℕ) (table : List ℕ) → IsProp (Ready T M L table)
Ready-prop T M L table = hlevel (props, NodeGood-prop)

pub unless-passed : (b : Bool) (r : Refusal) (other : Checked) → unless b (Err r) other ≡ passed → (b ≡ true) × (other ≡ passed)
unless-passed true r other e = (refl, e)
unless-passed false r other e = let z : ◌≡◌ {A = ℕ} 0 1 = cc in absurd (omega arith)

pub good-nodes-at : (M : ℕ) (table : List ℕ) → good M table ≡ true → (n : ℕ) → n < record_count table → NodeGood M n (node_at (nodes_in table) n)
good-nodes-at M table e n h = (good-sound M table (rw e tt)).nodes n (omega (arith, length-nodes_in M table))

pub good-whole : (M : ℕ) (table : List ℕ) → good M table ≡ true → length table ≡ 8 * record_count table
unfolding good
good-whole M table e =
    let N = record_count table in
    let t = and_left (eqb (8 * N) (length table) && (leb 1 N && leb N 128)) (all (record_good M table) N) (rw e tt) in
    sym (eqb→eq (8 * N) (length table) (and_left (eqb (8 * N) (length table)) (leb 1 N && leb N 128) t))

pub ready : (T M L : ℕ) (table : List ℕ) → check_of T M L table ≡ passed → Ready T M L table
unfolding check_of
ready T M L table e =
    let a = unless-passed (between 1 64 T) Slots _ e in
    let b = unless-passed (between 1 16 M) Atoms _ a.1 in
    let d = unless-passed (between 1 T L) Loop _ b.1 in
    let c = (unless-passed (good M table) Table _ d.1).0 in
    let t = between-true 1 64 T a.0 in
    let m = between-true 1 16 M b.0 in
    let l = between-true 1 T L d.0 in
    let g = good-sound M table (rw c tt) in
    let n = length-nodes_in M table in
    record {
      slots-low = t.0;
      slots-high = t.1;
      loop-low = l.0;
      loop-high = l.1;
      atoms-low = m.0;
      atoms-high = m.1;
      table-good = c;
      some-nodes = omega (arith, g.some);
      few-nodes = omega (arith, g.few);
      whole = good-whole M table c;
      nodes = good-nodes-at M table c;
    }
