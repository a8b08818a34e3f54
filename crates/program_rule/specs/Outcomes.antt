-- What an answer tells of its outcome, of the table that was read and of what is printed.
use Rattle.std.specs.Prelude.{◌≡◌, Bool, List, ◌++◌, ℕ, ◌*◌, min, ◌≤◌, ◌<◌, leb, length, take, drop}
use Rattle.std.proofs.Math.Path.{refl, sym, ap}
use Rattle.std.proofs.Common.{◌∙◌, arith, leb-true, leb-false, le-leb, length-append, take_at, take_all}
use Rattle.std.proofs.Math.Bool.{true, false}
use Rattle.std.proofs.lemmas.Bool.{lt-leb}
use Rattle.rules.specs.Rule.{size}
use Rattle.rules.specs.Table.{table_bytes, nodes_of}
use Rattle.rules.proofs.TableTest.{length-table}
use Rattle.rules.proofs.TableRules.{length-nodes_from}
use Rattle.rules.specs.Refusals.{TextRefused, ReadRefused}
use Rattle.rules.specs.Demands.{Answer, Written}
use Rattle.rules.specs.Demands.Answer.{refused, answered}
use Rattle.rules.specs.Demands.Written.{wrote}
use Rattle.rules.specs.Outcome.{returned, buffer, require, between, read_outcome}
use Rattle.rules.proofs.Exactness.Tests.{at_least}
use Rattle.rules.proofs.Exactness.Read.{read_exact}
use Rattle.answers.specs.declared.Refusal.{Refusal}
use Rattle.answers.specs.declared.Refusal.TheVariants.{Slots, Atoms, LongText, Grammar, AtomNumber, Nodes, Table, Run, Figures, Tolerance, Room, Window, Loop}
use Rattle.answers.specs.Meaning.{number_of}
use Rattle.program_input.specs.declared.Scan.{Scan}
use Rattle.program_input.specs.Scanning.{state, shaped}
use Rattle.program_rule.specs.Sizes.{table_room}
use Rattle.program_rule.specs.Output.{bad_input}
use Rattle.program_rule.specs.Outcome.{rule_outcome, Work, read_then, rule_then}
use Rattle.program_rule.specs.Shown.{shown}

-- ---- from an answer to the outcome

pub answer-refused : (o : Answer Written) (k : ℕ) → refused k ≡ returned o → o ≡ refused k
answer-refused (refused j) k e = let h : j ≡ k = cc in ap (λ (n : ℕ). refused n) h
answer-refused (answered (wrote n bytes)) k e = let z : ◌≡◌ {A = ℕ} 0 1 = cc in absurd (omega arith)

pub record Wrote (o : Answer Written) (n : ℕ) : Type 0 where
  pub bytes : List ℕ
  pub is : o ≡ answered (wrote n bytes)

pub answer-value : (o : Answer Written) (n : ℕ) → answered n ≡ returned o → Wrote o n
answer-value (refused j) n e = let z : ◌≡◌ {A = ℕ} 0 1 = cc in absurd (omega arith)
answer-value (answered (wrote m bytes)) n e =
    let h : m ≡ n = cc in
    record { bytes = bytes; is = ap (λ (k : ℕ). answered (wrote k bytes)) h }

pub number_small : (k : Refusal) → number_of k < 100000
number_small Slots = omega arith
number_small Atoms = omega arith
number_small LongText = omega arith
number_small Grammar = omega arith
number_small AtomNumber = omega arith
number_small Nodes = omega arith
number_small Table = omega arith
number_small Run = omega arith
number_small Figures = omega arith
number_small Tolerance = omega arith
number_small Room = omega arith
number_small Window = omega arith
number_small Loop = omega arith

-- ---- a rule read for T slots

pub few-slots : (T M : ℕ) (text : List ℕ) → T < 1 → rule_outcome T M text ≡ refused 1
unfolding rule_outcome
few-slots T M text h = rw (lt-leb 1 T h) refl

pub many_slots : (T M : ℕ) (text : List ℕ) → 64 < T → rule_outcome T M text ≡ refused 1
unfolding rule_outcome
many_slots T M text h = rw (le-leb 1 T (omega arith), lt-leb T 64 h) refl

-- T is allowed
pub rule-outcome : (T M : ℕ) (text : List ℕ) → 1 ≤ T → T ≤ 64 → rule_outcome T M text ≡ read_outcome M text table_room
unfolding rule_outcome
rule-outcome T M text l h = rw (le-leb 1 T l, le-leb T 64 h) refl

-- where there is an answer, the test passed, and the rest answered
pub passed : (b : Bool) (k : ℕ) (o : Answer Written) (w : Written) → require b k o ≡ answered w → (b ≡ true) × (o ≡ answered w)
passed true k o w e = (refl, e)
passed false k o w e = let z : ◌≡◌ {A = ℕ} 0 1 = cc in absurd (omega arith)

rule-answered : (T M : ℕ) (text : List ℕ) (w : Written) → rule_outcome T M text ≡ answered w → read_outcome M text table_room ≡ answered w
unfolding rule_outcome
rule-answered T M text w e = (passed (between 1 64 T) 1 (read_outcome M text table_room) w e).1

-- ---- a table that was read

pub record TableRead (n : ℕ) (bytes : List ℕ) : Type 0 where
  pub few : n ≤ 128
  pub size_is : length bytes ≡ 8 * n

table-read : (T M : ℕ) (text : List ℕ) (n : ℕ) (bytes : List ℕ) → rule_outcome T M text ≡ answered (wrote n bytes) → TableRead n bytes
table-read T M text n bytes e =
    let r = ((read_exact M text table_room).answers (wrote n bytes)).0 (rule-answered T M text (wrote n bytes) e) in
    let p = r.1.0 in
    let w : wrote n bytes ≡ wrote (size p) (table_bytes (nodes_of p)) = r.1.2 in
    let a : n ≡ size p = cc in
    let b : bytes ≡ table_bytes (nodes_of p) = cc in
    record {
      few = omega (arith, at_least 128 (size p) (λ h. r.0 6 (ReadRefused.text-refused (TextRefused.nodes r.1.1 h))));
      size_is = ap length b ∙ length-table (nodes_of p) ∙ omega (arith, length-nodes_from 0 p);
    }

-- ---- the buffer that was lent, and the bytes from its start

pub record Lent (o : Answer Written) (n size : ℕ) (l : List ℕ) : Type 0 where
  pub bytes : List ℕ
  pub is : o ≡ answered (wrote n bytes)
  pub front : take size l ≡ bytes
  pub holds : size ≤ length l

lent : (o : Answer Written) (n size : ℕ) (z l : List ℕ) (w : Wrote o n) → l ≡ buffer o z → length w.bytes ≡ size → Lent o n size l
lent o n size z l w e f =
    let g : l ≡ w.bytes ++ drop (length w.bytes) z = e ∙ ap (λ (x : Answer Written). buffer x z) w.is in
    record {
      bytes = w.bytes;
      is = w.is;
      front = ap (take size) g ∙ take_at w.bytes (drop (length w.bytes) z) size f;
      holds = omega (arith, ap length g, length-append w.bytes (drop (length w.bytes) z));
    }

-- a table read into a buffer, l after that
pub record TableReady (T M : ℕ) (text : List ℕ) (n : ℕ) (l : List ℕ) : Type 0 where
  pub table : Lent (rule_outcome T M text) n (8 * n) l
  pub read : TableRead n table.bytes

pub table-ready : (T M : ℕ) (text z l : List ℕ) (n : ℕ) → answered n ≡ returned (rule_outcome T M text) → l ≡ buffer (rule_outcome T M text) z →
    TableReady T M text n l
table-ready T M text z l n e f =
    let w = answer-value (rule_outcome T M text) n e in
    let t = lent (rule_outcome T M text) n (8 * n) z l w f (table-read T M text n w.bytes w.is).size_is in
    record { table = t; read = table-read T M text n t.bytes t.is }

-- ---- what is made of the rule

module _ {A : Type 0} (work : Work A) (T M : ℕ) (text : List ℕ) where
  rule_read : (o : Answer Written) → rule_outcome T M text ≡ o → rule_then work T M text ≡ read_then work T M o
  unfolding rule_then
  rule_read o e = ap (read_then work T M) e

  pub rule_refused : (k : ℕ) → refused k ≡ returned (rule_outcome T M text) → rule_then work T M text ≡ refused k
  rule_refused k e = rule_read (refused k) (answer-refused (rule_outcome T M text) k e)

  pub rule_worked : (n : ℕ) (l : List ℕ) → TableReady T M text n l → rule_then work T M text ≡ work T M n (take (8 * n) l)
  rule_worked n l t = rule_read (answered (wrote n t.table.bytes)) t.table.is ∙ ap (work T M n) (sym t.table.front)

-- ---- what is printed of a state

pub take-least : (n k : ℕ) (l : List ℕ) → n ≡ min k (length l) → take n l ≡ take k l
take-least n k l e = go (leb k (length l)) refl
  where
    go : (b : Bool) → leb k (length l) ≡ b → take n l ≡ take k l
    go true f = let h = leb-true k (length l) f in let g : n ≡ k = omega arith in ap (λ (i : ℕ). take i l) g
    go false f = let h = leb-false k (length l) f in take_all n l (omega arith) ∙ sym (take_all k l (omega arith))

module _ (print : (T M : ℕ) (text : List ℕ) → List ℕ) (s : Scan) (text : List ℕ) (b : Bool) (test : b ≡ shaped s.stage) where
  pub shown-rule : (n : ℕ) → b ≡ true → n ≡ min s.kept (length text) → shown print (state s text) ≡ print s.slots s.atoms (take n text)
  unfolding shown
  shown-rule n f g =
      let h : shaped s.stage ≡ true = sym test ∙ f in
      rw (h, take-least n s.kept text g) refl

  pub shown_bad : b ≡ false → shown print (state s text) ≡ bad_input
  unfolding shown
  shown_bad f = let h : shaped s.stage ≡ false = sym test ∙ f in rw h refl
