-- Proofs of what a passed verdict means.
use Rattle.std.specs.Prelude.{◌≡◌, refl, Bool, true, false, ◌↔◌, ◌⊎◌, List, [], ◌∷◌, ◌++◌, ℕ, zero, suc, ◌+◌, ◌-◌, ◌*◌, ◌/◌, ◌%◌, ◌≤◌, ◌<◌, eqb, length, get_or, take, drop, ℤ, pos, negsuc, neg_ℤ, ◌+ℤ◌, ◌-ℤ◌, ◌*ℤ◌, nat_abs, ◌≤ℤ◌}
use Rattle.std.proofs.Common.{sym, ap, subst, ◌∙◌, inl, inr, ⊎_elim, div-lt_iff_lt-mul, mod-lt, div-add-mod', arith, length-drop, take-append-drop, ext_get_or, get_or-take, get_or-drop, length-take-le}
use Rattle.std.proofs.Math.Decide.{dec_lt, ℕ_discrete}
use Rattle.std.proofs.Math.IntN.{+ℤ_idl, +ℤ_idr, -ℤ-+ℤ_cancel}
use Rattle.std.specs.Int.Signed.{clash_ℤ}
use Rattle.lists.specs.Every.{Every, every_append, at_every}
use Rattle.rules.specs.Quantities.{bit_at, one, of_truth, LoopAllowed}
use Rattle.rules.specs.Table.{Node, Good, root}
use Rattle.rules.specs.Truth.{TruthOf}
use Rattle.rules.specs.ErrorFigure.{ErrorFigures}
use Rattle.rules.proofs.Errors.Naturals.{not-below}
use Rattle.rules.proofs.Errors.Passed.{passed-is-near, rounded_run}
use Rattle.rules.specs.Evaluation.{bit_of}
use Rattle.rules.proofs.RunOfBits.{run_of, run-good, run-bit}
use Rattle.rules.specs.Rows.{Relation, Row, Meets, MeetsBy, value_at, sum_of, atom_variable, slack, looping, slack_count, variable_count, rows_of}
use Rattle.rules.specs.Rows.{slack_rows, goal_row}
use Rattle.rules.specs.Rows.Relation.{at_least, equal}
use Rattle.rules.specs.Judge.{Apart, BrokenBy, Broken, None, Verdict, no_row, row_at, OutsideAt, NotBinaryAt, BrokenAt, RootFigure, Judged}
use Rattle.rules.specs.Judge.VerdictWith.{passed}
use Rattle.rules.specs.Judge.JudgedBy.{is-outside, is-not-binary, is-broken, is-passed}
use Rattle.rules.specs.Refusals.{JudgeRefused}
use Rattle.rules.specs.Demands.{Fits, OnlyTheTruth}
use Rattle.rules.proofs.Solution.Truths.{place_lt}
use Rattle.rules.proofs.Exactness.Tests.{at_least as bounded}
use Rattle.rules.proofs.Solution.Truths.{only_the_truth}
use Rattle.rules.specs.Outcome.{judge_outcome}
use Rattle.rules.specs.Demands.{Answer}
use Rattle.headlines.proofs.Refusing.{judge_loop-allowed}
use Rattle.headlines.proofs.Answering.{judge-answers}
use Rattle.headlines.specs.Trust.{PassedNear}
use Rattle.headlines.specs.Passed.{HoldsBy, RowHolds, Passes, PassedIff, TrulyMet, PassedIsTrue, PassedMeans, PassedAtZero}

-- ---- orders that are refuted

not-apart : (e : ℕ) (b x : ℤ) → (Apart e b x → ⊥) → nat_abs (x -ℤ b) ≤ e
not-apart e b x f = bounded e (nat_abs (x -ℤ b)) f

holds_iff : (o : Relation) (e : ℕ) (b s : ℤ) → (BrokenBy o e b s → ⊥) ↔ HoldsBy o e b s
holds_iff at_least e b s = (not-below s (b -ℤ pos e), λ h k. clash_ℤ k h)
holds_iff equal e b s = (not-apart e b s, λ h k. omega arith)

-- ---- every element of a list, by its index

every-at {ℓ} : {A : Type ℓ} (P : A → Type 0) (d : A) (l : List A) → Every P l → (i : ℕ) → i < length l → P (get_or l i d)
every-at P d [] h i u = absurd (omega arith)
every-at P d (a ∷ l) h zero u = h.0
every-at P d (a ∷ l) h (suc i) u = every-at P d l h.1 i (omega arith)

-- ---- passed, and every limit, row and atom

module _ (T M L e : ℕ) (ns : List Node) (xs : List ℤ) where
  abbrev row : ℕ → Row
  row i = row_at (rows_of T M L ns) i

  inside : None (OutsideAt e xs) → (v : ℕ) → v < length xs → (neg_ℤ (pos e) ≤ℤ value_at xs v) × (value_at xs v ≤ℤ pos (one + e))
  inside h v u =
      (not-below (value_at xs v) (neg_ℤ (pos e)) (λ k. h v (u, inl k)), not-below (pos (one + e)) (value_at xs v) (λ k. h v (u, inr k)))

  binary : None (NotBinaryAt (M * T) e xs) → (v : ℕ) → v < M * T → (nat_abs (value_at xs v -ℤ pos 0) ≤ e) ⊎ (nat_abs (value_at xs v -ℤ pos one) ≤ e)
  binary h v u = go (dec_lt e (nat_abs (value_at xs v -ℤ pos 0)))
    where
      go : Dec (e < nat_abs (value_at xs v -ℤ pos 0)) → (nat_abs (value_at xs v -ℤ pos 0) ≤ e) ⊎ (nat_abs (value_at xs v -ℤ pos one) ≤ e)
      go (yes k) = inr (not-apart e (pos one) (value_at xs v) (λ l. h v (u, (k, l))))
      go (no k) = inl (omega arith)

  hold : None (BrokenAt (Broken e xs) (rows_of T M L ns)) → Every (RowHolds e xs) (rows_of T M L ns)
  hold h =
      at_every (RowHolds e xs) no_row (rows_of T M L ns)
      (λ i u. (holds_iff (row i).relation e ((row i).right *ℤ pos one) (sum_of xs (row i).terms)).0 (λ k. h i (u, k)))

  passes : {v : Verdict} (n f : ℕ) → v ≡ passed n f → Judged T M L e ns xs v → Passes T M L e ns xs
  passes n k f (is-outside h) = let z : ◌≡◌ {A = ℕ} 0 1 = cc in absurd (omega arith)
  passes n k f (is-not-binary p h) = let z : ◌≡◌ {A = ℕ} 0 1 = cc in absurd (omega arith)
  passes n k f (is-broken p q h) = let z : ◌≡◌ {A = ℕ} 0 1 = cc in absurd (omega arith)
  passes n k f (is-passed p q r x) = record { limits = inside p; binary = binary q; rows = hold r }

  not_outside : Passes T M L e ns xs → None (OutsideAt e xs)
  not_outside p v (u, inl k) = clash_ℤ k (p.limits v u).0
  not_outside p v (u, inr k) = clash_ℤ k (p.limits v u).1

  all-binary : Passes T M L e ns xs → None (NotBinaryAt (M * T) e xs)
  all-binary p v (u, (a, b)) = ⊎_elim (λ h. omega arith) (λ h. omega arith) (p.binary v u)

  none-broken : Passes T M L e ns xs → None (BrokenAt (Broken e xs) (rows_of T M L ns))
  none-broken p i (u, k) =
      (holds_iff (row i).relation e ((row i).right *ℤ pos one) (sum_of xs (row i).terms)).1
      (every-at (RowHolds e xs) no_row (rows_of T M L ns) p.rows i u) k

pub passed_iff : PassedIff
passed_iff T M L e ns xs figure figures = (
  passes T M L e ns xs (length (rows_of T M L ns)) (figure (slack T M (root ns) 1)) refl,
  λ p. is-passed (not_outside T M L e ns xs p) (all-binary T M L e ns xs p) (none-broken T M L e ns xs p) (figure, figures, refl),
)

-- ---- the run that the atoms make

abbrev is_one : ℤ → Bool
is_one (pos n) = eqb n one
is_one (negsuc n) = false

abbrev atoms_on : (T : ℕ) → List ℤ → (t a : ℕ) → Bool
atoms_on T xs t a = is_one (value_at xs (atom_variable T a t))

same_at : (z b : ℤ) → nat_abs (z -ℤ b) ≤ 0 → z ≡ b
same_at z b h = sym (-ℤ-+ℤ_cancel z b) ∙ ap (λ (x : ℤ). x +ℤ b) (zero-abs (z -ℤ b) h) ∙ +ℤ_idl b
  where
    zero-abs : (z : ℤ) → nat_abs z ≤ 0 → z ≡ pos 0
    zero-abs (pos n) h = ap pos (omega arith)
    zero-abs (negsuc n) h = absurd (omega arith)

-- a figure that is 0 or one
atom-is : (z : ℤ) → (nat_abs (z -ℤ pos 0) ≤ 0) ⊎ (nat_abs (z -ℤ pos one) ≤ 0) → z ≡ pos (bit_of (is_one z) * one)
atom-is z (inl h) = let e = same_at z (pos 0) h in rw e refl
atom-is z (inr h) = let e = same_at z (pos one) h in rw e refl

as_truth : (k : ℕ) (b : Bool) → k ≡ bit_of b → pos (k * one) ≡ pos (of_truth (eqb k 1))
as_truth k true e = rw e refl
as_truth k false e = rw e refl

by-truth : {P : Type 0} {z : ℤ} (b : Bool) → (P → z ≡ pos one) → ((P → ⊥) → z ≡ pos 0) → TruthOf P b → z ≡ pos (of_truth b)
by-truth true f g x = f x
by-truth false f g x = g x

-- a row that holds within 0 is met
met_by : (o : Relation) (b s : ℤ) → HoldsBy o 0 b s → MeetsBy o b s
met_by at_least b s h = rw (+ℤ_idr b) at h
met_by equal b s h = same_at s b h

all-met : (xs : List ℤ) (rs : List Row) → Every (RowHolds 0 xs) rs → Every (Meets one xs) rs
all-met xs [] h = tt
all-met xs (r ∷ rs) h = (met_by r.relation (r.right *ℤ pos one) (sum_of xs r.terms) h.0, all-met xs rs h.1)

-- ---- tolerance 0

module _ (T M L : ℕ) (table : List ℕ) (ns : List Node) (xs : List ℤ) (loop : LoopAllowed T L) (good : Good M table ns)
    (count : length xs ≡ variable_count T M L ns) (p : Passes T M L 0 ns xs) where
  0<T : 1 ≤ T
  0<T = omega (arith, loop)

  abbrev A : ℕ
  A = M * T

  abbrev run : List ℕ
  run = run_of T M (atoms_on T xs)

  abbrev only : OnlyTheTruth T M L one run ns (slack_rows T M L ns) (goal_row T M ns)
  only = only_the_truth T M L one loop run ns good.nodes (omega arith) good.some

  atoms : (a t : ℕ) → a < M → 1 ≤ t → t ≤ T → value_at xs (atom_variable T a t) ≡ pos (bit_at run t a * one)
  atoms a t h l u =
      atom-is (value_at xs (atom_variable T a t)) (p.binary (atom_variable T a t) (place_lt T M a t h l u))
      ∙ ap (λ (b : ℕ). pos (b * one)) (sym (run-bit T M (atoms_on T xs) a t h l u))

  A≤ : A ≤ length xs
  A≤ = omega (arith, count)

  -- the atoms' figures are their numerators
  first_part : only.atoms ≡ take A xs
  first_part =
      ext_get_or (pos 0) only.atoms (take A xs) (only.atoms_are.count ∙ sym (length-take-le A xs A≤))
      (λ i h. same i (rw only.atoms_are.count at h))
    where
      same : (i : ℕ) → i < A → value_at only.atoms i ≡ value_at (take A xs) i
      same i h =
          let n : i / T < M = (div-lt_iff_lt-mul 0<T).1 h in
          let u : suc (i % T) ≤ T = mod-lt i 0<T in
          let e : i / T * T + (suc (i % T) - 1) ≡ i = omega (arith, div-add-mod' i T) in
          subst (λ (k : ℕ). value_at only.atoms k ≡ value_at (take A xs) k) e
          (only.atoms_are.at (i / T) (suc (i % T)) n (omega arith) u ∙ sym (atoms (i / T) (suc (i % T)) n (omega arith) u)
          ∙ sym (get_or-take A xs (i / T * T + (suc (i % T) - 1)) (pos 0) (omega arith)))

  whole : only.atoms ++ drop A xs ≡ xs
  whole = ap (λ (l : List ℤ). l ++ drop A xs) first_part ∙ take-append-drop A xs

  all-rows : Every (Meets one xs) (rows_of T M L ns)
  all-rows = all-met xs (rows_of T M L ns) p.rows

  both-rows : Every (Meets one xs) (slack_rows T M L ns) × Every (Meets one xs) (goal_row T M ns ∷ [])
  both-rows = (every_append (Meets one xs) (slack_rows T M L ns) (goal_row T M ns ∷ [])).0 all-rows

  fit : Fits one (slack_count T L ns) only.atoms (slack_rows T M L ns) (drop A xs)
  fit = record {
    counted = length-drop A xs ∙ omega (arith, count);
    limits = λ v h.
        let k : A + v < length xs = omega (arith, length-drop A xs) in
        let l = p.limits (A + v) k in
        rw (get_or-drop A xs v (pos 0)) l;
    meets = rw whole both-rows.0;
  }

  slacks-are : drop A xs ≡ only.slacks
  slacks-are = only.only (drop A xs) fit

  -- a block of T slacks for each node, and behind them one for each V
  slack-is : (n t : ℕ) → value_at xs (slack T M n t) ≡ value_at only.slacks (n * T + (t - 1))
  slack-is n t =
      ap (value_at xs) (omega arith) ∙ sym (get_or-drop A xs (n * T + (t - 1)) (pos 0)) ∙ ap (λ (l : List ℤ). value_at l (n * T + (t - 1))) slacks-are

  -- the block of node n's V
  abbrev block : ℕ → ℕ
  block n = length ns + looping (take n ns)

  truly_met : TrulyMet T M L ns xs
  truly_met = record {
    run = run;
    run-good = run-good T M (atoms_on T xs);
    atoms = λ a t h l u. atoms a t h l u ∙ as_truth _ (atoms_on T xs t a) (run-bit T M (atoms_on T xs) a t h l u);
    nodes = λ n t b h l u x. slack-is n t ∙ by-truth b (only.one n t h l u) (only.zero n t h l u) x;
    kept = λ n t b h k w l u x. slack-is (block n) t ∙ by-truth b (only.kept-one n t h k w l u) (only.kept-zero n t h k w l u) x;
    rule-holds = only.goal-met.0 (rw (← slacks-are, whole) both-rows.1.0);
  }

pub passed-is-true : PassedIsTrue
passed-is-true T M L table ns xs n f loop good count j = truly_met T M L table ns xs loop good count (passes T M L 0 ns xs n f refl j)

-- ---- of a ruling

-- what passed carries
carried : {T M L e n k : ℕ} {ns : List Node} {xs : List ℤ} {v : Verdict} → v ≡ passed n k → Judged T M L e ns xs v →
    (n ≡ length (rows_of T M L ns)) × RootFigure T M ns (ErrorFigures T M L e ns) k
carried f (is-outside h) = let z : ◌≡◌ {A = ℕ} 0 1 = cc in absurd (omega arith)
carried f (is-not-binary p h) = let z : ◌≡◌ {A = ℕ} 0 1 = cc in absurd (omega arith)
carried f (is-broken p q h) = let z : ◌≡◌ {A = ℕ} 0 1 = cc in absurd (omega arith)
carried f (is-passed p q r (error, figures, is)) = (cc, (error, figures, cc))

module _ (t m l : ℕ) (table : List ℕ) (figures : List ℤ) (tolerance : ℤ) (ruling : Answer Verdict)
    (told : ruling ≡ judge_outcome t m l table figures tolerance) where
  pub passed-means : PassedMeans t m l table figures tolerance ruling
  passed-means n k = (
    λ f.
        let (none, (ns, e, good, tol, j)) = (judge-answers t m l table figures tolerance ruling told (passed n k)).0 f in
        let (count, (error, counted, root_is)) = carried refl j in
        (none, (ns, e, error, good, tol, counted, count, root_is, passes t m l e ns figures n k refl j)),
    λ x.
        let (ns, e, figure, good, tol, counted, count, root_is, p) = x.1 in
        (judge-answers t m l table figures tolerance ruling told (passed n k)).1
        (x.0, (ns, e, good, tol, rw (count, root_is) ((passed_iff t m l e ns figures figure counted).1 p))),
  )

  counted : (ns : List Node) → None (JudgeRefused t m l table figures tolerance) → Good m table ns → Dec (length figures ≡ variable_count t m l ns) →
      length figures ≡ variable_count t m l ns
  counted ns none good (yes h) = h
  counted ns none good (no h) = absurd (none 9 (JudgeRefused.miscounted good h))

  pub passed-at-zero : PassedAtZero t m l table figures tolerance ruling
  passed-at-zero n k zero_is f =
      let x = (judge-answers t m l table figures tolerance ruling told (passed n k)).0 f in
      let ns = x.1.0 in
      let z : x.1.1 ≡ 0 = ap nat_abs (sym x.1.3 ∙ zero_is) in (
        ns,
        x.1.2,
        passed-is-true t m l table ns figures n k (judge_loop-allowed t m l table figures tolerance x.0) x.1.2
            (counted ns x.0 x.1.2 (ℕ_discrete (length figures) (variable_count t m l ns)))
            (subst (λ (e : ℕ). Judged t m l e ns figures (passed n k)) z x.1.4),
      )

  pub passed-near : PassedNear t m l table figures tolerance ruling
  passed-near n k f =
      let (none, (ns, e, good, tol, j)) = (judge-answers t m l table figures tolerance ruling told (passed n k)).0 f in
      let (count, (error, counts, root_is)) = carried refl j in
      let r = rounded_run t m figures in
      let loop = judge_loop-allowed t m l table figures tolerance none in
      let long = counted ns none good (ℕ_discrete (length figures) (variable_count t m l ns)) in (
        ns,
        e,
        error,
        r.0,
        good,
        tol,
        counts,
        root_is,
        r.1,
        passed-is-near t m l e n k table ns figures error r.0 loop good long counts r.1 j,
      )
