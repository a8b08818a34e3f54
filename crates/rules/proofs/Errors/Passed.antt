-- Figures that the judge passes are within their error figures of the truth on the rounded run.
use Rattle.std.specs.Prelude.{◌≡◌, refl, Bool, true, false, cond, ◌||◌, List, [], ◌∷◌, ℕ, ◌+◌, ◌-◌, ◌*◌, ◌≤◌, ◌<◌, min, T as Is, eqb, ltb, length, ℤ, pos, ◌-ℤ◌, nat_abs}
use Rattle.std.proofs.Common.{ap, ◌∙◌, mul-le-mul_right, arith, ltb→lt, nltb→le}
use Rattle.lists.specs.Every.{Every, every_append, at_every}
use Rattle.rules.specs.Quantities.{one, of_truth, LoopAllowed}
use Rattle.rules.specs.Table.{Node, node_at, rule_at, root}
use Rattle.rules.specs.TableRules.{NodesGood}
use Rattle.rules.specs.Truth.{Holds, HoldsKept, endless, TruthOf}
use Rattle.rules.specs.Evaluation.{bit_of, bit_set, truth}
use Rattle.rules.proofs.Evaluation.{kept, next_truth, truth-holds, kept-holds, truth_now, kept-now}
use Rattle.rules.specs.Rows.{value_at, atom_variable, slack, loops, loop_slack, variable_count, goes_on, next_slack, rows_of, slack_rows, goal_row}
use Rattle.rules.specs.Judge.{Broken, None, no_row, row_at, OutsideAt, NotBinaryAt, BrokenAt}
use Rattle.rules.specs.Judge.JudgedBy.{is-passed}
use Rattle.rules.proofs.RunOfBits.{run_of, run-good, run-bit}
use Rattle.rules.proofs.Exactness.Tests.{at_least as bounded}
use Rattle.rules.proofs.Solution.Ranked.{by_rank}
use Rattle.rules.proofs.Solution.Truths.{place_lt, every-row}
use Rattle.rules.specs.ErrorFigure.{ErrorFigures}
use Rattle.rules.specs.Demands.{Rounded, trust_limit, PassedIsNear, RoundedRun}
use Rattle.rules.proofs.Errors.Naturals.{Held, Near, up_at, down_at, unbroken-held, inside, near_iff}
use Rattle.rules.specs.Errors.Sums.{sum_over}
use Rattle.rules.proofs.Errors.Parts.{parts_at, loop_parts_at, node-below, loop-below, figure-is, kept-figure-is}
use Rattle.rules.proofs.Errors.Nearness.{NearBy, near-node, near-kept}

-- a figure within e of 0 or 1,000,000 is within e of the nearer of the two
nearer : (xs : List ℤ) (e v : ℕ) → ((e < nat_abs (value_at xs v -ℤ pos 0)) × (e < nat_abs (value_at xs v -ℤ pos one)) → ⊥) →
    Near one (up_at xs) (down_at xs) e v (ltb (nat_abs (value_at xs v -ℤ pos one)) (nat_abs (value_at xs v -ℤ pos 0)))
nearer xs e v f = go (ltb (nat_abs (value_at xs v -ℤ pos one)) (nat_abs (value_at xs v -ℤ pos 0))) refl
  where
    go : (b : Bool) → ltb (nat_abs (value_at xs v -ℤ pos one)) (nat_abs (value_at xs v -ℤ pos 0)) ≡ b → Near one (up_at xs) (down_at xs) e v b
    go true h = (near_iff xs e v true).0
        (bounded e _ (λ l. let z = ltb→lt (nat_abs (value_at xs v -ℤ pos one)) (nat_abs (value_at xs v -ℤ pos 0)) (rw h tt) in f (omega arith, l)))
    go false h = (near_iff xs e v false).0
        (bounded e _ (λ l. let z = nltb→le (nat_abs (value_at xs v -ℤ pos one)) (nat_abs (value_at xs v -ℤ pos 0)) (rw h tt) in f (l, omega arith)))

bit-set : (b : Bool) → eqb (cond b 1 0) 1 ≡ b
bit-set true = refl
bit-set false = refl

-- a slack: a node at a slot, or the node's V there
data Slack : Type 0 where
  own kept-to-T : (n t : ℕ) → Slack

module _ (T M L e : ℕ) (ns : List Node) (xs : List ℤ) (f : ℕ → ℕ) (run : List ℕ) (loop : LoopAllowed T L) (good : NodesGood M ns)
    (count : length xs ≡ variable_count T M L ns)
    (figures : ErrorFigures T M L e ns f) (rounded : Rounded T M xs run)
    (limits : None (OutsideAt e xs)) (binary : None (NotBinaryAt (M * T) e xs)) (rows : None (BrokenAt (Broken e xs) (rows_of T M L ns))) where
  abbrev N : ℕ
  N = length ns

  abbrev u : ℕ → ℕ
  u = up_at xs

  abbrev d : ℕ → ℕ
  d = down_at xs

  held : Every (Held one e u d) (rows_of T M L ns)
  held = at_every (Held one e u d) no_row (rows_of T M L ns) (λ i h. unbroken-held xs e (row_at (rows_of T M L ns) i) (λ k. rows i (h, k)))

  both : Every (Held one e u d) (slack_rows T M L ns) × Every (Held one e u d) (goal_row T M ns ∷ [])
  both = (every_append (Held one e u d) (slack_rows T M L ns) (goal_row T M ns ∷ [])).0 held

  near-atom : (a t : ℕ) → a < M → 1 ≤ t → t ≤ T → NearBy one e u d f (atom_variable T a t) (bit_set run t a)
  near-atom a t h l v small =
      let w = atom_variable T a t in
      let place = place_lt T M a t h l v in
      let b = ltb (nat_abs (value_at xs w -ℤ pos one)) (nat_abs (value_at xs w -ℤ pos 0)) in
      let set : bit_set run t a ≡ b = ap (λ (x : ℕ). eqb x 1) (rounded.at a t h l v) ∙ bit-set b in
      rw (figures.atoms w place, set) (nearer xs e w (λ k. binary w (place, k)))

  abbrev Ok : Slack → Type 0
  Ok (own n t) = n < N → 1 ≤ t → t ≤ T → NearBy one e u d f (slack T M n t) (truth T L run (rule_at ns n) t)
  Ok (kept-to-T n t) = n < N → loops (node_at ns n) ≡ true → L < T → 1 ≤ t → t ≤ T → NearBy one e u d f (loop_slack T M ns n t) (kept T L run (rule_at ns n) t)

  abbrev rank : Slack → ℕ
  rank (own n t) = n * (T + T) + (T + (T - t))
  rank (kept-to-T n t) = n * (T + T) + (T - t)

  abbrev Lower : Slack → Type 0
  Lower x = (z : Slack) → rank z < rank x → Ok z

  parts-near : (n : ℕ) → n < N → (x : Slack) → n * (T + T) ≤ rank x → Lower x → (c s : ℕ) → c < n → 1 ≤ s → s ≤ T →
      NearBy one e u d f (slack T M c s) (truth T L run (rule_at ns c) s)
  parts-near n h x r lower c s z i j = lower (own c s) (omega (arith, mul-le-mul_right (T + T) z)) (omega arith) i j

  next-near : (n t : ℕ) → n < N → 1 ≤ t → t ≤ T → loops (node_at ns n) ≡ true → Lower (own n t) → goes_on T L t ≡ true →
      NearBy one e u d f (next_slack T M L ns n t) (next_truth T L run (rule_at ns n) t)
  next-near n t h l v k lower g = go (ltb t T) (ltb L T) refl refl g
    where
      go : (b c : Bool) → ltb t T ≡ b → ltb L T ≡ c → (b || c) ≡ true →
          NearBy one e u d f (cond b (slack T M n (t + 1)) (loop_slack T M ns n L)) (cond b (truth T L run (rule_at ns n) (t + 1)) (kept T L run (rule_at ns n) L))
      go true c x y z = let w = ltb→lt t T (rw x tt) in lower (own n (t + 1)) (omega arith) h (omega arith) (omega arith)
      go false true x y z = lower (kept-to-T n L) (omega arith) h k (ltb→lt L T (rw y tt)) loop.0 loop.1
      go false false x y z = let w : ◌≡◌ {A = ℕ} 0 1 = cc in absurd (omega arith)

  own-step : (n t : ℕ) → Lower (own n t) → Ok (own n t)
  own-step n t lower h l v small =
      let P = slack T M n t in
      let total = e + sum_over f (parts_at T M L ns n (node_at ns n) t) in
      let is : f P ≡ min one total = figure-is T M L e ns loop f good figures n t h l v in
      let same : f P ≡ total = omega arith in
      let low = inside xs e P (λ k. limits P (rw count (node-below T M L ns loop n t h l v n t h l v), k)) in
      rw (same, truth_now T M L run ns good n t h v)
      (near-node one e u d f T M L ns n t l v (λ c. truth T L run (rule_at ns c)) (parts-near n h (own n t) (omega arith) lower)
      loop low.0 low.1 (bit_set run t)
      (next_truth T L run (rule_at ns n) t) (λ a z. near-atom a t z l v) (node_at ns n) (λ k g. next-near n t h l v k lower g) (good n h) (omega arith)
      (((every-row (Held one e u d) T M L ns).0 both.0 n h).1 t l v))

  kept_step : (n t : ℕ) → Lower (kept-to-T n t) → Ok (kept-to-T n t)
  kept_step n t lower h k w l v small =
      let P = loop_slack T M ns n t in
      let total = e + sum_over f (loop_parts_at T M ns n (node_at ns n) t) in
      let is : f P ≡ min one total = kept-figure-is T M L e ns loop f good figures n t h l v k w in
      let same : f P ≡ total = omega arith in
      let low = inside xs e P (λ i. limits P (rw count (loop-below T M L ns loop n t h l v k w t l v), i)) in
      rw (same, kept-now T M L run ns good n t h v k)
      (near-kept one e u d f T M L ns n t l v (λ c. truth T L run (rule_at ns c)) (parts-near n h (kept-to-T n t) (omega arith) lower) low.0 low.1
      (kept T L run (rule_at ns n) (t + 1))
      (λ c. let z = ltb→lt t T (rw c tt) in lower (kept-to-T n (t + 1)) (omega arith) h k w (omega arith) (omega arith)) (node_at ns n) k
      (good n h) (omega arith)
      (((every-row (Held one e u d) T M L ns).0 both.0 n h).0 w t l v))

  step : (x : Slack) → Lower x → Ok x
  step (own n t) = own-step n t
  step (kept-to-T n t) = kept_step n t

  near : (x : Slack) → Ok x
  near = by_rank rank Ok step

  -- from the truth as a test to the truth
  distance : (P : Type 0) (v k : ℕ) (c : Bool) → (P → Is c) → (Is c → P) → Near one u d k v c → (b : Bool) → TruthOf P b →
      nat_abs (value_at xs v -ℤ pos (of_truth b)) ≤ k
  distance P v k true to from z true y = (near_iff xs k v true).1 z
  distance P v k true to from z false y = absurd (y (from tt))
  distance P v k false to from z true y = absurd (to y)
  distance P v k false to from z false y = (near_iff xs k v false).1 z

  -- the goal row: the root is within e of 1,000,000, and so not within its error figure, which is e or more, of 0
  satisfied : 1 ≤ N → f (slack T M (root ns) 1) < trust_limit → Holds (endless T L run) (rule_at ns (root ns)) 1
  satisfied some small =
      (truth-holds T L loop run (rule_at ns (root ns)) 1 (omega arith) (omega (arith, loop))).1
      (go (truth T L run (rule_at ns (root ns)) 1) (near (own (root ns) 1) (omega arith) (omega arith) (omega (arith, loop)) (omega arith)))
    where
      go : (b : Bool) → Near one u d (f (slack T M (root ns) 1)) (slack T M (root ns) 1) b → Is b
      go true z = tt
      go false z =
          let is = figure-is T M L e ns loop f good figures (root ns) 1 (omega arith) (omega arith) (omega (arith, loop)) in
          let goal = both.1.0 in
          absurd (omega arith)

  within : (n t : ℕ) (b : Bool) → n < N → 1 ≤ t → t ≤ T → f (slack T M n t) < one → TruthOf (Holds (endless T L run) (rule_at ns n) t) b →
      nat_abs (value_at xs (slack T M n t) -ℤ pos (of_truth b)) ≤ f (slack T M n t)
  within n t b h l v small bit =
      let iff = truth-holds T L loop run (rule_at ns n) t l v in
      distance (Holds (endless T L run) (rule_at ns n) t) (slack T M n t) (f (slack T M n t)) (truth T L run (rule_at ns n) t) iff.0 iff.1
      (near (own n t) h l v small) b bit

  kept-within : (n t : ℕ) (b : Bool) → n < N → loops (node_at ns n) ≡ true → L < T → 1 ≤ t → t ≤ T → f (loop_slack T M ns n t) < one →
      TruthOf (HoldsKept T (endless T L run) (rule_at ns n) t) b → nat_abs (value_at xs (loop_slack T M ns n t) -ℤ pos (of_truth b)) ≤ f (loop_slack T M ns n t)
  kept-within n t b h k w l v small bit =
      let iff = kept-holds T L loop run (rule_at ns n) t l v in
      distance (HoldsKept T (endless T L run) (rule_at ns n) t) (loop_slack T M ns n t) (f (loop_slack T M ns n t))
      (kept T L run (rule_at ns n) t) iff.0 iff.1
      (near (kept-to-T n t) h k w l v small) b bit

pub passed-is-near : PassedIsNear
passed-is-near T M L e count carried table ns xs f run loop good length-is figures rounded (is-passed limits binary rows (error, own-figures, is)) = record {
  within = within T M L e ns xs f run loop good.nodes length-is figures rounded limits binary rows;
  kept-within = kept-within T M L e ns xs f run loop good.nodes length-is figures rounded limits binary rows;
  satisfied = λ low. satisfied T M L e ns xs error run loop good.nodes length-is own-figures rounded limits binary rows good.some (rw is at low);
}

-- ---- figures can always be rounded

abbrev nearer_one : (T : ℕ) → List ℤ → (t a : ℕ) → Bool
nearer_one T xs t a = let x = value_at xs (atom_variable T a t) in ltb (nat_abs (x -ℤ pos one)) (nat_abs (x -ℤ pos 0))

pub rounded_run : RoundedRun
rounded_run T M xs = (run_of T M on, record { run-good = run-good T M on; at = λ a t h l u. run-bit T M on a t h l u ∙ as_number (on t a) })
  where
    on : ℕ → ℕ → Bool
    on = nearer_one T xs

    as_number : (b : Bool) → bit_of b ≡ cond b 1 0
    as_number true = refl
    as_number false = refl
