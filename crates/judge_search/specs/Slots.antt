-- The rows of a block, tested slot by slot.
use Rattle.std.specs.Prelude.{◌≡◌, refl, Bool, true, false, List, ℕ, ◌+◌, ◌-◌, ◌*◌, ◌≤◌, ◌<◌, ℤ, Ok}
use Rattle.std.proofs.Common.{sym, ◌∙◌, lt-ltb, le-ltb}
use Rattle.std.proofs.Math.Path.{ap}
use native.Mathlib.Omega.{arith}
use Rattle.lists.specs.Flat.{flat, flat-same}
use Rattle.rules.specs.Rule.Window.{within, throughout}
use Rattle.rules.specs.Rows.{Row, same_rows, not_rows, and_rows, or_rows, implies_rows, until_rows}
use Rattle.table.specs.declared.Kind.TheVariants.{Atom, Not, And, Or, Implies, Eventually, Always, Until, Within, Throughout}
use Rattle.table.specs.declared.Kind.{Kind}
use Rattle.judge_sums.specs.declared.WindowKind.{WindowKind}
use Rattle.judge_sums.specs.declared.WindowKind.TheVariants as Over
use Rattle.judge_slot.specs.Windows.{window_of}
use Rattle.row.specs.declared.Block.{Block}
use Rattle.row.specs.Kinds.{over_rows, window_at, followed, following, followed-inner, followed-last}
use Rattle.row.specs.NodeRows.{loops_of, next_of, block_on, block_rows}
use Rattle.judge_slot.specs.Counts as Counts
use Rattle.judge_slot.specs.Searches.{Search, tested, reached, over, Tested, tested-start, tested-more, over-rest}

-- k slots, after `count` rows
abbrev pub Room : (count k : ℕ) → Type 0
Room count k = (k ≤ 64) × (count ≤ Counts.before_block)

-- ---- a loop over the slots, in which each slot's rows are tested

module _ (e : ℕ) (f : Row → ℤ) (s : Search) (g : ℕ → List Row) where
  -- those of the first k are
  pub record Passing (k : ℕ) (x : Search) : Type 0 where
    pub is : x ≡ tested e f s (flat g k)
    pub few : reached x ≤ reached s + Counts.at_slot * k

  pub passing-none : Passing 0 s
  passing-none = record { is = sym (tested-start e f s g); few = omega arith }

  pub passing-more : (k : ℕ) {rs : List Row} {y x : Search} → Passing k y → Tested e f y rs x → rs ≡ g k → Passing (k + 1) x
  passing-more k {y = y} p t q = record {
    is = t.is ∙ ap (tested e f y) q ∙ ap (λ (z : Search). tested e f z (g k)) p.is ∙ sym (tested-more e f s g k);
    few = omega (arith, p.few, t.by_many);
  }

  -- a row is broken
  pub passing-over : (k n : ℕ) {x : Search} → Passing (k + 1) x → k < n → over x ≡ true → Passing n x
  passing-over k n p h o = record { is = over-rest e f s g (k + 1) n (omega arith) p.is o; few = omega (arith, p.few) }

  passing-same : (h : ℕ → List Row) (k : ℕ) {x : Search} → ((i : ℕ) → i < k → g i ≡ h i) → Passing k x →
      (x ≡ tested e f s (flat h k)) × (reached x ≤ reached s + Counts.at_slot * k)
  passing-same h k t p = (p.is ∙ ap (tested e f s) (flat-same g h k t), p.few)

-- few enough to go on
pub passing-low : {e : ℕ} {f : Row → ℤ} {count k : ℕ} {g : ℕ → List Row} {x : Search} → Passing e f (Ok count) g k x → k ≤ 64 →
    count ≤ Counts.before_block →
    reached x ≤ Counts.before_slot
passing-low {count = count} p h b = omega (arith, p.few)

-- ---- the rows of a block

-- after `count` rows that hold
pub record BlockTested (e : ℕ) (f : Row → ℤ) (count T L : ℕ) (b : Block) (x : Search) : Type 0 where
  pub is : x ≡ tested e f (Ok count) (block_rows b T L)
  pub few : reached x ≤ count + Counts.block

module _ (b : Block) (T L : ℕ) (high : T ≤ 64) where
  -- a loop over all slots
  pub block-all : {e : ℕ} {f : Row → ℤ} {count : ℕ} {x : Search} (g : ℕ → List Row) → ((s : ℕ) → s < T → g s ≡ block_on b T L s) →
      Passing e f (Ok count) g T x →
      BlockTested e f count T L b x
  unfolding block_rows
  block-all {e} {f} {count} g h p =
      let o = passing-same e f (Ok count) g (block_on b T L) T h p in
      record { is = o.0; few = omega (arith, o.1) }

  -- a loop over all but the last, and the last
  pub block_last : {e : ℕ} {f : Row → ℤ} {count : ℕ} {rs : List Row} {y x : Search} (g : ℕ → List Row) → 1 ≤ T → ((s : ℕ) → s < T - 1 → g s ≡ block_on b T L s) →
      Passing e f (Ok count) g (T - 1) y → rs ≡ block_on b T L (T - 1) → Tested e f y rs x → BlockTested e f count T L b x
  unfolding block_rows
  block_last {e} {f} {count} g low h p q t =
      let o = passing-same e f (Ok count) g (block_on b T L) (T - 1) h p in
      let n : T - 1 + 1 ≡ T = omega arith in
      let r = passing-more e f (Ok count) (block_on b T L) (T - 1) (record { is = o.0; few = o.1 }) t q in
      record {
        is = r.is ∙ ap (λ (k : ℕ). tested e f (Ok count) (flat (block_on b T L) k)) n;
        few = omega (arith, r.few);
      }

-- ---- by kind

module _ (b : Block) (T L s : ℕ) where
  abbrev P : ℕ
  P = b.own + s

  abbrev p : ℕ
  p = b.left + s

  abbrev q : ℕ
  q = b.right + s

  pub atom-rows : b.kind ≡ Atom → same_rows P p ≡ block_on b T L s
  atom-rows k = rw k refl

  pub not-rows : b.kind ≡ Not → not_rows P p ≡ block_on b T L s
  not-rows k = rw k refl

  pub and-rows : b.kind ≡ And → and_rows P p q ≡ block_on b T L s
  and-rows k = rw k refl

  pub or-rows : b.kind ≡ Or → or_rows P p q ≡ block_on b T L s
  or-rows k = rw k refl

  pub implies-rows : b.kind ≡ Implies → implies_rows P p q ≡ block_on b T L s
  implies-rows k = rw k refl

  -- with a window, over the variables vs of the part
  pub within-rows : {vs : List ℕ} → b.kind ≡ Within → vs ≡ window_at T L b.left b.from b.to s → over_rows within P vs ≡ block_on b T L s
  within-rows k e = rw (e, k) refl

  pub throughout_rows : {vs : List ℕ} → b.kind ≡ Throughout → vs ≡ window_at T L b.left b.from b.to s → over_rows throughout P vs ≡ block_on b T L s
  throughout_rows k e = rw (e, k) refl

  -- F, G and U at a slot that another follows
  module _ (h : s < T - 1) where
    inner : followed T (loops_of b) s ≡ true
    inner = followed-inner T (loops_of b) s h

    next-slot : following T b.own (next_of b) s ≡ b.own + s + 1
    next-slot = rw (lt-ltb (s + 1) T (omega arith)) refl

    pub eventually-inner : b.kind ≡ Eventually → or_rows P p (b.own + s + 1) ≡ block_on b T L s
    eventually-inner k = rw (k, inner, next-slot) refl

    pub always-inner : b.kind ≡ Always → and_rows P p (b.own + s + 1) ≡ block_on b T L s
    always-inner k = rw (k, inner, next-slot) refl

    pub until-inner : b.kind ≡ Until → until_rows P p q (b.own + s + 1) ≡ block_on b T L s
    until-inner k = rw (k, inner, next-slot) refl

-- and at the last, by whether something follows it
module _ (b : Block) (T L : ℕ) (low : 1 ≤ T) where
  abbrev end : ℕ
  end = T - 1

  behind : following T b.own (next_of b) end ≡ (next_of b)
  behind = rw (le-ltb (T - 1 + 1) T (omega arith)) refl

  goes_on_lem : (x : Bool) → (loops_of b) ≡ x → followed T (loops_of b) end ≡ x
  goes_on_lem x e = followed-last T (loops_of b) low ∙ e

  pub eventually-loops : b.kind ≡ Eventually → (loops_of b) ≡ true → or_rows (b.own + end) (b.left + end) (next_of b) ≡ block_on b T L end
  eventually-loops k e = rw (k, goes_on_lem true e, behind) refl

  pub eventually-ends : b.kind ≡ Eventually → (loops_of b) ≡ false → same_rows (b.own + end) (b.left + end) ≡ block_on b T L end
  eventually-ends k e = rw (k, goes_on_lem false e) refl

  pub always-loops : b.kind ≡ Always → (loops_of b) ≡ true → and_rows (b.own + end) (b.left + end) (next_of b) ≡ block_on b T L end
  always-loops k e = rw (k, goes_on_lem true e, behind) refl

  pub always-ends : b.kind ≡ Always → (loops_of b) ≡ false → same_rows (b.own + end) (b.left + end) ≡ block_on b T L end
  always-ends k e = rw (k, goes_on_lem false e) refl

  pub until-loops : b.kind ≡ Until → (loops_of b) ≡ true → until_rows (b.own + end) (b.left + end) (b.right + end) (next_of b) ≡ block_on b T L end
  until-loops k e = rw (k, goes_on_lem true e, behind) refl

  pub until-ends : b.kind ≡ Until → (loops_of b) ≡ false → same_rows (b.own + end) (b.right + end) ≡ block_on b T L end
  until-ends k e = rw (k, goes_on_lem false e) refl

-- ---- with parameters

-- the kind of a block over a window
abbrev pub kind_of : WindowKind → Kind
kind_of Over.Within = Within
kind_of Over.Throughout = Throughout

pub window-rows : (b : Block) (T L s : ℕ) (kind : WindowKind) {vs : List ℕ} → b.kind ≡ kind_of kind → vs ≡ window_at T L b.left b.from b.to s →
    over_rows (window_of kind) (b.own + s) vs ≡ block_on b T L s
window-rows b T L s Over.Within k e = within-rows b T L s k e
window-rows b T L s Over.Throughout k e = throughout_rows b T L s k e

-- g has the rows of F, G or U at a slot, by the variable of what follows; `part` is what the last slot has where nothing does
pub record FollowedBy (T L : ℕ) (b : Block) (part : ℕ) (g : ℕ → ℕ → List Row) : Type 0 where
  pub inner : (s : ℕ) → s < T - 1 → g s (b.own + s + 1) ≡ block_on b T L s
  pub loops : loops_of b ≡ true → g (T - 1) (next_of b) ≡ block_on b T L (T - 1)
  pub ends : loops_of b ≡ false → same_rows (b.own + (T - 1)) (part + (T - 1)) ≡ block_on b T L (T - 1)
