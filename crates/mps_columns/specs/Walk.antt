-- The lines of a variable in the rows of a block, by the block's kind and variables.
use Rattle.std.proofs.Math.Path.{◌≡◌, refl, sym, ap, ap₂}
use Rattle.std.proofs.Common.{◌∙◌, eqb-true, ltb-true, lt-ltb}
use Rattle.std.specs.Prelude.{Option, Some, None, Bool, ◌&&◌, ◌||◌, eqb, ltb}
use Rattle.std.proofs.Math.Bool.{true, false, cond}
use mathlib.Core.List.{List, [], ◌++◌}
use Prim.Native.Nat.{ℕ, zero, suc, ◌+◌, ◌-◌, ◌*◌, ◌≤◌, ◌<◌}
use native.Mathlib.Omega.{arith}
use Rattle.std.proofs.lemmas.Bool.{eqb-false}
use Rattle.lists.specs.Every.{Every}
use Rattle.lists.specs.Flat.{flat}
use Rattle.lists.specs.Place.{place_unique}
use Rattle.rules.specs.Rows.{Row}
use Rattle.mps.specs.Page.{each_row, entry_line}
use Rattle.table.specs.Looping.{loops_by}
use Rattle.table.specs.declared.Node as Table
use Rattle.table.specs.declared.Kind.{Kind}
use Rattle.table.specs.declared.Kind.TheVariants.{Atom, Not, And, Or, Implies, Eventually, Always, Until, Within, Throughout}
use Rattle.row.specs.declared.Block.{Block}
use Rattle.row.specs.Apart.{Apart, Behind}
use Rattle.row.specs.Kinds.{kind_rows, window_at, slot_count, left_block, followed, following}
use Rattle.row.specs.NodeRows.{loops_of, next_of, block_on, block_rows, Own}
use Rattle.mps_row.specs.Slots.{slot_text, rows_before}
use Rattle.mps_row.specs.Laws.{Plain, not_plain, before_kind, block-text}
use Rattle.mps_row.specs.Spots.{spot_at, spot_rows, plain_rows}
use Rattle.mps_row.specs.Absent.{Lacks, absent}
use Rattle.mps_node.specs.Places.{KeptAt}
use Rattle.mps_users.specs.Around.{and-false}
use Rattle.mps_users.specs.Picked.{before, flat_around, flat-only}

-- the lines of variable v in the rows of a block without a window at slot s + 1; the block's first row is `start`
unfoldable pub kind_text : (v : ℕ) → Block → (T start s : ℕ) → List ℕ
kind_text v b T start s =
    each_row (entry_line v) (start + s * slot_count b.kind true 0) (spot_rows (spot_at T b s) [])

-- those at the slot before it, and those at it
abbrev pub kind_before : (v : ℕ) → Block → (T start s : ℕ) → List ℕ
kind_before v b T start zero = []
kind_before v b T start (suc s) = kind_text v b T start s

unfoldable pub kind_around : (v : ℕ) → Block → (T start s : ℕ) → List ℕ
kind_around v b T start s = kind_before v b T start s ++ kind_text v b T start s

-- what follows the last slot stands at the last slot alone; another variable at its own slot s + 1 and the one before
unfoldable pub kind_lines : (v : ℕ) → Block → (T start s : ℕ) → List ℕ
kind_lines v b T start s = cond (loops_of b && eqb v (next_of b)) (kind_text v b T start (T - 1)) (kind_around v b T start s)

module _ (v : ℕ) (b : Block) (T start s : ℕ) where
  pub around_first : s ≡ 0 → kind_text v b T start s ≡ kind_around v b T start s
  unfolding kind_around
  around_first e = rw e refl

  pub around_next : (s ≡ 0 → ⊥) → kind_text v b T start (s - 1) ++ kind_text v b T start s ≡ kind_around v b T start s
  unfolding kind_around
  around_next h =
      let e : s ≡ suc (s - 1) = omega arith in
      ap (λ (l : List ℕ). l ++ kind_text v b T start s) (sym (ap (kind_before v b T start) e))

  pub lines-last : {c : Bool} → c ≡ (loops_of b && eqb v (next_of b)) → c ≡ true → kind_text v b T start (T - 1) ≡ kind_lines v b T start s
  unfolding kind_lines
  lines-last e f = sym (ap (λ (x : Bool). cond x (kind_text v b T start (T - 1)) (kind_around v b T start s)) (sym e ∙ f))

  pub lines_around : {c : Bool} → c ≡ (loops_of b && eqb v (next_of b)) → c ≡ false → kind_around v b T start s ≡ kind_lines v b T start s
  unfolding kind_lines
  lines_around e f = sym (ap (λ (x : Bool). cond x (kind_text v b T start (T - 1)) (kind_around v b T start s)) (sym e ∙ f))

-- ---- they are all of its lines

-- the first variables of a block and of its parts are those of parts of the variables
pub record Whole (T : ℕ) (b : Block) : Type 0 where
  pub own-part : ℕ
  pub left-block : ℕ
  pub right-part : ℕ
  pub own_is : b.own ≡ own-part * T
  pub left_is : b.left ≡ left-block * T
  pub right_is : b.right ≡ right-part * T

pub own-whole : (T M L n v : ℕ) (nd : Table.Node) (b : Block) → Own T M L n v nd b → Whole T b
own-whole T M L n v nd b o = record {
  own-part = M + n;
  left-block = left_block nd.kind M nd.left;
  right-part = M + nd.right;
  own_is = o.own_is;
  left_is = o.left_is;
  right_is = o.right_is;
}

-- so are those of V's block, where there is one
abbrev pub KeptWhole : (T : ℕ) → Option Block → Type 0
KeptWhole T (Some b) = Whole T b
KeptWhole T None = Unit {0}

pub kept_whole : (T c v : ℕ) (own : Block) (has : Bool) (kept : Option Block) → v ≡ c * T → KeptAt v own has kept → Whole T own → KeptWhole T kept
kept_whole T c v own has (Some b) e h w = record {
  own-part = c;
  left-block = w.left-block;
  right-part = w.right-part;
  own_is = h.1.own_is ∙ e;
  left_is = h.1.left_is ∙ w.left_is;
  right_is = h.1.right_is ∙ w.right_is;
}
kept_whole T c v own has None e h w = tt

-- rows without a window lack a variable that is none of theirs
abbrev PartsLack : Kind → (v p q : ℕ) → Type 0
PartsLack Atom v p q = p ≡ v → ⊥
PartsLack Not v p q = p ≡ v → ⊥
PartsLack And v p q = (p ≡ v → ⊥) × (q ≡ v → ⊥)
PartsLack Or v p q = (p ≡ v → ⊥) × (q ≡ v → ⊥)
PartsLack Implies v p q = (p ≡ v → ⊥) × (q ≡ v → ⊥)
PartsLack Eventually v p q = p ≡ v → ⊥
PartsLack Always v p q = p ≡ v → ⊥
PartsLack Until v p q = (p ≡ v → ⊥) × (q ≡ v → ⊥)
PartsLack Within v p q = ⊥
PartsLack Throughout v p q = ⊥

parts_lack : (k : Kind) (v p q : ℕ) → Plain k → (p ≡ v → ⊥) → (q ≡ v → ⊥) → PartsLack k v p q
parts_lack Atom v p q h a b = a
parts_lack Not v p q h a b = a
parts_lack And v p q h a b = (a, b)
parts_lack Or v p q h a b = (a, b)
parts_lack Implies v p q h a b = (a, b)
parts_lack Eventually v p q h a b = a
parts_lack Always v p q h a b = a
parts_lack Until v p q h a b = (a, b)
parts_lack Within v p q h a b = absurd (not_plain h)
parts_lack Throughout v p q h a b = absurd (not_plain h)

-- of a variable that stands behind the block
behind_lack : (k : Kind) (T P p q v i : ℕ) → Plain k → Apart k T P p q → P + T ≤ v → i < T → PartsLack k v (p + i) (q + i)
behind_lack Atom T P p q v i h g l m = λ e. omega arith
behind_lack Not T P p q v i h g l m = λ e. omega arith
behind_lack And T P p q v i h g l m = (λ e. omega (arith, g.0), λ e. omega (arith, g.1))
behind_lack Or T P p q v i h g l m = (λ e. omega (arith, g.0), λ e. omega (arith, g.1))
behind_lack Implies T P p q v i h g l m = (λ e. omega (arith, g.0), λ e. omega (arith, g.1))
behind_lack Eventually T P p q v i h g l m = λ e. omega arith
behind_lack Always T P p q v i h g l m = λ e. omega arith
behind_lack Until T P p q v i h g l m = (λ e. omega (arith, g.0), λ e. omega (arith, g.1))
behind_lack Within T P p q v i h g l m = absurd (not_plain h)
behind_lack Throughout T P p q v i h g l m = absurd (not_plain h)

kind_lacks : (v : ℕ) (k : Kind) (inner : Bool) (P p q P' : ℕ) (vs : List ℕ) → (P ≡ v → ⊥) → PartsLack k v p q → (loops_by k ≡ true → inner ≡ true → P' ≡ v → ⊥) →
    Every (Lacks v) (kind_rows k inner P p q P' vs)
kind_lacks v Atom inner P p q P' vs a h c = omega arith
kind_lacks v Not inner P p q P' vs a h c = omega arith
kind_lacks v And inner P p q P' vs a h c = let x = h.0 in let y = h.1 in omega arith
kind_lacks v Or inner P p q P' vs a h c = let x = h.0 in let y = h.1 in omega arith
kind_lacks v Implies inner P p q P' vs a h c = let x = h.0 in let y = h.1 in omega arith
kind_lacks v Eventually true P p q P' vs a h c = let d = c refl refl in omega arith
kind_lacks v Eventually false P p q P' vs a h c = omega arith
kind_lacks v Always true P p q P' vs a h c = let d = c refl refl in omega arith
kind_lacks v Always false P p q P' vs a h c = omega arith
kind_lacks v Until true P p q P' vs a h c = let d = c refl refl in let x = h.0 in let y = h.1 in omega arith
kind_lacks v Until false P p q P' vs a h c = let x = h.0 in let y = h.1 in omega arith
kind_lacks v Within inner P p q P' vs a h c = absurd h
kind_lacks v Throughout inner P p q P' vs a h c = absurd h

module _ (T L : ℕ) (b : Block) (plain : Plain b.kind) (0<T : 1 ≤ T) (v start : ℕ) where
  abbrev text : ℕ → List ℕ
  text = slot_text T L b (entry_line v) start

  text-is : (s : ℕ) → s < T → kind_text v b T start s ≡ text s
  unfolding kind_text slot_text
  text-is s h =
      ap₂ (λ (i : ℕ) (rs : List Row). each_row (entry_line v) i rs) (ap (λ (i : ℕ). start + i) (sym (before_kind T L b plain s h)))
      (plain_rows T L b s plain)

  -- no lines at slot i + 1
  empty : (i : ℕ) → (b.own + i ≡ v → ⊥) → PartsLack b.kind v (b.left + i) (b.right + i)
      → (loops_by b.kind ≡ true → followed T (loops_of b) i ≡ true → following T b.own (next_of b) i ≡ v → ⊥) →
      text i ≡ []
  unfolding slot_text
  empty i a h c =
      absent v (start + rows_before T L b i) (block_on b T L i) (kind_lacks v b.kind (followed T (loops_of b) i) (b.own + i) (b.left + i)
      (b.right + i) (following T b.own (next_of b) i)
      (window_at T L b.left b.from b.to i) a h c)

  -- what follows the last slot: at the last slot alone
  module _ (behind : Behind T b) (loops : loops_of b ≡ true) (is : v ≡ next_of b) where
    far : b.own + T ≤ v
    far = omega (arith, behind.next loops)

    last-text : flat text T ≡ kind_text v b T start (T - 1)
    last-text =
        flat-only text (T - 1) T (omega arith)
        (λ i l f. empty i (λ e. omega (arith, far)) (behind_lack b.kind T b.own b.left b.right v i plain behind.parts far l)
        (λ k c e. let z : following T b.own (next_of b) i ≡ b.own + i + 1 =
        ap (λ (x : Bool). cond x (b.own + i + 1) (next_of b)) (lt-ltb (i + 1) T (omega arith)) in
        omega (arith, far, z)))
        ∙ sym (text-is (T - 1) (omega arith))

  -- another variable, at slot s + 1 of a part
  module _ (whole : Whole T b) (x s : ℕ) (low : s < T) (is : v ≡ x * T + s) where
    at_slot_lem : (y i : ℕ) → i < T → (i ≡ s → ⊥) → y * T + i ≡ v → ⊥
    at_slot_lem y i l f e = f (place_unique T l low (e ∙ is)).1

    -- where it is not the block's own, or the kind does not look at the next slot: not at the slot before
    pub alone-text : (loops_by b.kind ≡ true → b.own + s ≡ v → ⊥) → kind_text v b T start s ≡ kind_around v b T start s
    unfolding kind_around
    alone-text n = ap (λ (h : List ℕ). h ++ kind_text v b T start s) (sym (none s refl))
      where
        none : (j : ℕ) → j ≡ s → kind_before v b T start j ≡ []
        none zero e = refl
        none (suc i) e =
            text-is i (omega arith)
            ∙ empty i (λ f. at_slot_lem whole.own-part i (omega arith) (λ z. omega arith) (omega (arith, whole.own_is, f)))
            (parts_lack b.kind v (b.left + i) (b.right + i) plain
            (λ f. at_slot_lem whole.left-block i (omega arith) (λ z. omega arith) (omega (arith, whole.left_is, f)))
            (λ f. at_slot_lem whole.right-part i (omega arith) (λ z. omega arith) (omega (arith, whole.right_is, f))))
            (λ k c f. let z : following T b.own (next_of b) i ≡ b.own + i + 1 =
            ap (λ (x : Bool). cond x (b.own + i + 1) (next_of b)) (lt-ltb (i + 1) T (omega arith)) in
            n k (omega (arith, f, z)))

    module _ (other : loops_of b ≡ true → next_of b ≡ v → ⊥) where
      follow : (i : ℕ) → i < T → (i + 1 ≡ s → ⊥) → followed T (loops_of b) i ≡ true → following T b.own (next_of b) i ≡ v → ⊥
      follow i l g c = go (ltb (i + 1) T) refl c
        where
          go : (d : Bool) → ltb (i + 1) T ≡ d → (d || loops_of b) ≡ true → cond d (b.own + i + 1) (next_of b) ≡ v → ⊥
          go true z w e = at_slot_lem whole.own-part (i + 1) (ltb-true (i + 1) T z) g (omega (arith, whole.own_is, e))
          go false z w e = other w e

      around_text : flat text T ≡ kind_around v b T start s
      unfolding kind_around
      around_text =
          flat_around text s T low (λ i l f g. empty i (λ e. at_slot_lem whole.own-part i l f (omega (arith, whole.own_is, e)))
          (parts_lack b.kind v (b.left + i) (b.right + i) plain (λ e. at_slot_lem whole.left-block i l f (omega (arith, whole.left_is, e)))
          (λ e. at_slot_lem whole.right-part i l f (omega (arith, whole.right_is, e)))) (λ k. follow i l g))
          ∙ ap₂ ◌++◌ (before-is s low) (sym (text-is s low))
        where
          before-is : (j : ℕ) → j < T → before text j ≡ kind_before v b T start j
          before-is zero h = refl
          before-is (suc j) h = sym (text-is j (omega arith))

  pub plain_lines_lem : Behind T b → Whole T b → (x s : ℕ) → s < T → v ≡ x * T + s → kind_lines v b T start s ≡ each_row (entry_line v) start (block_rows b T L)
  unfolding kind_lines
  plain_lines_lem behind whole x s low is = go (loops_of b) refl (eqb v (next_of b)) refl ∙ sym (block-text T L b (entry_line v) start)
    where
      never : false ≡ true → ◌≡◌ {A = ℕ} 0 1
      never e = cc

      go : (c : Bool) → loops_of b ≡ c → (d : Bool) → eqb v (next_of b) ≡ d → cond (c && d) (kind_text v b T start (T - 1)) (kind_around v b T start s) ≡ flat text T
      go true e true f = sym (last-text behind e (eqb-true v (next_of b) f))
      go true e false f = sym (around_text whole x s low is (λ z q. eqb-false v (next_of b) f (sym q)))
      go false e d f = sym (around_text whole x s low is (λ z q. let w : ◌≡◌ {A = ℕ} 0 1 = never (sym e ∙ z) in omega arith))

-- two tests, the second of equal numbers, do not both pass
pub not-both : {r a c : Bool} (v w : ℕ) → r ≡ (a && eqb v w) → a ≡ c → r ≡ false → c ≡ true → w ≡ v → ⊥
not-both {r} {a} {c} v w e f g h q = eqb-false v w (and-false a (eqb v w) (sym e ∙ g) (f ∙ h)) (sym q)
