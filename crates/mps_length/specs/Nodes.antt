-- The bytes of the lines of a block's rows in COLUMNS and in RHS, by its kind, and of a node's.
use Rattle.std.specs.Prelude.{◌≡◌, refl, Bool, cond, ◌&&◌, ◌||◌, List, [], ℕ, zero, suc, ◌+◌, ◌-◌, ◌*◌, ◌≤◌, ◌<◌, eqb, ltb, length}
use Rattle.std.proofs.Common.{sym, ap₂, ◌∙◌, mul-add, arith, ltb-true, eqb-true}
use Rattle.std.proofs.Math.Path.{ap}
use Rattle.std.proofs.Math.Bool.{true, false}
use Rattle.std.proofs.lemmas.Bool.{eqb-false}
use Rattle.std.proofs.lemmas.List.{length-map}
use Rattle.rules.specs.Table.{Node, NodeGood, node_at}
use Rattle.rules.specs.Rows.{window_slots, variable_count}
use Rattle.table.specs.Nodes.{node_of}
use Rattle.table.specs.Looping.{loops_by}
use Rattle.table.specs.declared.Node as Table
use Rattle.table.specs.declared.Kind.{Kind}
use Rattle.table.specs.declared.Kind.TheVariants.{Atom, Not, And, Or, Implies, Eventually, Always, Until, Within, Throughout}
use Rattle.window.specs.Total.{slots_at, total_to, total-none, total-more}
use Rattle.row.specs.declared.Block.{Block}
use Rattle.row.specs.Kinds.{kind_rows, window_at, followed, following, followed-inner, followed-last}
use Rattle.row.specs.Apart.{Apart, apart-at, Behind}
use Rattle.row.specs.NodeRows.{Own, kept_place, loops_of, next_of, own_loops, own-next, block_on, block_rows, has_kept, part_rows, own_block, kept_block, part-blocks}
use Rattle.lists.specs.Sums.{sum_to, sum_more, sum_same, sum-even, sum-last}
use Rattle.mps_length.specs.RowSizes.{weight, weight-append, weight-flat, same-weight, not-weight, and-weight, and-twice, or_weight, or-twice}
use Rattle.mps_length.specs.RowSizes.{implies_weight, implies_twice, until-weight, until-twice}
use Rattle.mps_length.specs.Windows.{Rising, back_size, within-weight, throughout-weight}
use Rattle.mps_length.specs.Blocks.{rising_block, own_room, own-has, kept-room, next-room, own-is-behind, kept-is-behind}

-- at a slot; `inner` is whether something follows, `twice` whether left and right are one, and k how many slots the window has
abbrev pub slot_weight : Kind → (inner twice : Bool) → (k : ℕ) → ℕ
slot_weight Atom inner twice k = 53
slot_weight Not inner twice k = 78
slot_weight And inner twice k = cond twice 186 213
slot_weight Or inner twice k = cond twice 159 185
slot_weight Implies inner twice k = cond twice 185 238
slot_weight Eventually inner twice k = cond inner 185 53
slot_weight Always inner twice k = cond inner 213 53
slot_weight Until inner twice k = cond inner (cond twice 292 318) 53
slot_weight Within inner twice k = 79 * k + 27
slot_weight Throughout inner twice k = 80 * k + 26 + back_size k

-- whether p and q are one variable
abbrev pub Twice : (twice : Bool) → (p q : ℕ) → Type 0
Twice true p q = p ≡ q
Twice false p q = q ≡ p → ⊥

pub twice-is : (p q : ℕ) → Twice (eqb p q) p q
twice-is p q = go (eqb p q) refl
  where
    go : (b : Bool) → eqb p q ≡ b → Twice b p q
    go true e = eqb-true p q e
    go false e = λ f. eqb-false p q e (sym f)

twice-at : (twice : Bool) (p q s : ℕ) → Twice twice p q → Twice twice (p + s) (q + s)
twice-at true p q s h = omega arith
twice-at false p q s h = λ e. h (omega arith)

-- P', what follows, stands behind P; which variable it is does not count
module _ (n P p q P' low : ℕ) (vs : List ℕ) (hP : P < n) where
  kind_weight : (k : Kind) (inner twice : Bool) → Apart k 1 P p q → (loops_by k ≡ true → inner ≡ true → (P < P') × (P' < n)) →
      Twice twice p q → Rising low P vs → weight n (kind_rows k inner P p q P' vs) ≡ slot_weight k inner twice (length vs)
  kind_weight Atom inner twice h g t r = same-weight n P p hP (omega arith) (λ e. omega arith)
  kind_weight Not inner twice h g t r = not-weight n P p hP (omega arith) (λ e. omega arith)
  kind_weight And inner true h g t r = rw (← t) (and-twice n P p hP (omega (arith, h.0)) (λ e. omega (arith, h.0)))
  kind_weight And inner false h g t r =
      and-weight n P p hP (omega (arith, h.0)) (λ e. omega (arith, h.0)) q (omega (arith, h.1)) (λ e. omega (arith, h.1)) t
  kind_weight Or inner true h g t r = rw (← t) (or-twice n P p hP (omega (arith, h.0)) (λ e. omega (arith, h.0)))
  kind_weight Or inner false h g t r =
      or_weight n P p hP (omega (arith, h.0)) (λ e. omega (arith, h.0)) q (omega (arith, h.1)) (λ e. omega (arith, h.1)) t
  kind_weight Implies inner true h g t r = rw (← t) (implies_twice n P p hP (omega (arith, h.0)) (λ e. omega (arith, h.0)))
  kind_weight Implies inner false h g t r =
      implies_weight n P p hP (omega (arith, h.0)) (λ e. omega (arith, h.0)) q (omega (arith, h.1)) (λ e. omega (arith, h.1)) t
  kind_weight Eventually true twice h g t r =
      let f = g refl refl in or_weight n P p hP (omega arith) (λ e. omega arith) P' f.1 (λ e. omega (arith, f.0)) (λ e. omega (arith, f.0))
  kind_weight Eventually false twice h g t r = same-weight n P p hP (omega arith) (λ e. omega arith)
  kind_weight Always true twice h g t r =
      let f = g refl refl in and-weight n P p hP (omega arith) (λ e. omega arith) P' f.1 (λ e. omega (arith, f.0)) (λ e. omega (arith, f.0))
  kind_weight Always false twice h g t r = same-weight n P p hP (omega arith) (λ e. omega arith)
  kind_weight Until true true h g t r =
      let f = g refl refl in
      rw (← t) (until-twice n P p P' hP (omega (arith, h.0)) f.1 (λ e. omega (arith, h.0)) (λ e. omega (arith, f.0)) (λ e. omega (arith, h.0, f.0)))
  kind_weight Until true false h g t r =
      let f = g refl refl in
      until-weight n P p P' hP (omega (arith, h.0)) f.1 (λ e. omega (arith, h.0)) (λ e. omega (arith, f.0)) (λ e. omega (arith, h.0, f.0))
      q (omega (arith, h.1)) (λ e. omega (arith, h.1)) t (λ e. omega (arith, h.1, f.0))
  kind_weight Until false twice h g t r = same-weight n P q hP (omega (arith, h.1)) (λ e. omega (arith, h.1))
  kind_weight Within inner twice h g t r = within-weight n P hP low vs r
  kind_weight Throughout inner twice h g t r = throughout-weight n P hP low vs r

-- ---- of a block, at all slots

-- of a window, over the first k slots: how many rows, the bytes of their lines, and in these the right sides of the last rows of G[a,b]
abbrev pub window_count : (T L a b k : ℕ) → ℕ
window_count T L a b k = total_to T L a b k + k

abbrev pub within_weight : (T L a b k : ℕ) → ℕ
within_weight T L a b k = 79 * total_to T L a b k + 27 * k

abbrev backs_to : (T L a b k : ℕ) → ℕ
backs_to T L a b k = sum_to (λ s. back_size (length (window_slots T L (s + 1) a b))) k

abbrev pub throughout_weight : (T L a b k : ℕ) → ℕ
throughout_weight T L a b k = 80 * total_to T L a b k + 26 * k + backs_to T L a b k

unfoldable pub block_weight : Kind → (loops twice : Bool) → (T L a b : ℕ) → ℕ
block_weight Atom loops twice T L a b = 53 * T
block_weight Not loops twice T L a b = 78 * T
block_weight And loops twice T L a b = cond twice 186 213 * T
block_weight Or loops twice T L a b = cond twice 159 185 * T
block_weight Implies loops twice T L a b = cond twice 185 238 * T
block_weight Eventually loops twice T L a b = 185 * (T - 1) + cond loops 185 53
block_weight Always loops twice T L a b = 213 * (T - 1) + cond loops 213 53
block_weight Until loops twice T L a b = cond twice 292 318 * (T - 1) + cond loops (cond twice 292 318) 53
block_weight Within loops twice T L a b = within_weight T L a b T
block_weight Throughout loops twice T L a b = throughout_weight T L a b T

module _ (T L a b : ℕ) where
  within-slots : (k : ℕ) → sum_to (λ s. 79 * length (slots_at T L a b s) + 27) k ≡ 79 * total_to T L a b k + 27 * k
  within-slots zero = omega (arith, total-none T L a b)
  within-slots (suc k) = let e : k + 1 ≡ suc k = omega arith in omega (arith, within-slots k, ap (total_to T L a b) e, total-more T L a b k)

  throughout_slots : (k : ℕ) → sum_to (λ s. 80 * length (slots_at T L a b s) + 26 + back_size (length (slots_at T L a b s))) k ≡
      80 * total_to T L a b k + 26 * k + backs_to T L a b k
  throughout_slots zero = omega (arith, total-none T L a b)
  throughout_slots (suc k) = let e : k + 1 ≡ suc k = omega arith in omega (arith, throughout_slots k, ap (total_to T L a b) e, total-more T L a b k)

  -- a turn of the loop over slots, with k slots in the window
  pub window-none : 0 ≡ window_count T L a b 0
  window-none = omega (arith, total-none T L a b)

  pub throughout_none : 0 ≡ throughout_weight T L a b 0
  throughout_none = omega (arith, total-none T L a b)

  module _ (s k : ℕ) (e : k ≡ length (slots_at T L a b s)) where
    pub window_more : {rows : ℕ} → rows ≡ window_count T L a b s → rows + (k + 1) ≡ window_count T L a b (s + 1)
    window_more f = omega (arith, total-more T L a b s)

    pub throughout_more : {lines back : ℕ} → back ≡ back_size k → lines ≡ throughout_weight T L a b s →
        lines + (80 * k + 26 + back) ≡ throughout_weight T L a b (s + 1)
    throughout_more g f = omega (arith, total-more T L a b s, sum_more (λ j. back_size (length (slots_at T L a b j))) s, ap back_size e)

  module _ (loops : Bool) (0<T : 1 ≤ T) where
    abbrev slots_weight : Kind → Bool → ℕ
    slots_weight k twice = sum_to (λ s. slot_weight k (followed T loops s) twice (length (window_slots T L (s + 1) a b))) T

    even : (k : Kind) (twice : Bool) (m : ℕ) → ((inner : Bool) (j : ℕ) → slot_weight k inner twice j ≡ m) → slots_weight k twice ≡ T * m
    even k twice m e = sum-even _ m T (λ s h. e (followed T loops s) _)

    ended : (k : Kind) (twice : Bool) (m z : ℕ) → ((j : ℕ) → slot_weight k true twice j ≡ m) → ((j : ℕ) → slot_weight k loops twice j ≡ z) →
        slots_weight k twice ≡ (T - 1) * m + z
    ended k twice m z e g =
        sum-last _ m z T 0<T
        (λ s h. ap (λ (x : Bool). slot_weight k x twice (length (window_slots T L (s + 1) a b))) (followed-inner T loops s h) ∙ e _)
        (ap (λ (x : Bool). slot_weight k x twice (length (window_slots T L (T - 1 + 1) a b))) (followed-last T loops 0<T) ∙ g _)

    slots-weight : (k : Kind) (twice : Bool) → slots_weight k twice ≡ block_weight k loops twice T L a b
    unfolding block_weight
    slots-weight Atom twice = omega (arith, even Atom twice 53 (λ i j. refl))
    slots-weight Not twice = omega (arith, even Not twice 78 (λ i j. refl))
    slots-weight And true = omega (arith, even And true 186 (λ i j. refl))
    slots-weight And false = omega (arith, even And false 213 (λ i j. refl))
    slots-weight Or true = omega (arith, even Or true 159 (λ i j. refl))
    slots-weight Or false = omega (arith, even Or false 185 (λ i j. refl))
    slots-weight Implies true = omega (arith, even Implies true 185 (λ i j. refl))
    slots-weight Implies false = omega (arith, even Implies false 238 (λ i j. refl))
    slots-weight Eventually twice = omega (arith, ended Eventually twice 185 (cond loops 185 53) (λ j. refl) (λ j. refl))
    slots-weight Always twice = omega (arith, ended Always twice 213 (cond loops 213 53) (λ j. refl) (λ j. refl))
    slots-weight Until true = omega (arith, ended Until true 292 (cond loops 292 53) (λ j. refl) (λ j. refl))
    slots-weight Until false = omega (arith, ended Until false 318 (cond loops 318 53) (λ j. refl) (λ j. refl))
    slots-weight Within twice = within-slots T
    slots-weight Throughout twice = throughout_slots T

module _ (n T L : ℕ) (b : Block) (behind : Behind T b) (room : b.own + T ≤ n)
    (next-room : loops_of b ≡ true → loops_by b.kind ≡ true → next_of b < n) where
  after : (s : ℕ) → s < T → loops_by b.kind ≡ true → followed T (loops_of b) s ≡ true →
      (b.own + s < following T b.own (next_of b) s) × (following T b.own (next_of b) s < n)
  after s h k = go (ltb (s + 1) T) refl
    where
      go : (c : Bool) → ltb (s + 1) T ≡ c → (c || loops_of b) ≡ true →
          (b.own + s < cond c (b.own + s + 1) (next_of b)) × (cond c (b.own + s + 1) (next_of b) < n)
      go true e f = let l = ltb-true (s + 1) T e in (omega arith, omega arith)
      go false e f = let l = behind.next f in (omega arith, next-room f k)

  abbrev looked : ℕ → ℕ
  looked s = length (window_slots T L (s + 1) b.from b.to)

  block-weight : (twice : Bool) → 1 ≤ T → Twice twice b.left b.right →
      weight n (block_rows b T L) ≡ block_weight b.kind (loops_of b) twice T L b.from b.to
  unfolding block_rows
  block-weight twice 0<T t =
      weight-flat n (block_on b T L) T
      ∙ sum_same (λ s. weight n (block_on b T L s)) (λ s. slot_weight b.kind (followed T (loops_of b) s) twice (looked s)) T at_slot_lem
      ∙ slots-weight T L b.from b.to (loops_of b) 0<T b.kind twice
    where
      at_slot_lem : (s : ℕ) → s < T → weight n (block_on b T L s) ≡ slot_weight b.kind (followed T (loops_of b) s) twice (looked s)
      at_slot_lem s g =
          kind_weight n (b.own + s) (b.left + s) (b.right + s) (following T b.own (next_of b) s) b.left (window_at T L b.left b.from b.to s)
          (omega arith) b.kind (followed T (loops_of b) s) twice (apart-at b.kind T b.own b.left b.right s 0<T behind.parts) (after s g)
          (twice-at twice b.left b.right s t) (rising_block T L b behind s)
          ∙ ap (slot_weight b.kind (followed T (loops_of b) s) twice)
          (length-map (window_slots T L (s + 1) b.from b.to) (λ (i : ℕ). b.left + (i - 1)))

-- ---- of a node, its V's with it; x is whether L is below T

abbrev pub weight_by : (x twice : Bool) → Kind → (T L a b : ℕ) → ℕ
weight_by x twice k T L a b = cond (x && loops_by k) (block_weight k false twice T L a b) 0 + block_weight k x twice T L a b

abbrev pub node_weight : Kind → (twice : Bool) → (T L a b : ℕ) → ℕ
node_weight k twice T L a b = weight_by (ltb L T) twice k T L a b

-- of F, G and U: k rows or bytes at a slot that something follows, and z where nothing does
abbrev pub looped_sum : (k z T L : ℕ) → ℕ
looped_sum k z T L = cond (ltb L T) (k * T) 0 + k * (T - 1) + z

-- what the code finds: so many rows and bytes, within bounds
pub record Sized (count weight rows lines : ℕ) : Type 0 where
  pub rows_are : rows ≡ count
  pub lines_are : lines ≡ weight
  pub few : rows ≤ 4160
  pub short : lines ≤ 340000

pub sized_as : {m n x y rows lines : ℕ} → m ≡ x → n ≡ y → Sized m n rows lines → Sized x y rows lines
sized_as e f s = record { rows_are = s.rows_are ∙ e; lines_are = s.lines_are ∙ f; few = s.few; short = s.short }

-- a node that has no V, and one that has it where L is below T
no_kept : (c : Bool) (x : ℕ) → x ≡ cond (c && false) x 0 + x
no_kept true x = omega arith
no_kept false x = omega arith

some-kept : (c : Bool) (k z T : ℕ) → 1 ≤ T → cond c (k * T) 0 + k * (T - 1) + z ≡ cond (c && true) (k * (T - 1) + z) 0 + (k * (T - 1) + cond c k z)
some-kept true k z T h = let t : T ≡ T - 1 + 1 = omega arith in omega (arith, ap (λ (x : ℕ). k * x) t, mul-add k (T - 1) 1)
some-kept false k z T h = omega arith

module _ (c : Bool) {rows lines : ℕ} where
  pub sized-plain : (x y : ℕ) → Sized x y rows lines → Sized (cond (c && false) x 0 + x) (cond (c && false) y 0 + y) rows lines
  sized-plain x y = sized_as (no_kept c x) (no_kept c y)

  pub sized-looped : (k w T : ℕ) → 1 ≤ T → Sized (cond c (k * T) 0 + k * (T - 1) + 1) (cond c (w * T) 0 + w * (T - 1) + 53) rows lines →
      Sized (cond (c && true) (k * (T - 1) + 1) 0 + (k * (T - 1) + cond c k 1))
      (cond (c && true) (w * (T - 1) + 53) 0 + (w * (T - 1) + cond c w 53)) rows lines
  sized-looped k w T h = sized_as (some-kept c k 1 T h) (some-kept c w 53 T h)

module _ (T M L : ℕ) (ns : List Node) (i : ℕ) (nd : Table.Node) (is : node_of nd ≡ node_at ns i) where
  abbrev own : Block
  own = own_block T M L ns i nd is

  abbrev kept : Block
  kept = kept_block T M L ns i nd is

  abbrev n : ℕ
  n = variable_count T M L ns

  pub part-weight : 1 ≤ T → i < length ns → NodeGood M i (node_at ns i) →
      weight n (part_rows T M L ns i) ≡ node_weight nd.kind (eqb own.left own.right) T L nd.from nd.to
  part-weight 0<T h good =
      ap (weight n) (part-blocks T M L ns i nd is) ∙ weight-append n (cond (has_kept T L nd) (block_rows kept T L) []) (block_rows own T L)
      ∙ ap₂ ◌+◌ (go (ltb L T) (loops_by nd.kind) refl refl)
      (block-weight n T L own (own-is-behind T M L ns i nd is h good) (own_room T M L ns i nd is h) next twice 0<T same
      ∙ ap (λ (x : Bool). block_weight nd.kind x twice T L nd.from nd.to) (own_loops has))
    where
      has : Own T M L i (kept_place T M ns i) nd own
      has = own-has T M L ns i nd is h

      next : loops_of own ≡ true → loops_by nd.kind ≡ true → next_of own < n
      next e k = omega (arith, own-next has e, next-room T M L ns i nd is h (sym (own_loops has) ∙ e) k)

      twice : Bool
      twice = eqb own.left own.right

      same : Twice twice own.left own.right
      same = twice-is own.left own.right

      go : (c k : Bool) → ltb L T ≡ c → loops_by nd.kind ≡ k →
          weight n (cond (c && k) (block_rows kept T L) []) ≡ cond (c && k) (block_weight nd.kind false twice T L nd.from nd.to) 0
      go true true e f =
          block-weight n T L kept (kept-is-behind T M L ns i nd is h good) (kept-room T M L ns i nd is h e f)
          (λ x y. let z : ◌≡◌ {A = ℕ} 0 1 = cc in absurd (omega arith)) twice 0<T same
      go true false e f = refl
      go false k e f = refl
