-- The rows of a node of a kind at a slot: how many they are, and that they are document 01's, and request N4's for windows.
use Rattle.std.proofs.Math.Path.{◌≡◌}
use Rattle.std.specs.Prelude.{refl, Bool, Option, Some, None, is_some, unwrap_or, cond, ◌&&◌, ◌||◌, List, [], map, ℕ, ◌+◌, ◌-◌, ◌*◌, ◌≤◌, ◌<◌, ltb, length, take}
use Rattle.std.proofs.Common.{sym, ap, ap₂, ◌∙◌, lt-ltb, le-ltb, length-append}
use Rattle.std.proofs.Math.Bool.{true, false}
use native.Mathlib.Omega.{arith}
use Rattle.std.proofs.lemmas.List.{length-map}
use Rattle.lists.specs.Flat.{flat, flat-more, length-flat-even}
use Rattle.rules.specs.Rule.{Window}
use Rattle.rules.specs.Rule.Window.{within, throughout}
use Rattle.rules.specs.Quantities.{WindowAllowed}
use Rattle.rules.specs.Table.{Node, NodeGood}
use Rattle.rules.specs.Rows.{Row, same_rows, not_rows, and_rows, or_rows, implies_rows, until_rows, window_rows, window_slots, looping, rows_at, loop_rows_at}
use Rattle.rules.proofs.RowCount.{window-count}
use Rattle.rules.proofs.WindowParts.{window-variables}
use Rattle.table.specs.Nodes.{node_by}
use Rattle.table.specs.Looping.{loops_by}
use Rattle.table.specs.declared.Kind.{Kind}
use Rattle.table.specs.declared.Kind.TheVariants.{Atom, Not, And, Or, Implies, Eventually, Always, Until, Within, Throughout}
use Rattle.window.specs.Total.{slot_total, length-flat-slots}

-- a window's rows; P is the node's variable, and vs has the part's at the slots of the window
abbrev pub over_rows : Window → (P : ℕ) → (vs : List ℕ) → List Row
over_rows w P vs = window_rows w P (λ v. v) vs

-- P is the node's variable, p and q its parts'; `inner` is whether something follows, and P' is its variable; vs is for windows
abbrev pub kind_rows : Kind → (inner : Bool) → (P p q P' : ℕ) → (vs : List ℕ) → List Row
kind_rows Atom inner P p q P' vs = same_rows P p
kind_rows Not inner P p q P' vs = not_rows P p
kind_rows And inner P p q P' vs = and_rows P p q
kind_rows Or inner P p q P' vs = or_rows P p q
kind_rows Implies inner P p q P' vs = implies_rows P p q
kind_rows Eventually inner P p q P' vs = cond inner (or_rows P p P') (same_rows P p)
kind_rows Always inner P p q P' vs = cond inner (and_rows P p P') (same_rows P p)
kind_rows Until inner P p q P' vs = cond inner (until_rows P p q P') (same_rows P q)
kind_rows Within inner P p q P' vs = over_rows within P vs
kind_rows Throughout inner P p q P' vs = over_rows throughout P vs

-- n is how many slots the window has
abbrev pub slot_count : Kind → (inner : Bool) → (n : ℕ) → ℕ
slot_count Atom inner n = 1
slot_count Not inner n = 1
slot_count And inner n = 3
slot_count Or inner n = 3
slot_count Implies inner n = 3
slot_count Eventually inner n = cond inner 3 1
slot_count Always inner n = cond inner 3 1
slot_count Until inner n = cond inner 4 1
slot_count Within inner n = n + 1
slot_count Throughout inner n = n + 1

pub length-kind_rows : (k : Kind) (inner : Bool) (P p q P' : ℕ) (vs : List ℕ) → length (kind_rows k inner P p q P' vs) ≡ slot_count k inner (length vs)
length-kind_rows Atom inner P p q P' vs = refl
length-kind_rows Not inner P p q P' vs = refl
length-kind_rows And inner P p q P' vs = refl
length-kind_rows Or inner P p q P' vs = refl
length-kind_rows Implies inner P p q P' vs = refl
length-kind_rows Eventually true P p q P' vs = refl
length-kind_rows Eventually false P p q P' vs = refl
length-kind_rows Always true P p q P' vs = refl
length-kind_rows Always false P p q P' vs = refl
length-kind_rows Until true P p q P' vs = refl
length-kind_rows Until false P p q P' vs = refl
length-kind_rows Within inner P p q P' vs = window-count within P (λ v. v) vs
length-kind_rows Throughout inner P p q P' vs = window-count throughout P (λ v. v) vs

-- the block of the left part: an atom's own, or a node's after the M atoms'
abbrev pub left_block : Kind → (M left : ℕ) → ℕ
left_block Atom M l = l
left_block Not M l = M + l
left_block And M l = M + l
left_block Or M l = M + l
left_block Implies M l = M + l
left_block Eventually M l = M + l
left_block Always M l = M + l
left_block Until M l = M + l
left_block Within M l = M + l
left_block Throughout M l = M + l

-- the window that a node of a kind may have
abbrev pub Allowed : Kind → (a b : ℕ) → Type 0
Allowed Atom a b = Unit
Allowed Not a b = Unit
Allowed And a b = Unit
Allowed Or a b = Unit
Allowed Implies a b = Unit
Allowed Eventually a b = Unit
Allowed Always a b = Unit
Allowed Until a b = Unit
Allowed Within a b = WindowAllowed a b
Allowed Throughout a b = WindowAllowed a b

pub allowed : (M n : ℕ) (k : Kind) (l r a b : ℕ) → NodeGood M n (node_by k l r a b) → Allowed k a b
allowed M n Atom l r a b h = tt
allowed M n Not l r a b h = tt
allowed M n And l r a b h = tt
allowed M n Or l r a b h = tt
allowed M n Implies l r a b h = tt
allowed M n Eventually l r a b h = tt
allowed M n Always l r a b h = tt
allowed M n Until l r a b h = tt
allowed M n Within l r a b h = h.1
allowed M n Throughout l r a b h = h.1

-- the variables of a part at the slots of the window a, b from slot s + 1; p is its variable at the first slot of all
abbrev pub window_at : (T L p a b s : ℕ) → List ℕ
window_at T L p a b s = map (λ i. p + (i - 1)) (window_slots T L (s + 1) a b)

-- whether something follows slot s + 1: a slot, or after the last, where `loops`, what has the variable `next`; and its variable
abbrev pub followed : (T : ℕ) (loops : Bool) (s : ℕ) → Bool
followed T loops s = ltb (s + 1) T || loops

abbrev pub following : (T P next s : ℕ) → ℕ
following T P next s = cond (ltb (s + 1) T) (P + s + 1) next

-- both in one: the variable of what follows slot s + 1, where something does
abbrev pub follower : (T P : ℕ) (next : Option ℕ) (s : ℕ) → Option ℕ
follower T P next s = cond (ltb (s + 1) T) (Some (P + s + 1)) next

pub follower-some : (T P : ℕ) (next : Option ℕ) (s : ℕ) → is_some (follower T P next s) ≡ followed T (is_some next) s
follower-some T P next s = go (ltb (s + 1) T)
  where
    go : (x : Bool) → is_some (cond x (Some (P + s + 1)) next) ≡ (x || is_some next)
    go true = refl
    go false = refl

pub follower-is : (T P : ℕ) (next : Option ℕ) (s : ℕ) → unwrap_or (follower T P next s) 0 ≡ following T P (unwrap_or next 0) s
follower-is T P next s = go (ltb (s + 1) T)
  where
    go : (x : Bool) → unwrap_or (cond x (Some (P + s + 1)) next) 0 ≡ cond x (P + s + 1) (unwrap_or next 0)
    go true = refl
    go false = refl

-- P, p and q are the variables of the node and its parts at the first slot; the node's rows at slot s + 1
abbrev pub rows_on : Kind → (T L : ℕ) (loops : Bool) (next P p q a b s : ℕ) → List Row
rows_on k T L loops next P p q a b s =
    kind_rows k (followed T loops s) (P + s) (p + s) (q + s) (following T P next s) (window_at T L p a b s)

-- where nothing follows, it does not count what would
last-alone : (k : Kind) (P p q x y : ℕ) (vs : List ℕ) → kind_rows k false P p q x vs ≡ kind_rows k false P p q y vs
last-alone Atom P p q x y vs = refl
last-alone Not P p q x y vs = refl
last-alone And P p q x y vs = refl
last-alone Or P p q x y vs = refl
last-alone Implies P p q x y vs = refl
last-alone Eventually P p q x y vs = refl
last-alone Always P p q x y vs = refl
last-alone Until P p q x y vs = refl
last-alone Within P p q x y vs = refl
last-alone Throughout P p q x y vs = refl

module _ (k : Kind) (T L P p q a b s : ℕ) where
  -- what follows the last slot as a block has it
  pub rows-next : (x : Bool) (n : ℕ) →
      rows_on k T L x n P p q a b s ≡ rows_on k T L (is_some (cond x (Some n) None)) (unwrap_or (cond x (Some n) None) 0) P p q a b s
  rows-next true n = refl
  rows-next false n = go (ltb (s + 1) T)
    where
      go : (c : Bool) → kind_rows k (c || false) (P + s) (p + s) (q + s) (cond c (P + s + 1) n) (window_at T L p a b s) ≡
          kind_rows k (c || false) (P + s) (p + s) (q + s) (cond c (P + s + 1) 0) (window_at T L p a b s)
      go true = refl
      go false = last-alone k (P + s) (p + s) (q + s) n 0 (window_at T L p a b s)

-- ---- they are those of a node, and those of its V

module _ (T M L : ℕ) (ns : List Node) (n : ℕ) (k : Kind) (l r a b s : ℕ) where
  here : s + 1 - 1 ≡ s
  here = omega arith

  next : (c : ℕ) → c * T + (s + 1 + 1 - 1) ≡ c * T + s + 1
  next c = omega arith

  window : (w : Window) → window_rows w ((M + n) * T + (s + 1 - 1)) (λ i. (M + l) * T + (i - 1)) (window_slots T L (s + 1) a b) ≡
      over_rows w ((M + n) * T + s) (window_at T L ((M + l) * T) a b s)
  window w = rw here (window-variables _ _ w (window_slots T L (s + 1) a b))

  -- the first variable of node n's V
  abbrev pub loop_block : ℕ
  loop_block = (M + (length ns + looping (take n ns))) * T

  pub slot-rows : rows_at T M L ns n (node_by k l r a b) (s + 1) ≡
      rows_on k T L (ltb L T) (loop_block + (L - 1)) ((M + n) * T) (left_block k M l * T) ((M + r) * T) a b s
  slot-rows = go k
    where
      go : (k : Kind) → rows_at T M L ns n (node_by k l r a b) (s + 1) ≡
          rows_on k T L (ltb L T) (loop_block + (L - 1)) ((M + n) * T) (left_block k M l * T) ((M + r) * T) a b s
      go Atom = rw here
      go Not = rw here
      go And = rw here
      go Or = rw here
      go Implies = rw here
      go Eventually = rw (next (M + n), here)
      go Always = rw (next (M + n), here)
      go Until = rw (next (M + n), here)
      go Within = window within
      go Throughout = window throughout

  -- V's rows, of the kinds that have them
  abbrev v_rows : Kind → (inner : Bool) → ℕ → List Row
  v_rows j inner x = kind_rows j inner (loop_block + s) ((M + l) * T + s) ((M + r) * T + s) x (window_at T L ((M + l) * T) a b s)

  v-rows : (j : Kind) (c : Bool) → v_rows j c (loop_block + s + 1) ≡ v_rows j (c || false) (cond c (loop_block + s + 1) 0)
  v-rows j true = refl
  v-rows j false = last-alone j (loop_block + s) ((M + l) * T + s) ((M + r) * T + s) (loop_block + s + 1) 0 (window_at T L ((M + l) * T) a b s)

  pub loop-slot-rows : loops_by k ≡ true → loop_rows_at T M ns n (node_by k l r a b) (s + 1) ≡
      rows_on k T L false 0 loop_block (left_block k M l * T) ((M + r) * T) a b s
  loop-slot-rows = go k
    where
      never : false ≡ true → {A : Type 0} → A
      never e = let z : ◌≡◌ {A = ℕ} 0 1 = cc in absurd (omega arith)

      go : (k : Kind) → loops_by k ≡ true → loop_rows_at T M ns n (node_by k l r a b) (s + 1) ≡
          rows_on k T L false 0 loop_block (left_block k M l * T) ((M + r) * T) a b s
      go Eventually e = rw (next (M + (length ns + looping (take n ns))), here) (v-rows Eventually (ltb (s + 1) T))
      go Always e = rw (next (M + (length ns + looping (take n ns))), here) (v-rows Always (ltb (s + 1) T))
      go Until e = rw (next (M + (length ns + looping (take n ns))), here) (v-rows Until (ltb (s + 1) T))
      go Atom e = never e
      go Not e = never e
      go And e = never e
      go Or e = never e
      go Implies e = never e
      go Within e = never e
      go Throughout e = never e

  -- a node of another kind has none
  pub no_loop-rows : (j : Kind) → loops_by j ≡ false → loop_rows_at T M ns n (node_by j l r a b) (s + 1) ≡ []
  no_loop-rows Atom e = refl
  no_loop-rows Not e = refl
  no_loop-rows And e = refl
  no_loop-rows Or e = refl
  no_loop-rows Implies e = refl
  no_loop-rows Eventually e = let z : ◌≡◌ {A = ℕ} 0 1 = cc in absurd (omega arith)
  no_loop-rows Always e = let z : ◌≡◌ {A = ℕ} 0 1 = cc in absurd (omega arith)
  no_loop-rows Until e = let z : ◌≡◌ {A = ℕ} 0 1 = cc in absurd (omega arith)
  no_loop-rows Within e = refl
  no_loop-rows Throughout e = refl

-- ---- how many rows: of the node, or of its V where nothing follows the last slot

unfoldable pub block_count : Kind → (loops : Bool) → (T L a b : ℕ) → ℕ
block_count Atom loops T L a b = T
block_count Not loops T L a b = T
block_count And loops T L a b = 3 * T
block_count Or loops T L a b = 3 * T
block_count Implies loops T L a b = 3 * T
block_count Eventually loops T L a b = 3 * (T - 1) + cond loops 3 1
block_count Always loops T L a b = 3 * (T - 1) + cond loops 3 1
block_count Until loops T L a b = 4 * (T - 1) + cond loops 4 1
block_count Within loops T L a b = slot_total T L a b + T
block_count Throughout loops T L a b = slot_total T L a b + T

pub length-on : (k : Kind) (T L : ℕ) (loops : Bool) (next P p q a b s : ℕ) →
    length (rows_on k T L loops next P p q a b s) ≡ slot_count k (followed T loops s) (length (window_slots T L (s + 1) a b))
length-on k T L loops next P p q a b s =
    length-kind_rows k (followed T loops s) (P + s) (p + s) (q + s) (following T P next s) (window_at T L p a b s)
    ∙ ap (slot_count k (followed T loops s)) (length-map (window_slots T L (s + 1) a b) (λ (i : ℕ). p + (i - 1)))

-- parts of lengths that are known by the slot: one for all but the last, and the last's
module _ {A : Type 0} (T : ℕ) (f : ℕ → List A) (0<T : 1 ≤ T) where
  pub length-ended : (m z : ℕ) → ((s : ℕ) → s < T - 1 → length (f s) ≡ m) → length (f (T - 1)) ≡ z → length (flat f T) ≡ (T - 1) * m + z
  length-ended m z h g =
      let e : T - 1 + 1 ≡ T = omega arith in
      ap (λ (i : ℕ). length (flat f i)) (sym e) ∙ ap length (flat-more f (T - 1)) ∙ length-append (flat f (T - 1)) (f (T - 1))
      ∙ ap₂ ◌+◌ (length-flat-even f m (T - 1) h) g

pub followed-inner : (T : ℕ) (loops : Bool) (s : ℕ) → s < T - 1 → followed T loops s ≡ true
followed-inner T loops s h = rw (lt-ltb (s + 1) T (omega arith)) refl

pub followed-last : (T : ℕ) (loops : Bool) → 1 ≤ T → followed T loops (T - 1) ≡ loops
followed-last T loops h = rw (le-ltb (T - 1 + 1) T (omega arith)) refl

-- parts whose lengths are by the kind, as rows and their bytes are: `at inner n`, for n slots of the window
module _ {A : Type 0} (T L a b : ℕ) (loops : Bool) (0<T : 1 ≤ T) (f : ℕ → List A) (at : Bool → ℕ → ℕ)
    (h : (s : ℕ) → length (f s) ≡ at (followed T loops s) (length (window_slots T L (s + 1) a b))) where
  -- with one length at every slot
  pub length-even : (m : ℕ) → ((inner : Bool) (n : ℕ) → at inner n ≡ m) → length (flat f T) ≡ T * m
  length-even m e = length-flat-even f m T (λ s g. h s ∙ e (followed T loops s) _)

  -- with another at the last
  pub length_last : (m z : ℕ) → ((n : ℕ) → at true n ≡ m) → ((n : ℕ) → at loops n ≡ z) → length (flat f T) ≡ (T - 1) * m + z
  length_last m z e g = length-ended T f 0<T m z
      (λ s i. h s ∙ ap (λ (x : Bool). at x (length (window_slots T L (s + 1) a b))) (followed-inner T loops s i) ∙ e _)
      (h (T - 1) ∙ ap (λ (x : Bool). at x (length (window_slots T L (T - 1 + 1) a b))) (followed-last T loops 0<T) ∙ g _)

module _ (T L a b : ℕ) (loops : Bool) (0<T : 1 ≤ T) where
  pub counted : (k : Kind) (f : ℕ → List Row) → ((s : ℕ) → length (f s) ≡ slot_count k (followed T loops s) (length (window_slots T L (s + 1) a b))) →
      length (flat f T) ≡ block_count k loops T L a b
  unfolding block_count
  counted Atom f h = let e = length-even T L a b loops 0<T f (slot_count Atom) h 1 (λ i n. refl) in omega arith
  counted Not f h = let e = length-even T L a b loops 0<T f (slot_count Not) h 1 (λ i n. refl) in omega arith
  counted And f h = let e = length-even T L a b loops 0<T f (slot_count And) h 3 (λ i n. refl) in omega arith
  counted Or f h = let e = length-even T L a b loops 0<T f (slot_count Or) h 3 (λ i n. refl) in omega arith
  counted Implies f h = let e = length-even T L a b loops 0<T f (slot_count Implies) h 3 (λ i n. refl) in omega arith
  counted Eventually f h = let e = length_last T L a b loops 0<T f (slot_count Eventually) h 3 (cond loops 3 1) (λ n. refl) (λ n. refl) in omega arith
  counted Always f h = let e = length_last T L a b loops 0<T f (slot_count Always) h 3 (cond loops 3 1) (λ n. refl) (λ n. refl) in omega arith
  counted Until f h = let e = length_last T L a b loops 0<T f (slot_count Until) h 4 (cond loops 4 1) (λ n. refl) (λ n. refl) in omega arith
  counted Within f h = let e = length-flat-slots T L a b f 1 1 (λ s. h s ∙ (omega arith)) in omega arith
  counted Throughout f h = let e = length-flat-slots T L a b f 1 1 (λ s. h s ∙ (omega arith)) in omega arith

-- the rows of a node's V are as many as its own, but for the last slot, which nothing follows; x is whether L is below T
module _ (T L a b : ℕ) (0<T : 1 ≤ T) where
  pub kept-count : (k : Kind) (x : Bool) → (x && loops_by k) ≡ true →
      (slot_count k false 0 ≤ slot_count k true 0) × (slot_count k true 0 ≤ block_count k x T L a b)
      × (block_count k false T L a b ≡ block_count k x T L a b - slot_count k true 0 + slot_count k false 0)
  unfolding block_count
  kept-count k false e = let z : ◌≡◌ {A = ℕ} 0 1 = cc in absurd (omega arith)
  kept-count k true e = go k e
    where
      go : (k : Kind) → loops_by k ≡ true →
          (slot_count k false 0 ≤ slot_count k true 0) × (slot_count k true 0 ≤ block_count k true T L a b)
          × (block_count k false T L a b ≡ block_count k true T L a b - slot_count k true 0 + slot_count k false 0)
      go Eventually e = (omega arith, omega arith, omega arith)
      go Always e = (omega arith, omega arith, omega arith)
      go Until e = (omega arith, omega arith, omega arith)
      go Atom e = let z : ◌≡◌ {A = ℕ} 0 1 = cc in absurd (omega arith)
      go Not e = let z : ◌≡◌ {A = ℕ} 0 1 = cc in absurd (omega arith)
      go And e = let z : ◌≡◌ {A = ℕ} 0 1 = cc in absurd (omega arith)
      go Or e = let z : ◌≡◌ {A = ℕ} 0 1 = cc in absurd (omega arith)
      go Implies e = let z : ◌≡◌ {A = ℕ} 0 1 = cc in absurd (omega arith)
      go Within e = let z : ◌≡◌ {A = ℕ} 0 1 = cc in absurd (omega arith)
      go Throughout e = let z : ◌≡◌ {A = ℕ} 0 1 = cc in absurd (omega arith)
