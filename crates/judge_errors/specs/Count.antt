-- What a node counts at a slot, by the kind that its record has. Slots count from 0 here.
use Rattle.std.specs.Prelude.{◌≡◌, Some, None, is_some, unwrap_or, refl, Bool, true, false, cond, ◌||◌, List, ℕ, ◌+◌, ◌-◌, ◌*◌, ◌≤◌, ◌<◌, min, ltb, length}
use Rattle.std.proofs.Common.{sym, ap, ap₂, ◌∙◌, add-zero, arith, ltb-false}
use Rattle.lists.specs.Place.{place_end}
use Rattle.rules.specs.Quantities.{one, WindowAllowed}
use Rattle.rules.specs.Rule.Window.{within}
use Rattle.rules.specs.Table.{Node, NodeGood}
use Rattle.rules.specs.Table.Node.{windowed}
use Rattle.rules.specs.Rows.{goes_on}
use Rattle.rules.specs.Errors.Figures.{raised, node_count, kept_count}
use Rattle.table.specs.Nodes.{node_by}
use Rattle.table.specs.Ends.{is_binary}
use Rattle.table.specs.declared.Kind.{Kind}
use Rattle.table.specs.declared.Kind.TheVariants as Kinds
use Rattle.judge_errors.specs.declared.Parts.{Parts}
use Rattle.judge_errors.specs.declared.Counting.{Counting}
use Rattle.judge_errors.specs.declared.Counting.TheVariants.{Atom, Here, Later, Window}
use Rattle.judge_errors.specs.Worked.{Room, figure_at, ahead, Worked, worked_below, end_of, next_at, Summed, summed_more}
use Rattle.judge_errors.specs.Worked.{down, down-none, down-more, down-same}

abbrev pub counting_of : Kind → Counting
counting_of Kinds.Atom = Atom
counting_of Kinds.Not = Here
counting_of Kinds.And = Here
counting_of Kinds.Or = Here
counting_of Kinds.Implies = Here
counting_of Kinds.Eventually = Later
counting_of Kinds.Always = Later
counting_of Kinds.Until = Later
counting_of Kinds.Within = Window
counting_of Kinds.Throughout = Window

-- the V of node nd at slot s, by its own figure x one slot later
abbrev pub kept_now : (T e : ℕ) → List ℕ → Node → (s x : ℕ) → ℕ
kept_now T e l nd s x = raised e (kept_count T (s + 1) (λ c t. figure_at T l c (t - 1)) x nd)

-- node nd at slot s, by the error figures l of the nodes below and its own, x, one slot later; behind the last slot comes its V at L
abbrev pub figure_now : (T L e : ℕ) → List ℕ → Node → (s x : ℕ) → ℕ
figure_now T L e l nd s x =
    raised e (node_count T L e (s + 1) (λ c t. figure_at T l c (t - 1)) (cond (ltb (s + 1) T) x (end_of T L (kept_now T e l nd))) nd)

-- ---- by what is counted

abbrev pub figure_atom : (e s x : ℕ) → ℕ
figure_atom e s x = raised e e

-- whether there are two parts, and the last of them
abbrev pub two_of : Parts → Bool
two_of p = is_some p.right

abbrev pub right_of : Parts → ℕ
right_of p = unwrap_or p.right p.left

-- the parts at slot s
abbrev pub parts_at : (T : ℕ) → List ℕ → Parts → (s : ℕ) → ℕ
parts_at T l p s = figure_at T l p.left s + cond (two_of p) (figure_at T l (right_of p) s) 0

abbrev pub figure_here : (T e : ℕ) → List ℕ → Parts → (s x : ℕ) → ℕ
figure_here T e l p s x = raised e (parts_at T l p s)

-- F, G and U: where something follows, the parts, and else the right one alone; and with x, the figure of what follows
abbrev pub later_at : (T : ℕ) → List ℕ → Parts → (follows : Bool) → (s : ℕ) → ℕ
later_at T l p follows s = cond follows (parts_at T l p s) (figure_at T l (right_of p) s)

abbrev chained : (T e : ℕ) → List ℕ → Parts → (follows : Bool) → (s x : ℕ) → ℕ
chained T e l p follows s x = raised e (cond follows (parts_at T l p s + x) (figure_at T l (right_of p) s))

-- of a V
abbrev pub kept_later : (T e : ℕ) → List ℕ → Parts → (s x : ℕ) → ℕ
kept_later T e l p s x = chained T e l p (ltb (s + 1) T) s x

abbrev pub later_end : (T L e : ℕ) → List ℕ → Parts → ℕ
later_end T L e l p = end_of T L (kept_later T e l p)

abbrev pub figure_later : (T L e : ℕ) → List ℕ → Parts → (s x : ℕ) → ℕ
figure_later T L e l p s x = chained T e l p (goes_on T L (s + 1)) s (cond (ltb (s + 1) T) x (later_end T L e l p))

abbrev pub figure_by : Counting → (T L e : ℕ) → List ℕ → Parts → (a b s x : ℕ) → ℕ
figure_by Atom T L e l p a b s x = figure_atom e s x
figure_by Here T L e l p a b s x = figure_here T e l p s x
figure_by Later T L e l p a b s x = figure_later T L e l p s x
figure_by Window T L e l p a b s x = figure_now T L e l (windowed within a b p.left) s x

-- ---- a node of each kind: where it has one part, that one stands for the right too

abbrev pub parts_of : Kind → (l r : ℕ) → Parts
parts_of k l r = record { left = l; right = cond (is_binary k) (Some r) None }

module _ (T L e : ℕ) (m : List ℕ) (l r a b : ℕ) where
  slot : (s : ℕ) → s + 1 - 1 ≡ s
  slot s = omega arith

  -- one part, as it is counted and as the definition has it
  one-part : (follows : Bool) (s x : ℕ) → chained T e m (record { left = l; right = None }) follows s x ≡
      raised e (cond follows (figure_at T m l (s + 1 - 1) + x) (figure_at T m l (s + 1 - 1)))
  one-part follows s x = rw slot (ap (λ (y : ℕ). raised e (cond follows (y + x) (figure_at T m l s))) (add-zero (figure_at T m l s)))

  two-parts : (follows : Bool) (s x : ℕ) → chained T e m (record { left = l; right = Some r }) follows s x ≡
      raised e (cond follows (figure_at T m l (s + 1 - 1) + figure_at T m r (s + 1 - 1) + x) (figure_at T m r (s + 1 - 1)))
  two-parts follows s x = rw slot refl

  module _ (s x : ℕ) where
    abbrev At : Kind → Type 0
    At k = figure_by (counting_of k) T L e m (parts_of k l r) a b s x ≡ figure_now T L e m (node_by k l r a b) s x

    alone : raised e (figure_at T m l s + 0) ≡ raised e (figure_at T m l (s + 1 - 1))
    alone = rw slot (ap (raised e) (add-zero (figure_at T m l s)))

    -- F, G and U: so are what follows them, and they
    later : (p : Parts) (g : (follows : Bool) (s x : ℕ) → ℕ) → ((follows : Bool) (s x : ℕ) → chained T e m p follows s x ≡ g follows s x) →
        figure_later T L e m p s x ≡ g (goes_on T L (s + 1)) s (cond (ltb (s + 1) T) x (end_of T L (λ s x. g (ltb (s + 1) T) s x)))
    later p g h =
        ap (λ (z : ℕ). chained T e m p (goes_on T L (s + 1)) s (cond (ltb (s + 1) T) x (cond (ltb L T) z 0)))
        (down-same T (kept_later T e m p) (λ s x. g (ltb (s + 1) T) s x) (λ s x. h (ltb (s + 1) T) s x) (T + 1 - L))
        ∙ h (goes_on T L (s + 1)) s (cond (ltb (s + 1) T) x (end_of T L (λ s x. g (ltb (s + 1) T) s x)))

    by_counting : (k : Kind) → At k
    by_counting Kinds.Atom = refl
    by_counting Kinds.Not = alone
    by_counting Kinds.And = rw slot refl
    by_counting Kinds.Or = rw slot refl
    by_counting Kinds.Implies = rw slot refl
    by_counting Kinds.Eventually = later (parts_of Kinds.Eventually l r) _ one-part
    by_counting Kinds.Always = later (parts_of Kinds.Always l r) _ one-part
    by_counting Kinds.Until = later (parts_of Kinds.Until l r) _ two-parts
    by_counting Kinds.Within = refl
    by_counting Kinds.Throughout = refl

-- what is counted is there
pub record PartsBelow (n : ℕ) (p : Parts) : Type 0 where
  pub left_below : p.left < n
  pub right-below : right_of p < n

abbrev pub GoodBy : Counting → (n : ℕ) → Parts → (a b : ℕ) → Type 0
GoodBy Atom n p a b = Unit {0}
GoodBy Here n p a b = PartsBelow n p
GoodBy Later n p a b = PartsBelow n p
GoodBy Window n p a b = (p.left < n) × WindowAllowed a b

good-by : (M n l r a b : ℕ) (k : Kind) → NodeGood M n (node_by k l r a b) → GoodBy (counting_of k) n (parts_of k l r) a b
good-by M n l r a b Kinds.Atom g = tt
good-by M n l r a b Kinds.Not g = record { left_below = g; right-below = g }
good-by M n l r a b Kinds.And g = record { left_below = g.0; right-below = g.1 }
good-by M n l r a b Kinds.Or g = record { left_below = g.0; right-below = g.1 }
good-by M n l r a b Kinds.Implies g = record { left_below = g.0; right-below = g.1 }
good-by M n l r a b Kinds.Eventually g = record { left_below = g; right-below = g }
good-by M n l r a b Kinds.Always g = record { left_below = g; right-below = g }
good-by M n l r a b Kinds.Until g = record { left_below = g.0; right-below = g.1 }
good-by M n l r a b Kinds.Within g = g
good-by M n l r a b Kinds.Throughout g = g

-- by what the code found of the kind
module _ (k : Kind) (c : Counting) (p : Parts) (l r a b : ℕ) (is : c ≡ counting_of k) (at : p ≡ parts_of k l r) where
  pub good-found : (M n : ℕ) → NodeGood M n (node_by k l r a b) → GoodBy c n p a b
  good-found M n g = rw (is, at) (good-by M n l r a b k g)

  pub figure-found : (T L e : ℕ) (m : List ℕ) (s x : ℕ) → figure_by c T L e m p a b s x ≡ figure_now T L e m (node_by k l r a b) s x
  figure-found T L e m s x = rw (is, at) (by_counting T L e m l r a b s x k)

-- the places of the parts are there
pub record PartsIn (T : ℕ) (p : Parts) (l : List ℕ) : Type 0 where
  pub left_in : p.left * T + T ≤ length l
  pub right-in : right_of p * T + T ≤ length l
  pub left-few : p.left < 128
  pub right-few : right_of p < 128
  pub slots : T ≤ 64

pub parts_in : {T n : ℕ} {p : Parts} {l : List ℕ} (m : List ℕ) → Room T n l → PartsBelow n p → length m ≡ length l → PartsIn T p m
parts_in {T} m r b e = record {
  left_in = omega (arith, place_end T b.left_below, r.inside);
  right-in = omega (arith, place_end T b.right-below, r.inside);
  left-few = omega (arith, b.left_below, r.nodes);
  right-few = omega (arith, b.right-below, r.nodes);
  slots = r.slots;
}

-- the node's own figures do not touch them
module _ {T n : ℕ} {f : (s x : ℕ) → ℕ} {l : List ℕ} {k : ℕ} {m : List ℕ} (w : Worked T n f l k m) {p : Parts} (h : PartsBelow n p) (s : ℕ) (in-run : s < T)
  where
    pub parts-read : parts_at T m p s ≡ parts_at T l p s
    parts-read = ap₂ (λ (x y : ℕ). x + cond (two_of p) y 0) (worked_below w h.left_below in-run) (worked_below w h.right-below in-run)

    pub later-read : (follows : Bool) → later_at T m p follows s ≡ later_at T l p follows s
    later-read follows = ap₂ (cond follows) parts-read (worked_below w h.right-below in-run)

-- the next sum, stopped, is the next figure: of V, and of the node
module _ (T L e : ℕ) (l : List ℕ) (p : Parts) (s : ℕ) (low : 0 < s) where
  slot-before : s - 1 + 1 ≡ s
  slot-before = omega arith

  abbrev all : ℕ
  all = parts_at T l p (s - 1)

  abbrev last : ℕ
  last = figure_at T l (right_of p) (s - 1)

  pub kept_more : {sum : ℕ} → s ≤ T → Summed T s (down T (kept_later T e l p) (T - s)) sum →
      min one (sum + (e + later_at T l p (ltb s T) (s - 1))) ≡ down T (kept_later T e l p) (T - (s - 1))
  kept_more {sum} high h =
      let f = kept_later T e l p in
      summed_more e all last (down T f (T - s)) sum (ltb s T) h.stopped (λ z. down-none T f s (ltb-false s T z))
      ∙ ap (λ (i : ℕ). raised e (cond (ltb i T) (all + down T f (T - s)) last)) (sym slot-before)
      ∙ sym (down-more T f s low high)

  ends : (i j : Bool) (x y : ℕ) → (i || j) ≡ false → cond i x (cond j y 0) ≡ 0
  ends true j x y z = let w : ◌≡◌ {A = ℕ} 0 1 = cc in absurd (omega arith)
  ends false true x y z = let w : ◌≡◌ {A = ℕ} 0 1 = cc in absurd (omega arith)
  ends false false x y z = refl

  twice : (i : Bool) (x y : ℕ) → cond i x y ≡ cond i (cond i x 0) y
  twice true x y = refl
  twice false x y = refl

  pub later_more : (n : ℕ) (m : List ℕ) {sum : ℕ} → Summed T s (next_at T n (later_end T L e l p) m s) sum →
      min one (sum + (e + later_at T l p (goes_on T L s) (s - 1))) ≡ figure_later T L e l p (s - 1) (ahead T n m s)
  later_more n m {sum} h =
      let end = later_end T L e l p in
      summed_more e all last (next_at T n end m s) sum (goes_on T L s) h.stopped (λ z. ends (ltb s T) (ltb L T) (figure_at T m n s) _ z)
      ∙ ap (λ (y : ℕ). raised e (cond (goes_on T L s) (all + y) last)) (twice (ltb s T) (figure_at T m n s) end)
      ∙ ap (λ (i : ℕ). raised e (cond (goes_on T L i) (all + cond (ltb i T) (ahead T n m s) end) last)) (sym slot-before)
