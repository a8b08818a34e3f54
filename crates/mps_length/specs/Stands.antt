-- Whether a variable stands in rows: those of a kind, and of a block.
use Rattle.std.specs.Prelude.{◌≡◌, Bool, cond, not, ◌||◌, ℕ, zero, suc, ◌+◌, ◌-◌, ◌≤◌, ◌<◌, T as Is, eqb, ltb, ℤ, pos, negsuc, ◌+ℤ◌}
use Rattle.std.proofs.Math.Path.{refl}
use Rattle.std.proofs.Common.{ap, subst, ◌∙◌, ⊎_elim, eq-or-lt_of_le}
use Rattle.std.proofs.Math.Bool.{true, false}
use mathlib.Core.List.{List, [], ◌∷◌, ◌++◌, map}
use native.Mathlib.Omega.{arith}
use Rattle.std.proofs.Math.Dec.{eqb_refl}
use borrow.Author.Tests.{ne_eqb}
use Rattle.lists.specs.Tests.{or_left, or_right, is_true}
use Rattle.lists.specs.Every.{Every, every_append}
use Rattle.lists.specs.Flat.{flat}
use Rattle.rules.specs.Rows.{Row, Term, plus, minus, ge}
use Rattle.table.specs.declared.Kind.{Kind}
use Rattle.table.specs.declared.Kind.TheVariants.{Atom, Not, And, Or, Implies, Eventually, Always, Until, Within, Throughout}
use Rattle.row.specs.declared.Block.{Block}
use Rattle.row.specs.Kinds.{kind_rows, window_at, followed, following}
use Rattle.row.specs.Apart.{Apart, apart-at, Behind}
use Rattle.row.specs.NodeRows.{loops_of, next_of, block_on, block_rows}
use Rattle.mps.specs.Merged.{coefficient, is_zero, stands}
use Rattle.mps_row.specs.Absent.{Lacks, coefficient-none}
use Rattle.mps_length.specs.Terms.{term}
use Rattle.mps_length.specs.Windows.{Rising, rising_window}
use Rattle.mps_length.specs.Blocks.{rising_block}

-- ---- a variable stands in rows where it stands in a part of them

stands-append : (v : ℕ) (a b : List Row) → stands v (a ++ b) ≡ (stands v a || stands v b)
unfolding stands
stands-append v [] b = refl
stands-append v (r ∷ a) b = go (not (is_zero (coefficient v r.terms))) (stands-append v a b)
  where
    go : (x : Bool) → stands v (a ++ b) ≡ (stands v a || stands v b) → (x || stands v (a ++ b)) ≡ ((x || stands v a) || stands v b)
    go true e = refl
    go false e = e

pub stands-left : (v : ℕ) (a b : List Row) → Is (stands v a) → Is (stands v (a ++ b))
stands-left v a b h = rw (stands-append v a b) (or_left (stands v a) (stands v b) h)

pub stands-right : (v : ℕ) (a b : List Row) → Is (stands v b) → Is (stands v (a ++ b))
stands-right v a b h = rw (stands-append v a b) (or_right (stands v a) (stands v b) h)

pub stands-flat : (v : ℕ) (f : ℕ → List Row) (k i : ℕ) → i < k → Is (stands v (f i)) → Is (stands v (flat f k))
unfolding flat
stands-flat v f zero i h t = absurd (omega arith)
stands-flat v f (suc k) i h t =
    ⊎_elim (λ e. let z : i ≡ k = omega arith in stands-right v (flat f k) (f k) (subst (λ (j : ℕ). Is (stands v (f j))) z t))
    (λ l. stands-left v (flat f k) (f k) (stands-flat v f k i (omega arith) t)) (eq-or-lt_of_le h)

-- ---- and in none where each of them lacks it

pub none_rows : (v : ℕ) (rs : List Row) → Every (Lacks v) rs → stands v rs ≡ false
unfolding stands
none_rows v [] h = refl
none_rows v (r ∷ rs) h = rw (coefficient-none v r.terms h.0) (none_rows v rs h.1)

pub none-append : (v : ℕ) (a b : List Row) → stands v a ≡ false → stands v b ≡ false → stands v (a ++ b) ≡ false
none-append v a b e f = stands-append v a b ∙ rw (e, f) refl

pub none-flat : (v : ℕ) (f : ℕ → List Row) (k : ℕ) → ((i : ℕ) → i < k → stands v (f i) ≡ false) → stands v (flat f k) ≡ false
unfolding flat stands
none-flat v f zero e = refl
none-flat v f (suc k) e = none-append v (flat f k) (f k) (none-flat v f k (λ i h. e i (omega arith))) (e k (omega arith))

module _ (v : ℕ) where
  -- u is another variable
  abbrev Other : ℕ → Type 0
  Other u = u ≡ v → ⊥

  rows_lack : (f : ℕ → Row) → ((u : ℕ) → Other u → Lacks v (f u)) → (vs : List ℕ) → Every Other vs → Every (Lacks v) (map f vs)
  rows_lack f g [] h = tt
  rows_lack f g (u ∷ vs) h = (g u h.0, rows_lack f g vs h.1)

  terms_lack : (c : ℤ) (vs : List ℕ) → Every Other vs → Every (λ (t : Term). Other t.variable) (map (term c) vs)
  terms_lack c [] h = tt
  terms_lack c (u ∷ vs) h = (h.0, terms_lack c vs h.1)

  kind_lacks : (k : Kind) (inner : Bool) (P p q P' : ℕ) (vs : List ℕ) → Other P → Other p → Other q → (inner ≡ true → Other P') → Every Other vs →
      Every (Lacks v) (kind_rows k inner P p q P' vs)
  kind_lacks Atom inner P p q P' vs a b c d e = ((a, (b, tt)), tt)
  kind_lacks Not inner P p q P' vs a b c d e = ((a, (b, tt)), tt)
  kind_lacks And inner P p q P' vs a b c d e = ((b, (a, tt)), ((c, (a, tt)), ((a, (b, (c, tt))), tt)))
  kind_lacks Or inner P p q P' vs a b c d e = ((a, (b, tt)), ((a, (c, tt)), ((b, (c, (a, tt))), tt)))
  kind_lacks Implies inner P p q P' vs a b c d e = ((a, (b, tt)), ((a, (c, tt)), ((c, (b, (a, tt))), tt)))
  kind_lacks Eventually true P p q P' vs a b c d e = ((a, (b, tt)), ((a, (d refl, tt)), ((b, (d refl, (a, tt))), tt)))
  kind_lacks Eventually false P p q P' vs a b c d e = ((a, (b, tt)), tt)
  kind_lacks Always true P p q P' vs a b c d e = ((b, (a, tt)), ((d refl, (a, tt)), ((a, (b, (d refl, tt))), tt)))
  kind_lacks Always false P p q P' vs a b c d e = ((a, (b, tt)), tt)
  kind_lacks Until true P p q P' vs a b c d e = ((a, (c, tt)), ((b, (c, (a, tt))), ((c, (d refl, (a, tt))), ((a, (b, (d refl, tt))), tt))))
  kind_lacks Until false P p q P' vs a b c d e = ((a, (c, tt)), tt)
  kind_lacks Within inner P p q P' vs a b c d e =
      (every_append (Lacks v) (map (λ u. ge (plus P ∷ minus u ∷ []) (pos 0)) vs) _).1 (
        rows_lack (λ u. ge (plus P ∷ minus u ∷ []) (pos 0)) (λ u x. (a, (x, tt))) vs e,
        ((every_append (λ (t : Term). Other t.variable) (map plus vs) (minus P ∷ [])).1 (terms_lack (pos 1) vs e, (a, tt)), tt),
      )
  kind_lacks Throughout inner P p q P' vs a b c d e =
      (every_append (Lacks v) (map (λ u. ge (plus u ∷ minus P ∷ []) (pos 0)) vs) _).1
      (rows_lack (λ u. ge (plus u ∷ minus P ∷ []) (pos 0)) (λ u x. (x, (a, tt))) vs e, ((a, terms_lack (negsuc 0) vs e), tt))

  rising_other : (low high : ℕ) (vs : List ℕ) → Rising low high vs → ((u : ℕ) → low ≤ u → u < high → Other u) → Every Other vs
  rising_other low high [] r f = tt
  rising_other low high (u ∷ vs) r f = (f u r.0 r.1, rising_other (u + 1) high vs r.2 (λ w x y. f w (omega (arith, r.0)) y))

  -- a variable before those of a block, its right part and what follows, and not of its left part
  pub block_none : (T L : ℕ) (b : Block) → v < b.own → ((s : ℕ) → s < T → Other (b.left + s)) → v < b.right → (loops_of b ≡ true → v < next_of b) →
      stands v (block_rows b T L) ≡ false
  unfolding block_rows
  block_none T L b own left right next = none-flat v (block_on b T L) T (λ s h. none_rows v (block_on b T L s) (at_slot_lem s h))
    where
      after : (s : ℕ) (c : Bool) → (c || loops_of b) ≡ true → Other (cond c (b.own + s + 1) (next_of b))
      after s true e = λ f. omega arith
      after s false e = λ f. omega (arith, next e)

      window : (u : ℕ) → b.left ≤ u → u < b.left + T → Other u
      window u g h = λ e. left (u - b.left) (omega arith) (omega arith)

      at_slot_lem : (s : ℕ) → s < T → Every (Lacks v) (block_on b T L s)
      at_slot_lem s h =
          kind_lacks b.kind (followed T (loops_of b) s) (b.own + s) (b.left + s) (b.right + s) (following T b.own (next_of b) s)
          (window_at T L b.left b.from b.to s) (λ e. omega arith) (left s h) (λ e. omega arith) (after s (ltb (s + 1) T))
          (rising_other b.left (b.left + T) (window_at T L b.left b.from b.to s) (rising_window T L b.left b.from b.to s) window)

-- ---- a block's own variables stand in its rows

pub stands-first : (v : ℕ) (r : Row) (rs : List Row) (c : ℤ) → coefficient v r.terms ≡ c → is_zero c ≡ false → Is (stands v (r ∷ rs))
unfolding stands
stands-first v r rs c e z = rw (e, z) tt

module _ (P p : ℕ) (ne : p ≡ P → ⊥) where
  -- before another variable, and behind it
  before : (c d : ℤ) → c +ℤ pos 0 ≡ c → coefficient P (term c P ∷ term d p ∷ []) ≡ c
  unfolding coefficient
  before c d e = rw (is_true (eqb P P) (eqb_refl P), ne_eqb p P ne) e

  pub behind : (c d : ℤ) → pos 0 +ℤ (c +ℤ pos 0) ≡ c → coefficient P (term d p ∷ term c P ∷ []) ≡ c
  unfolding coefficient
  behind c d e = rw (is_true (eqb P P) (eqb_refl P), ne_eqb p P ne) e

module _ (P : ℕ) where
  first-up : (x : ℕ) (d : ℤ) (r : Row) (rs : List Row) → x < P → r.terms ≡ plus P ∷ term d x ∷ [] → Is (stands P (r ∷ rs))
  first-up x d r rs h e = stands-first P r rs (pos 1) (ap (coefficient P) e ∙ before P x (λ f. omega arith) (pos 1) d refl) refl

  first-down : (x : ℕ) (d : ℤ) (r : Row) (rs : List Row) → x < P → r.terms ≡ term d x ∷ minus P ∷ [] → Is (stands P (r ∷ rs))
  first-down x d r rs h e = stands-first P r rs (negsuc 0) (ap (coefficient P) e ∙ behind P x (λ f. omega arith) (negsuc 0) d refl) refl

  last-plus : (low : ℕ) (vs : List ℕ) → Rising low P vs → coefficient P (map plus vs ++ (minus P ∷ [])) ≡ negsuc 0
  unfolding coefficient
  last-plus low [] r = rw (is_true (eqb P P) (eqb_refl P)) refl
  last-plus low (v ∷ vs) r = let l = r.1 in rw (ne_eqb v P (λ e. omega arith), last-plus (v + 1) vs r.2) refl

  first-minus : (low : ℕ) (vs : List ℕ) → Rising low P vs → coefficient P (plus P ∷ map minus vs) ≡ pos 1
  unfolding coefficient
  first-minus low vs r =
      let others = rising_other P low P vs r (λ u g h e. omega arith) in
      rw (is_true (eqb P P) (eqb_refl P), coefficient-none P (map minus vs) (terms_lack P (negsuc 0) vs others)) refl

  own_kind : (k : Kind) (inner : Bool) (p q P' low : ℕ) (vs : List ℕ) → Apart k 1 P p q → Rising low P vs → Is (stands P (kind_rows k inner P p q P' vs))
  own_kind Atom inner p q P' low vs h r = first-up p (negsuc 0) _ _ (omega arith) refl
  own_kind Not inner p q P' low vs h r = first-up p (pos 1) _ _ (omega arith) refl
  own_kind And inner p q P' low vs h r = first-down p (pos 1) _ _ (omega (arith, h.0)) refl
  own_kind Or inner p q P' low vs h r = first-up p (negsuc 0) _ _ (omega (arith, h.0)) refl
  own_kind Implies inner p q P' low vs h r = first-up p (pos 1) _ _ (omega (arith, h.0)) refl
  own_kind Eventually true p q P' low vs h r = first-up p (negsuc 0) _ _ (omega arith) refl
  own_kind Eventually false p q P' low vs h r = first-up p (negsuc 0) _ _ (omega arith) refl
  own_kind Always true p q P' low vs h r = first-down p (pos 1) _ _ (omega arith) refl
  own_kind Always false p q P' low vs h r = first-up p (negsuc 0) _ _ (omega arith) refl
  own_kind Until true p q P' low vs h r = first-up q (negsuc 0) _ _ (omega (arith, h.1)) refl
  own_kind Until false p q P' low vs h r = first-up q (negsuc 0) _ _ (omega (arith, h.1)) refl
  own_kind Within inner p q P' low vs h r =
      stands-right P (map (λ v. ge (plus P ∷ minus v ∷ []) (pos 0)) vs) _ (stands-first P _ [] (negsuc 0) (last-plus low vs r) refl)
  own_kind Throughout inner p q P' low vs h r =
      stands-right P (map (λ v. ge (plus v ∷ minus P ∷ []) (pos 0)) vs) _ (stands-first P _ [] (pos 1) (first-minus low vs r) refl)

pub block-stands : (T L : ℕ) (b : Block) → Behind T b → (s : ℕ) → s < T → Is (stands (b.own + s) (block_rows b T L))
unfolding block_rows
block-stands T L b h s g =
    stands-flat (b.own + s) (block_on b T L) T s g
    (own_kind (b.own + s) b.kind (followed T (loops_of b) s) (b.left + s) (b.right + s) (following T b.own (next_of b) s) b.left
    (window_at T L b.left b.from b.to s) (apart-at b.kind T b.own b.left b.right s (omega arith) h.parts) (rising_block T L b h s))
