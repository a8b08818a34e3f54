-- The loops that find the layout and the users: what is written so far, before the first turn and after one more.
use Rattle.std.specs.Prelude.{◌≡◌, refl, Bool, true, false, ◌||◌, ◌&&◌, List, [], ◌∷◌, ◌++◌, ℕ, ◌+◌, ◌≤◌, ◌<◌, eqb, length, get_or, set, take}
use Rattle.std.proofs.Common.{sym, subst, ◌∙◌, append-nil, eq-eqb, ne_eqb, arith, length-set, length-append, get_or-set_same, get_or-set_other}
use Rattle.std.proofs.Math.Path.{ap}
use Rattle.std.proofs.Math.Bool.{cond}
use Rattle.std.proofs.Math.Decide.{dec_lt}
use Rattle.std.proofs.Math.ListN.{get_or-append}
use Rattle.std.proofs.lemmas.List.{get_or_at}
use Rattle.lists.specs.Flat.{flat, flat-zero, flat-more}
use Rattle.rules.specs.Table.{Node, NodeGood, node_at}
use Rattle.rules.specs.Table.Node.{atom, unary, binary, windowed}
use Rattle.rules.specs.Rows.{loops, looping}
use Rattle.rules.specs.Solution.Looping.{looping_at}
use Rattle.rules.proofs.Solution.Looping.{at-looping}
use Rattle.row.specs.NodeRows.{rows_to, kept_place}
use Rattle.mps_users.specs.Users.{has_part, kept_part, uses, user_at, users}
use Rattle.mps_users.specs.Picked.{flat-only}
use Rattle.mps_users.specs.Found.{nowhere, Layout, Found}
use Rattle.mps_users.specs.declared.Place.{Place}

-- a property of what stands at each place before i, and then, after a store at i, of what stands at each place before i + 1
set-each : {A : Type 0} (d : A) (P : ℕ → A → Type 0) (l : List A) (i : ℕ) (v : A) → i < length l → ((j : ℕ) → j < i → P j (get_or l j d)) → P i v →
    (j : ℕ) → j < i + 1 → P j (get_or (set l i v) j d)
set-each d P l i v h before here j g = go (dec_lt j i)
  where
    go : Dec (j < i) → P j (get_or (set l i v) j d)
    go (yes k) = subst (P j) (sym (get_or-set_other l i j v d (λ e. omega arith))) (before j k)
    go (no k) =
        let e : i ≡ j = omega arith in
        subst (λ (m : ℕ). P m (get_or (set l i v) m d)) e (subst (P i) (sym (get_or-set_same l i v d h)) here)

-- ---- the layout

pub layout_none : (T M L : ℕ) (ns : List Node) (l : List Place) → length l ≡ 128 → Layout T M L ns 0 l
layout_none T M L ns l e = record { starts = λ i h. absurd (omega arith); kepts = λ i h. absurd (omega arith); long = e }

-- the place of node i was stored
pub layout_more : (T M L : ℕ) (ns : List Node) (i : ℕ) (l : List Place) (p : Place) → i < 128 → Layout T M L ns i l →
    p.first_row ≡ length (rows_to T M L ns i) → p.kept ≡ kept_place T M ns i → Layout T M L ns (i + 1) (set l i p)
layout_more T M L ns i l p h d e f = record {
  starts = set-each nowhere (λ j q. q.first_row ≡ length (rows_to T M L ns j)) l i p (omega (arith, d.long)) d.starts e;
  kepts = set-each nowhere (λ j q. q.kept ≡ kept_place T M ns j) l i p (omega (arith, d.long)) d.kepts f;
  long = length-set l i p ∙ d.long;
}

-- ---- the users

-- the users of part x among the first i nodes stand at the start of the list
pub record FoundTo (M : ℕ) (ns : List Node) (x i : ℕ) (list : List ℕ) (count : ℕ) : Type 0 where
  pub counted : count ≡ length (flat (user_at M ns x) i)
  pub few : count ≤ i
  pub are : (j : ℕ) → j < count → get_or list j 0 ≡ get_or (flat (user_at M ns x) i) j 0
  pub low : (j : ℕ) → j < count → get_or list j 0 < i
  pub room : count ≤ length list

pub found_none : (M : ℕ) (ns : List Node) (x : ℕ) (l : List ℕ) → FoundTo M ns x 0 l 0
found_none M ns x l = record {
  counted = rw flat-zero;
  few = omega arith;
  are = λ j h. absurd (omega arith);
  low = λ j h. absurd (omega arith);
  room = omega arith;
}

module _ {M : ℕ} {ns : List Node} {x i : ℕ} {l : List ℕ} {count : ℕ} (d : FoundTo M ns x i l count) where
  abbrev f : ℕ → List ℕ
  f = user_at M ns x

  next : {b : Bool} → uses M ns x i ≡ b → flat f (i + 1) ≡ flat f i ++ cond b (i ∷ []) []
  next e = flat-more f i ∙ ap (λ (b : Bool). flat f i ++ cond b (i ∷ []) []) e

  -- node i is a user, and was stored behind the others
  pub found-more : uses M ns x i ≡ true → count < length l → {m : List ℕ} {count' : ℕ} → m ≡ set l count i → count' ≡ count + 1 →
      FoundTo M ns x (i + 1) m count'
  found-more e h {m} {count'} p q =
      let more : flat f (i + 1) ≡ flat f i ++ i ∷ [] = next e in
      let same : length (flat f i) ≡ count = sym d.counted in
      rw (p, q)
      (record {
        counted = rw more (simp length-append (omega arith));
        few = omega (arith, d.few);
        are = rw more
            (set-each 0 (λ j v. v ≡ get_or (flat f i ++ i ∷ []) j 0) l count i h (λ j g. d.are j g ∙ sym (get_or-append (flat f i) (i ∷ []) 0 j (omega arith)))
            (sym (get_or_at (flat f i) i [] 0 count same)));
        low = set-each 0 (λ j v. v < i + 1) l count i h (λ j g. omega (arith, d.low j g)) (omega arith);
        room = omega (arith, length-set l count i);
      })

  -- node i is no user
  pub found-same : uses M ns x i ≡ false → {m : List ℕ} {count' : ℕ} → m ≡ l → count' ≡ count → FoundTo M ns x (i + 1) m count'
  found-same e {m} {count'} p q =
      let same : flat f (i + 1) ≡ flat f i = next e ∙ append-nil (flat f i) in
      rw (p, q)
      (record {
        counted = rw same d.counted;
        few = omega (arith, d.few);
        are = rw same d.are;
        low = λ j h. omega (arith, d.low j h);
        room = d.room;
      })

  -- all nodes were passed
  pub found_all : i ≡ length ns → i ≤ 128 → Found M ns x l count
  unfolding users
  found_all e h = record {
    counted = rw (← e) d.counted;
    few = omega (arith, d.few);
    are = rw (← e) d.are;
    low = rw (← e) d.low;
    room = d.room;
  }

-- ---- a part that is an atom's or a node's own is no V

or-none : (a b : Bool) → (b ≡ false) → (a || b) ≡ a
or-none true b e = refl
or-none false b e = e

pub uses-part : (M : ℕ) (ns : List Node) (x n : ℕ) → x < M + length ns → uses M ns x n ≡ has_part M x n (node_at ns n)
uses-part M ns x n h =
    or-none (has_part M x n (node_at ns n)) _
    (ap (λ (b : Bool). loops (node_at ns n) && b) (ne_eqb x (kept_part M ns n) (λ e. absurd (omega arith))) ∙ none (loops (node_at ns n)))
  where
    none : (a : Bool) → (a && false) ≡ false
    none true = refl
    none false = refl

-- ---- and a V's part has its node alone

module _ (M : ℕ) (ns : List Node) (good : (n : ℕ) → n < length ns → NodeGood M n (node_at ns n)) (n : ℕ) (low : n < length ns)
    (k : loops (node_at ns n) ≡ true) where
  abbrev x : ℕ
  x = kept_part M ns n

  -- no node has it as its own or as a part
  no_part : (i : ℕ) (nd : Node) → i < length ns → NodeGood M i nd → has_part M x i nd ≡ false
  no_part i (atom a) h g = rw (ne_eqb x (M + i) (λ e. omega arith), ne_eqb x a (λ e. omega arith)) refl
  no_part i (unary u c) h g = rw (ne_eqb x (M + i) (λ e. omega arith), ne_eqb x (M + c) (λ e. omega arith)) refl
  no_part i (binary o c d) h g =
      rw (ne_eqb x (M + i) (λ e. omega arith), ne_eqb x (M + c) (λ e. omega (arith, g.0)), ne_eqb x (M + d) (λ e. omega (arith, g.1))) refl
  no_part i (windowed w a b c) h g = rw (ne_eqb x (M + i) (λ e. omega arith), ne_eqb x (M + c) (λ e. omega (arith, g.0))) refl

  -- and another node has another V
  another : (i : ℕ) → i < length ns → (i ≡ n → ⊥) → uses M ns x i ≡ false
  another i h f = rw (no_part i (node_at ns i) h (good i h)) (go (loops (node_at ns i)) refl)
    where
      go : (b : Bool) → loops (node_at ns i) ≡ b → (b && eqb x (kept_part M ns i)) ≡ false
      go true e =
          ne_eqb x (kept_part M ns i)
          (λ q. f (sym (at-looping ns i e) ∙ ap (looping_at ns) (let z : looping (take i ns) ≡ looping (take n ns) = omega arith in z) ∙ at-looping ns n k))
      go false e = refl

  this : uses M ns x n ≡ true
  this = rw (no_part n (node_at ns n) low (good n low), k) (eq-eqb x x refl)

  kept-users : users M ns x ≡ n ∷ []
  unfolding users
  kept-users =
      flat-only (user_at M ns x) n (length ns) low (λ i h f. ap (λ (b : Bool). cond b (i ∷ []) []) (another i h f))
      ∙ ap (λ (b : Bool). cond b (n ∷ []) []) this

  pub found-kept : Found M ns x (n ∷ []) 1
  found-kept = record {
    counted = ap length (sym kept-users);
    few = omega arith;
    are = λ j h. ap (λ (l : List ℕ). get_or l j 0) (sym kept-users);
    low = λ j h. let z : j ≡ 0 = omega arith in rw z low;
    room = omega arith;
  }
