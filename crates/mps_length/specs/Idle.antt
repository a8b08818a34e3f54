-- The variables that stand in no row: those of the atoms that no node has.
use Rattle.std.proofs.Math.Path.{◌≡◌, refl, ap, subst⁻¹}
use Rattle.std.proofs.Common.{sym, subst, ◌∙◌, add-one, arith, eqb-true}
use Rattle.std.specs.Prelude.{Bool, cond, ℕ, ◌+◌, ◌-◌, ◌*◌, ◌<◌, eqb, ltb, pos, negsuc, length}
use Rattle.std.proofs.Math.Bool.{true, false}
use mathlib.Core.List.{List, [], ◌∷◌, ◌++◌}
use Rattle.std.proofs.Math.Decide.{dec_lt}
use Rattle.std.proofs.Math.Dec.{T as Is}
use Rattle.std.proofs.lemmas.Bool.{eqb-false}
use Rattle.lists.specs.Tests.{is_true}
use Rattle.lists.specs.Any.{any, any_iff}
use Rattle.lists.specs.Place.{place_lt, place_unique}
use Rattle.rules.specs.Rule.{Unary, Binary, Window}
use Rattle.rules.specs.Table.{Node, NodeGood, node_at, root}
use Rattle.rules.specs.Table.Node.{atom, unary, binary, windowed}
use Rattle.rules.specs.Rows.{Row, loops, looping, same_rows, slack_rows, goal_row, rows_of, variable_count}
use Rattle.rules.proofs.RowParts.{nodes-parts}
use Rattle.rules.specs.Solution.Looping.{looping_at}
use Rattle.rules.proofs.Solution.Looping.{looping-node, looping-loops, looping-at}
use Rattle.table.specs.Nodes.{node_by, node_of}
use Rattle.table.specs.Looping.{loops_by, loops-by}
use Rattle.table.specs.declared.Node as Table
use Rattle.table.specs.declared.Kind.{Kind}
use Rattle.table.specs.declared.Kind.TheVariants.{Atom, Not, And, Or, Implies, Eventually, Always, Until, Within, Throughout}
use Rattle.row.specs.declared.Block.{Block}
use Rattle.row.specs.Kinds.{left_block}
use Rattle.row.specs.NodeRows.{own-next, block_on, block_rows, kept_place, has_kept, part_rows, own_block, kept_block, part-blocks}
use Rattle.mps.specs.Merged.{stands}
use Rattle.lists.specs.Sums.{sum_to, sum_same, sum-times, sum-even, sum-split, sum-parts}
use Rattle.mps_length.specs.Blocks.{all-variables, own-has, own-is-behind, kept-is-behind}
use Rattle.mps_length.specs.Stands.{stands-left, stands-right, stands-flat, stands-first, behind, block-stands}
use Rattle.mps_length.specs.Stands.{none_rows, none-append, none-flat, block_none}
use Rattle.mps_length.specs.Sections.{idle_at}

-- ---- nodes of an atom

abbrev pub is_atom : (x : ℕ) → Node → Bool
is_atom x (atom a) = eqb x a
is_atom x (unary u c) = false
is_atom x (binary o l r) = false
is_atom x (windowed w a b c) = false

-- that of a node that is held as kind and left
abbrev pub IsAtomOf : Kind → (left x : ℕ) → Bool → Type 0
IsAtomOf k l x is = (r a b : ℕ) → is ≡ is_atom x (node_by k l r a b)

-- one of the first k nodes is of atom x
unfoldable pub has_atom : (ns : List Node) → (x k : ℕ) → Bool
has_atom ns x k = any (λ n. is_atom x (node_at ns n)) k

pub has-none : (ns : List Node) (x : ℕ) → has_atom ns x 0 ≡ false
unfolding has_atom any
has-none ns x = refl

pub has_more : (ns : List Node) (x k : ℕ) → has_atom ns x k ≡ false → is_atom x (node_at ns k) ≡ false → has_atom ns x (k + 1) ≡ false
unfolding has_atom any
has_more ns x k e f = rw (add-one, e, f)

pub has-found : (ns : List Node) (x i k : ℕ) → i < k → is_atom x (node_at ns i) ≡ true → has_atom ns x k ≡ true
unfolding has_atom
has-found ns x i k h e = is_true (any (λ n. is_atom x (node_at ns n)) k) ((any_iff (λ n. is_atom x (node_at ns n)) k).1 (i, h, rw e tt))

-- how many of the first k atoms none of n nodes has
abbrev pub idle_atoms : (ns : List Node) → (n k : ℕ) → ℕ
idle_atoms ns n k = sum_to (λ x. cond (has_atom ns x n) 0 1) k

-- ---- a node as a record holds it

abbrev held_by : Kind → (left right from to : ℕ) → Table.Node
held_by k l r a b = record { kind = k; left = l; right = r; from = a; to = b }

abbrev pub held : Node → Table.Node
held (atom a) = held_by Atom a 0 0 0
held (unary Unary.not c) = held_by Not c 0 0 0
held (unary Unary.eventually c) = held_by Eventually c 0 0 0
held (unary Unary.always c) = held_by Always c 0 0 0
held (binary Binary.and l r) = held_by And l r 0 0
held (binary Binary.or l r) = held_by Or l r 0 0
held (binary Binary.implies l r) = held_by Implies l r 0 0
held (binary Binary.until l r) = held_by Until l r 0 0
held (windowed Window.within a b c) = held_by Within c 0 a b
held (windowed Window.throughout a b c) = held_by Throughout c 0 a b

pub held-is : (x : Node) → node_of (held x) ≡ x
held-is (atom a) = refl
held-is (unary Unary.not c) = refl
held-is (unary Unary.eventually c) = refl
held-is (unary Unary.always c) = refl
held-is (binary Binary.and l r) = refl
held-is (binary Binary.or l r) = refl
held-is (binary Binary.implies l r) = refl
held-is (binary Binary.until l r) = refl
held-is (windowed Window.within a b c) = refl
held-is (windowed Window.throughout a b c) = refl

-- ---- the rows of node i

-- the left part is another variable than atom x's, unless the node is of that atom
left_other : (T M x s : ℕ) → x < M → s < T → (k : Kind) (l r a b : ℕ) → is_atom x (node_by k l r a b) ≡ false →
    (t : ℕ) → t < T → left_block k M l * T + t ≡ x * T + s → ⊥
left_other T M x s h g k l r a b = go k
  where
    high : (t : ℕ) → (M + l) * T + t ≡ x * T + s → ⊥
    high t e = omega (arith, place_lt {c = x} {n = M + l} {s = s} {T = T} (omega arith) g)

    go : (k : Kind) → is_atom x (node_by k l r a b) ≡ false → (t : ℕ) → t < T → left_block k M l * T + t ≡ x * T + s → ⊥
    go Atom f t i e = eqb-false x l f (sym (place_unique T i g e).0)
    go Not f t i e = high t e
    go And f t i e = high t e
    go Or f t i e = high t e
    go Implies f t i e = high t e
    go Eventually f t i e = high t e
    go Always f t i e = high t e
    go Until f t i e = high t e
    go Within f t i e = high t e
    go Throughout f t i e = high t e

module _ (T M L : ℕ) (ns : List Node) (i : ℕ) (h : i < length ns) where
  abbrev Here : ℕ → Type 0
  Here v = Is (stands v (part_rows T M L ns i))

  -- by the node's blocks
  module _ (nd : Table.Node) (is : node_of nd ≡ node_at ns i) where
    abbrev own : Block
    own = own_block T M L ns i nd is

    abbrev kept : Block
    kept = kept_block T M L ns i nd is

    in-own : (v : ℕ) → Is (stands v (block_rows own T L)) → Here v
    in-own v t =
        subst⁻¹ (λ (rs : List Row). Is (stands v rs)) (part-blocks T M L ns i nd is)
        (stands-right v (cond (has_kept T L nd) (block_rows kept T L) []) (block_rows own T L) t)

    in_kept : (v : ℕ) → has_kept T L nd ≡ true → Is (stands v (block_rows kept T L)) → Here v
    in_kept v e t =
        subst⁻¹ (λ (rs : List Row). Is (stands v rs))
        (part-blocks T M L ns i nd is ∙ ap (λ (c : Bool). cond c (block_rows kept T L) [] ++ block_rows own T L) e)
        (stands-left v (block_rows kept T L) (block_rows own T L) t)

    no_atom : (x s : ℕ) → x < M → s < T → is_atom x (node_at ns i) ≡ false → stands (x * T + s) (part_rows T M L ns i) ≡ false
    no_atom x s g l f =
        ap (stands v) (part-blocks T M L ns i nd is)
        ∙ none-append v (cond (has_kept T L nd) (block_rows kept T L) []) (block_rows own T L) (go (has_kept T L nd))
        (block_none v T L own (before i) other (before nd.right) (λ e. omega (arith, last, own-next (own-has T M L ns i nd is h) e)))
      where
        v : ℕ
        v = x * T + s

        before : (c : ℕ) → v < (M + c) * T
        before c = place_lt {c = x} {n = M + c} {s = s} {T = T} (omega arith) l

        last : v < kept_place T M ns i
        last = place_lt (omega arith) l

        other : (t : ℕ) → t < T → own.left + t ≡ v → ⊥
        other = left_other T M x s g l nd.kind nd.left nd.right nd.from nd.to (ap (is_atom x) is ∙ f)

        go : (c : Bool) → stands v (cond c (block_rows kept T L) []) ≡ false
        go true = block_none v T L kept last other (before nd.right) (λ e. let z : ◌≡◌ {A = ℕ} 0 1 = cc in absurd (omega arith))
        go false = none_rows v [] tt

  atom-here : (x s : ℕ) → x < M → s < T → (y : Node) → node_at ns i ≡ y → is_atom x y ≡ true → Here (x * T + s)
  unfolding block_rows
  atom-here x s g l (atom a) f e =
      let v = x * T + s in
      let own = own_block T M L ns i (held (atom a)) (sym f) in
      let far : (M + i) * T + s ≡ v → ⊥ = λ q. omega (arith, place_lt {c = x} {n = M + i} {s = s} {T = T} (omega arith) l) in
      let same : v ≡ a * T + s = ap (λ (y : ℕ). y * T + s) (eqb-true x a e) in
      let row = behind v ((M + i) * T + s) far (negsuc 0) (pos 1) refl in
      in-own (held (atom a)) (sym f) v
      (stands-flat v (block_on own T L) T s l
      (subst (λ (y : ℕ). Is (stands v (same_rows ((M + i) * T + s) y))) same (stands-first v _ [] (negsuc 0) row refl)))
  atom-here x s g l (unary u c) f e = let z : ◌≡◌ {A = ℕ} 0 1 = cc in absurd (omega arith)
  atom-here x s g l (binary o c d) f e = let z : ◌≡◌ {A = ℕ} 0 1 = cc in absurd (omega arith)
  atom-here x s g l (windowed w a b c) f e = let z : ◌≡◌ {A = ℕ} 0 1 = cc in absurd (omega arith)

  module _ (good : NodeGood M i (node_at ns i)) where
    abbrev nd : Table.Node
    nd = held (node_at ns i)

    abbrev is : node_of nd ≡ node_at ns i
    is = held-is (node_at ns i)

    own-here : (s : ℕ) → s < T → Here ((M + i) * T + s)
    own-here s g = in-own nd is ((M + i) * T + s) (block-stands T L (own_block T M L ns i nd is) (own-is-behind T M L ns i nd is h good) s g)

    kept_here : (s : ℕ) → s < T → ltb L T ≡ true → loops (node_at ns i) ≡ true → Here (kept_place T M ns i + s)
    kept_here s g looped e =
        let k : loops_by nd.kind ≡ true = loops-by nd.kind nd.left nd.right nd.from nd.to ∙ ap loops is ∙ e in
        in_kept nd is (kept_place T M ns i + s) (rw (looped, k) refl)
        (block-stands T L (kept_block T M L ns i nd is) (kept-is-behind T M L ns i nd is h good) s g)

-- ---- the rows of the table

module _ (T M L : ℕ) (ns : List Node) where
  abbrev N : ℕ
  N = length ns

  abbrev rs : List Row
  rs = rows_of T M L ns

  in_table : (v n : ℕ) → n < N → Is (stands v (part_rows T M L ns n)) → idle_at rs v ≡ 0
  in_table v n h t =
      ap (λ (b : Bool). cond b 0 1) (is_true (stands v rs) (stands-left v (slack_rows T M L ns) (goal_row T M ns ∷ [])
      (subst⁻¹ (λ (rs : List Row). Is (stands v rs)) (nodes-parts T M L ns) (stands-flat v (part_rows T M L ns) N n h t))))

  -- the variables of an atom that no node has stand in none
  not_in_table : (x s : ℕ) → x < M → s < T → ((n : ℕ) → n < N → is_atom x (node_at ns n) ≡ false) → stands (x * T + s) rs ≡ false
  not_in_table x s h g f =
      let v = x * T + s in
      let far : (M + root ns) * T + (1 - 1) ≡ v → ⊥ = λ e. omega (arith, place_lt {c = x} {n = M + root ns} {s = s} {T = T} (omega arith) g) in
      none-append v (slack_rows T M L ns) (goal_row T M ns ∷ [])
      (ap (stands v) (nodes-parts T M L ns)
      ∙ none-flat v (part_rows T M L ns) N (λ n l. no_atom T M L ns n l (held (node_at ns n)) (held-is (node_at ns n)) x s h g (f n l)))
      (none_rows v (goal_row T M ns ∷ []) ((far, tt), tt))

  abbrev test : (x n : ℕ) → Bool
  test x n = is_atom x (node_at ns n)

  atom-idle : (x s : ℕ) → x < M → s < T → idle_at rs (x * T + s) ≡ cond (has_atom ns x N) 0 1
  unfolding has_atom
  atom-idle x s h g = go (any (test x) N) refl
    where
      none : any (test x) N ≡ false → (n : ℕ) → n < N → (b : Bool) → test x n ≡ b → b ≡ false
      none e n l false f = refl
      none e n l true f = absurd (rw e at ((any_iff (test x) N).1 (n, l, rw f tt)))

      go : (b : Bool) → any (test x) N ≡ b → idle_at rs (x * T + s) ≡ cond b 0 1
      go true e =
          let w = (any_iff (test x) N).0 (rw e tt) in
          in_table (x * T + s) w.0 w.1 (atom-here T M L ns w.0 w.1 x s h g (node_at ns w.0) refl (is_true (test x w.0) w.2))
      go false e = ap (λ (b : Bool). cond b 0 1) (not_in_table x s h g (λ n l. none e n l (test x n) refl))

  -- how many blocks of slacks there are: the nodes' own, and their V's
  abbrev blocks : ℕ
  blocks = N + cond (ltb L T) (looping ns) 0

  module _ (good : (n : ℕ) → n < N → NodeGood M n (node_at ns n)) where
    kept-idle : (k s : ℕ) → s < T → ltb L T ≡ true → k < looping ns → idle_at rs ((M + (N + k)) * T + s) ≡ 0
    kept-idle k s g looped l =
        let n = looping_at ns k in
        let h = looping-node ns k l in
        subst (λ (j : ℕ). idle_at rs ((M + (N + j)) * T + s) ≡ 0) (looping-at ns k l)
        (in_table (kept_place T M ns n + s) n h (kept_here T M L ns n h (good n h) s g looped (looping-loops ns k l)))

    -- every slack stands in a row
    slack-idle : (j s : ℕ) → j < blocks → s < T → idle_at rs ((M + j) * T + s) ≡ 0
    slack-idle j s h g = go (dec_lt j N) (ltb L T) refl h
      where
        go : Dec (j < N) → (c : Bool) → ltb L T ≡ c → j < N + cond c (looping ns) 0 → idle_at rs ((M + j) * T + s) ≡ 0
        go (yes l) c e h = in_table ((M + j) * T + s) j l (own-here T M L ns j l (good j l) s g)
        go (no l) true e h =
            let q : N + (j - N) ≡ j = omega arith in
            subst (λ (k : ℕ). idle_at rs ((M + k) * T + s) ≡ 0) q (kept-idle (j - N) s g e (omega arith))
        go (no l) false e h = absurd (omega arith)

    -- those of part x at all slots
    abbrev idle_part : ℕ → ℕ
    idle_part x = sum_to (λ s. idle_at rs (x * T + s)) T

    pub idle-all : sum_to (idle_at rs) (variable_count T M L ns) ≡ T * idle_atoms ns N M
    idle-all =
        let idle : ℕ → ℕ = λ x. cond (has_atom ns x N) 0 1 in
        let a : sum_to idle_part M ≡ sum_to (λ x. T * idle x) M =
        sum_same idle_part (λ x. T * idle x) M (λ x h. sum-even (λ s. idle_at rs (x * T + s)) (idle x) T (λ s g. atom-idle x s h g)) in
        let b : sum_to (λ j. idle_part (M + j)) blocks ≡ blocks * 0 =
        sum-even (λ j. idle_part (M + j)) 0 blocks (λ j h. sum-even (λ s. idle_at rs ((M + j) * T + s)) 0 T (λ s g. slack-idle j s h g) ∙ omega arith) in
        ap (sum_to (idle_at rs)) (sym (all-variables T M L ns)) ∙ sum-parts (idle_at rs) T (M + blocks)
        ∙ omega (arith, sum-split idle_part M blocks, sum-times T idle M)
