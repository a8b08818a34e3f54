-- The blocks of a node, its V's and its own, tested one after the other.
use Rattle.std.specs.Prelude.{◌≡◌, Option, Some, None, refl, Bool, true, false, ◌&&◌, ℕ, zero, suc, ◌+◌, ◌*◌, ◌≤◌, ◌<◌, ltb, ℤ, length, take}
use Rattle.std.proofs.Common.{sym, ap₂, ◌∙◌, arith}
use Rattle.std.proofs.Math.Path.{ap}
use Rattle.std.proofs.Math.Bool.{cond}
use mathlib.Core.List.{List, [], ◌++◌}
use Rattle.lists.specs.Flat.{flat, flat-same}
use Rattle.rules.specs.Quantities.{LoopAllowed}
use Rattle.rules.specs.Table.{Node, NodeGood, node_at}
use Rattle.rules.specs.TableTest.{nodes_in, record_count}
use Rattle.rules.proofs.TableTest.{length-nodes_in}
use Rattle.rules.specs.Rows.{Row, loops, looping}
use Rattle.table.specs.Nodes.{node_of}
use Rattle.table.specs.Looping.{loops_by, loops-by, looping_to, looping-more}
use Rattle.table.specs.declared.Kind.{Kind}
use Rattle.table.specs.declared.Node as Table
use Rattle.row.specs.declared.Block.{Block}
use Rattle.row.specs.Kinds.{Allowed, allowed}
use Rattle.row.specs.Placed.{first_limit, Placed}
use Rattle.row.specs.NodeRows.{Own, Kept, block_on, block_rows, both-rows, part_rows}
use Rattle.judge_slot.specs.Counts as Counts
use Rattle.judge_slot.specs.Searches.{Search, tested, reached, over, tested-none, tested-start, tested-more, over-rest}

-- a block can be tested; a node's can, with its V, whose first variable is v
pub record BlockReady (T L : ℕ) (b : Block) : Type 0 where
  pub slots-high : T ≤ 64
  pub loop : LoopAllowed T L
  pub placed : Placed b
  pub window : Allowed b.kind b.from b.to

pub record NodeReady (T L : ℕ) (b : Block) (v : ℕ) : Type 0 where
  pub block : BlockReady T L b
  pub place-low : v ≤ first_limit

-- the i-th of a node's two blocks, if it has it
pub record NthIs (T L v : ℕ) (b : Block) (i : ℕ) (c : Block) : Type 0 where
  pub has_it : i ≡ 0 → (ltb L T && loops_by b.kind) ≡ true
  pub kept : i ≡ 0 → Kept v b c
  pub own : i ≡ 1 → c ≡ b
  pub placed : Placed c

abbrev pub NthBlock : (T L v : ℕ) (b : Block) (i : ℕ) → Option Block → Type 0
NthBlock T L v b i (Some c) = NthIs T L v b i c
NthBlock T L v b i None = (i ≡ 0) × ((ltb L T && loops_by b.kind) ≡ false)

pub nth-ready : {T L : ℕ} {b : Block} {v i : ℕ} {c : Block} → NodeReady T L b v → i < 2 → NthIs T L v b i c → BlockReady T L c
nth-ready {T} {L} {b} {v} {i} {c} r h n = go i refl h
  where
    go : (j : ℕ) → i ≡ j → j < 2 → BlockReady T L c
    go zero e g =
        let k = n.kept e in
        record { slots-high = r.block.slots-high; loop = r.block.loop; placed = n.placed; window = rw (k.kind_is, k.from_is, k.to_is) r.block.window }
    go (suc zero) e g = rw (n.own e) r.block
    go (suc (suc j)) e g = absurd (omega arith)

-- the rows of V, block c, of the node of block b, where it has one
abbrev pub kept_rows : (T L : ℕ) → (b c : Block) → List Row
kept_rows T L b c = cond (ltb L T && loops_by b.kind) (block_rows c T L) []

kept_same : (T L : ℕ) {v : ℕ} {b c d : Block} → Kept v b c → Kept v b d → block_rows c T L ≡ block_rows d T L
unfolding block_rows
kept_same T L {c = c} {d = d} k j = flat-same (block_on c T L) (block_on d T L) T
    (λ s h. rw (k.kind_is, k.own_is, k.left_is, k.right_is, k.from_is, k.to_is, k.next-is)
    (rw (j.kind_is, j.own_is, j.left_is, j.right_is, j.from_is, j.to_is, j.next-is) refl))

-- the rows of the i-th block, c being V's
abbrev block_at : (T L : ℕ) → (b c : Block) → (i : ℕ) → List Row
block_at T L b c zero = kept_rows T L b c
block_at T L b c (suc i) = block_rows b T L

-- a loop over them
module _ (T L : ℕ) (b : Block) (v : ℕ) (e : ℕ) (f : Row → ℤ) (s : Search) where
  -- those of the first i blocks are tested
  pub record Testing (i : ℕ) (x : Search) : Type 0 where
    pub is : (c : Block) → Kept v b c → x ≡ tested e f s (flat (block_at T L b c) i)
    pub few : reached x ≤ reached s + Counts.block * i

  pub testing_start : Testing 0 s
  testing_start = record { is = λ c j. sym (tested-start e f s (block_at T L b c)); few = omega arith }

  more_is : (i : ℕ) {y x : Search} {rs : List Row} (c : Block) → y ≡ tested e f s (flat (block_at T L b c) i) → rs ≡ block_at T L b c i → x ≡ tested e f y rs →
      x ≡ tested e f s (flat (block_at T L b c) (i + 1))
  more_is i {y} c t r p =
      p ∙ ap (tested e f y) r ∙ ap (λ (z : Search). tested e f z (block_at T L b c i)) t ∙ sym (tested-more e f s (block_at T L b c) i)

  pub testing_more : (i : ℕ) {y x : Search} {d : Block} → i < 2 → Testing i y → NthIs T L v b i d → x ≡ tested e f y (block_rows d T L) →
      reached x ≤ reached y + Counts.block → Testing (i + 1) x
  testing_more i {d = d} h t n p m = record { is = λ c j. more_is i c (t.is c j) (rows c j i refl h) p; few = omega (arith, t.few) }
    where
      rows : (c : Block) → Kept v b c → (j : ℕ) → i ≡ j → j < 2 → block_rows d T L ≡ block_at T L b c j
      rows c k zero z g = kept_same T L (n.kept z) k ∙ sym (ap (λ (x : Bool). cond x (block_rows c T L) []) (n.has_it z))
      rows c k (suc zero) z g = ap (λ (a : Block). block_rows a T L) (n.own z)
      rows c k (suc (suc j)) z g = absurd (omega arith)

  -- V has none
  pub testing_none : (i : ℕ) {y : Search} → Testing i y → (i ≡ 0) × ((ltb L T && loops_by b.kind) ≡ false) → Testing (i + 1) y
  testing_none i {y} t n =
      record {
        is = λ c j. more_is i c (t.is c j) (rw n.0 (sym (ap (λ (x : Bool). cond x (block_rows c T L) []) n.1))) (sym (tested-none e f y));
        few = omega (arith, t.few);
      }

  -- a row is broken
  pub testing_over : (i : ℕ) {x : Search} → i < 2 → Testing (i + 1) x → over x ≡ true → Testing 2 x
  testing_over i h t o = record {
    is = λ c j. over-rest e f s (block_at T L b c) (i + 1) 2 (omega arith) (t.is c j) o;
    few = omega (arith, t.few);
  }

-- block b is that of node n in the table ns, and v the first variable of its V
pub record OwnIn (T M L : ℕ) (ns : List Node) (n v : ℕ) (b : Block) : Type 0 where
  pub node : Table.Node
  pub is : node_of node ≡ node_at ns n
  pub place : v ≡ (M + (length ns + looping (take n ns))) * T
  pub own : Own T M L n v node b

module _ (T M L : ℕ) (ns : List Node) (n v : ℕ) (b : Block) (o : OwnIn T M L ns n v b) where
  -- its V's block
  abbrev kept_of : Block
  kept_of = record { kind = b.kind; own = v; left = b.left; right = b.right; from = b.from; to = b.to; next = None }

  kept-is : Kept v b kept_of
  kept-is = record { kind_is = refl; own_is = refl; left_is = refl; right_is = refl; from_is = refl; to_is = refl; next-is = refl }

  part-is : flat (block_at T L b kept_of) 2 ≡ part_rows T M L ns n
  unfolding flat
  part-is =
      ap (λ (k : Kind). cond (ltb L T && loops_by k) (block_rows kept_of T L) [] ++ block_rows b T L) o.own.kind_is
      ∙ both-rows T M L ns n v o.node b kept_of o.is o.place o.own kept-is

  pub part-tested : (e : ℕ) (f : Row → ℤ) (s : Search) {x : Search} → Testing T L b v e f s 2 x → x ≡ tested e f s (part_rows T M L ns n)
  part-tested e f s t = t.is kept_of kept-is ∙ ap (tested e f s) part-is

-- ---- a loop over the nodes, which counts those with a V

pub own-ready : {T M L n v : ℕ} {nd : Table.Node} {b : Block} → T ≤ 64 → LoopAllowed T L → Own T M L n v nd b → Placed b → v ≤ first_limit →
    NodeGood M n (node_of nd) → NodeReady T L b v
own-ready {M = M} {n = n} {nd = nd} h l o p v g = record {
  block = record {
    slots-high = h;
    loop = l;
    placed = p;
    window = rw (o.kind_is, o.from_is, o.to_is) (allowed M n nd.kind nd.left nd.right nd.from nd.to g);
  };
  place-low = v;
}

module _ (T M L : ℕ) (table : List ℕ) (i kept : ℕ) (nd : Table.Node) (counts : kept ≡ looping_to (nodes_in table) i)
    (is : node_of nd ≡ node_at (nodes_in table) i) where
  pub own_in : (n : ℕ) {v : ℕ} {b : Block} → n ≡ record_count table → v ≡ (M + n + kept) * T → Own T M L i v nd b → OwnIn T M L (nodes_in table) i v b
  own_in n e p o =
      let z : M + n + kept ≡ M + (length (nodes_in table) + looping_to (nodes_in table) i) = omega (arith, length-nodes_in M table) in
      record { node = nd; is = is; place = p ∙ ap (λ (k : ℕ). k * T) z; own = o }

  pub kept_more : i < record_count table → {has : Bool} {k : ℕ} → has ≡ loops_by nd.kind → k ≡ cond has (kept + 1) kept → k ≡ looping_to (nodes_in table) (i + 1)
  kept_more h e f =
      let here = e ∙ loops-by nd.kind nd.left nd.right nd.from nd.to ∙ ap loops is in
      f ∙ ap₂ (λ (b : Bool) (k : ℕ). cond b (k + 1) k) here counts ∙ sym (looping-more (nodes_in table) i (omega (arith, length-nodes_in M table)))
