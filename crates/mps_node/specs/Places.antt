-- The blocks of a node with their variables, and a block at a slot.
use Rattle.std.specs.Prelude.{◌≡◌, Bool, true, false, Option, Some, None, List, [], ◌++◌, ℕ, ◌+◌, ◌*◌, ◌≤◌, ◌<◌, length, take}
use Rattle.std.proofs.Common.{mul-le-mul, arith}
use Rattle.rules.specs.Table.{Node, NodeGood, node_at}
use Rattle.rules.specs.Rows.{Row, looping}
use Rattle.table.specs.Nodes.{node_of}
use Rattle.table.specs.Looping.{looping-few}
use Rattle.table.specs.declared.Node as Table
use Rattle.row.specs.declared.Block.{Block}
use Rattle.row.specs.Apart.{Behind, own_behind, kept-behind}
use Rattle.row.specs.Kinds.{Allowed, allowed}
use Rattle.row.specs.NodeRows.{block_rows, Own, Kept, kept_place, has_kept}
use Rattle.row.specs.Placed.{Placed}
use Rattle.mps_line.specs.Bounds.{all_parts}
use Rattle.mps_node.specs.declared.Blocks.{Blocks}

-- the rows of V's block, where there is one
abbrev pub kept_rows : (T L : ℕ) → Option Block → List Row
kept_rows T L (Some b) = block_rows b T L
kept_rows T L None = []

-- the rows of both blocks: "All of a node's V rows, by slot, come before its P rows."
abbrev pub blocks_rows : (T L : ℕ) → Blocks → List Row
blocks_rows T L bs = kept_rows T L bs.kept ++ block_rows bs.own T L

-- a block whose variables are within bounds and in order
pub record Fit (T : ℕ) (b : Block) : Type 0 where
  pub placed : Placed b
  pub allowed : Allowed b.kind b.from b.to
  pub behind : Behind T b

pub own-fit : (T M L n v : ℕ) (nd : Table.Node) (b : Block) → Own T M L n v nd b → Placed b → NodeGood M n (node_of nd) → (M + n) * T + T ≤ v → Fit T b
own-fit T M L n v nd b o p good h = record {
  placed = p;
  allowed = rw (o.kind_is, o.from_is, o.to_is) (allowed M n nd.kind nd.left nd.right nd.from nd.to good);
  behind = own_behind T M L n v nd b o good h;
}

pub kept-fit : (T v : ℕ) (b c : Block) → Kept v b c → Placed c → b.own ≤ v → Fit T b → Fit T c
kept-fit T v b c k p h f = record {
  placed = p;
  allowed = rw (k.kind_is, k.from_is, k.to_is) f.allowed;
  behind = kept-behind T v b c k h f.behind;
}

abbrev pub KeptFit : (T : ℕ) → Option Block → Type 0
KeptFit T (Some b) = Fit T b
KeptFit T None = Unit {0}

-- V's block, with the first variable v, where a node has one
abbrev pub KeptAt : (v : ℕ) (own : Block) (has : Bool) → Option Block → Type 0
KeptAt v own has (Some b) = (has ≡ true) × Kept v own b
KeptAt v own has None = has ≡ false

-- they are node n's of the table, whose V has the first variable v
pub record BlocksAt (T M L : ℕ) (ns : List Node) (n v : ℕ) (bs : Blocks) : Type 0 where
  pub node : Table.Node
  pub is : node_of node ≡ node_at ns n
  pub place : v ≡ kept_place T M ns n
  pub own_is : Own T M L n v node bs.own
  pub kept-is : KeptAt v bs.own (has_kept T L node) bs.kept
  pub own-fit : Fit T bs.own
  pub kept-fit : KeptFit T bs.kept

-- V's first variable, at 64 slots of each part before it
pub kept_low : (T M : ℕ) (ns : List Node) (n : ℕ) → T ≤ 64 → M ≤ 16 → length ns ≤ 128 → n < length ns → kept_place T M ns n ≤ all_parts * 64
kept_low T M ns n t m few h =
    let c : (M + (length ns + looping (take n ns))) * T ≤ all_parts * 64 = mul-le-mul {n₂ = all_parts} {m₂ = 64} (omega (arith, looping-few ns n)) t in
    omega arith
