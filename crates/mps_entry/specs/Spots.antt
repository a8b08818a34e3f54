-- A node without a window at a slot.
use Rattle.std.specs.Prelude.{◌≡◌, Option, Some, is_some, unwrap_or, cond, Bool, true, false, ℕ, ◌+◌, ◌≤◌, ◌<◌, ltb}
use Rattle.std.proofs.Common.{ap, arith}
use Rattle.row.specs.Apart.{Apart, Behind, apart-at}
use Rattle.row.specs.declared.Block.{Block}
use Rattle.row.specs.NodeRows.{loops_of, next_of}
use Rattle.mps_line.specs.Bounds.{number_limit, LinesFit, plain_lines}
use Rattle.mps_row.specs.Laws.{Plain}
use Rattle.mps_row.specs.declared.Spot.{Spot}
use Rattle.mps_row.specs.Spots.{spot_at}

-- the lines of variable v in its rows, from row i on, can be put from `at` on
abbrev pub EntriesFit : (at v i : ℕ) → Type 0
EntriesFit at v i = LinesFit at plain_lines × (v < number_limit) × (i + plain_lines ≤ number_limit)

-- its parts' variables stand before its own, and what follows behind
pub record Ordered (s : Spot) : Type 0 where
  pub plain : Plain s.kind
  pub parts : Apart s.kind 1 s.own s.left s.right
  pub next : (n : ℕ) → s.next ≡ Some n → s.own < n

-- so they do in a block that stands behind its parts
pub ordered : (T : ℕ) (b : Block) (s : ℕ) → s < T → Plain b.kind → Behind T b → Ordered (spot_at T b s)
ordered T b s h plain behind = record {
  plain = plain;
  parts = apart-at b.kind T b.own b.left b.right s (omega arith) behind.parts;
  next = go (ltb (s + 1) T);
}
  where
    go : (x : Bool) (n : ℕ) → cond x (Some (b.own + s + 1)) b.next ≡ Some n → b.own + s < n
    go true n e = let same : b.own + s + 1 ≡ n = cc in omega arith
    go false n e =
        let loops : loops_of b ≡ true = ap is_some e in
        let same : next_of b ≡ n = ap (λ (x : Option ℕ). unwrap_or x 0) e in
        omega (arith, behind.next loops)
