-- A block at a slot, and its rows there.
use Rattle.std.specs.Prelude.{◌≡◌, refl, Bool, List, [], ℕ, ◌+◌, is_some, unwrap_or}
use Rattle.std.proofs.Common.{ap₂, ◌∙◌}
use Rattle.rules.specs.Rows.{Row}
use Rattle.row.specs.declared.Block.{Block}
use Rattle.row.specs.Kinds.{kind_rows, follower, follower-some, follower-is, window_at}
use Rattle.row.specs.NodeRows.{block_on}
use Rattle.table.specs.declared.Kind.{Kind}
use Rattle.table.specs.declared.Kind.TheVariants.{Atom, Not, And, Or, Implies, Eventually, Always, Until, Within, Throughout}
use Rattle.mps_row.specs.Laws.{Plain, not_plain}
use Rattle.mps_row.specs.declared.Spot.{Spot}

-- block b at slot s + 1 of T
abbrev pub spot_at : (T : ℕ) → Block → (s : ℕ) → Spot
spot_at T b s = record { kind = b.kind; own = b.own + s; left = b.left + s; right = b.right + s; next = follower T b.own b.next s }

-- its rows; vs has its part's variables at the slots of a window
abbrev pub spot_rows : Spot → (vs : List ℕ) → List Row
spot_rows s vs = kind_rows s.kind (is_some s.next) s.own s.left s.right (unwrap_or s.next 0) vs

-- they are the block's
pub spot-rows : (T L : ℕ) (b : Block) (s : ℕ) → spot_rows (spot_at T b s) (window_at T L b.left b.from b.to s) ≡ block_on b T L s
spot-rows T L b s =
    ap₂ (λ x n. kind_rows b.kind x (b.own + s) (b.left + s) (b.right + s) n (window_at T L b.left b.from b.to s))
    (follower-some T b.own b.next s) (follower-is T b.own b.next s)

-- without a window they do not go by its variables
plain-rows : (k : Kind) (inner : Bool) (P p q P' : ℕ) (vs : List ℕ) → Plain k → kind_rows k inner P p q P' [] ≡ kind_rows k inner P p q P' vs
plain-rows Atom inner P p q P' vs h = refl
plain-rows Not inner P p q P' vs h = refl
plain-rows And inner P p q P' vs h = refl
plain-rows Or inner P p q P' vs h = refl
plain-rows Implies inner P p q P' vs h = refl
plain-rows Eventually inner P p q P' vs h = refl
plain-rows Always inner P p q P' vs h = refl
plain-rows Until inner P p q P' vs h = refl
plain-rows Within inner P p q P' vs h = absurd (not_plain h)
plain-rows Throughout inner P p q P' vs h = absurd (not_plain h)

pub plain_rows : (T L : ℕ) (b : Block) (s : ℕ) → Plain b.kind → spot_rows (spot_at T b s) [] ≡ block_on b T L s
plain_rows T L b s h =
    let z = spot_at T b s in
    plain-rows b.kind (is_some z.next) z.own z.left z.right (unwrap_or z.next 0) (window_at T L b.left b.from b.to s) h ∙ spot-rows T L b s
