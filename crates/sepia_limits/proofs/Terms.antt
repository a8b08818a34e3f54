-- No row has more terms than slots and one.
use Rattle.std.specs.Prelude.{refl, Bool, true, false, cond, List, [], ◌∷◌, ◌++◌, map, ℕ, zero, suc, ◌+◌, ◌-◌, ◌≤◌, pos, neg_ℤ, length}
use Rattle.std.proofs.Common.{subst, arith, length-append}
use Rattle.std.proofs.Math.Path.{subst⁻¹}
use Rattle.std.proofs.Math.ListN.{length-map}
use Rattle.lists.specs.Every.{Every, every_append}
use Rattle.lists.specs.Flat.{flat}
use Rattle.lists.specs.Passing.{passing-length}
use Rattle.rules.specs.Table.{Node, node_at}
use Rattle.rules.specs.Rows.{Row, plus, minus, ge, in_window, window_slots, goal_row, slack_rows, rows_of}
use Rattle.table.specs.declared.Kind.{Kind}
use Rattle.table.specs.declared.Kind.TheVariants.{Atom, Not, And, Or, Implies, Eventually, Always, Until, Within, Throughout}
use Rattle.row.specs.declared.Block.{Block}
use Rattle.row.specs.Kinds.{kind_rows, window_at, followed, following}
use Rattle.row.specs.NodeRows.{loops_of, next_of, block_on, block_rows, has_kept, part_rows, rows_to, all-parts, own_block, kept_block, part-blocks}
use Rattle.mps_length.specs.Idle.{held, held-is}
use Rattle.sepia_limits.specs.Limits.{max_terms}

abbrev Few : Row → Type 0
Few r = length r.terms ≤ max_terms

few-each : (f : ℕ → Row) → ((v : ℕ) → Few (f v)) → (vs : List ℕ) → Every Few (map f vs)
few-each f h [] = tt
few-each f h (v ∷ vs) = (h v, few-each f h vs)

few-flat : (f : ℕ → List Row) (n : ℕ) → ((i : ℕ) → Every Few (f i)) → Every Few (flat f n)
unfolding flat
few-flat f zero h = tt
few-flat f (suc n) h = (every_append Few (flat f n) (f n)).1 (few-flat f n h, h n)

few_kind : (k : Kind) (inner : Bool) (P p q P' : ℕ) (vs : List ℕ) → length vs ≤ 64 → Every Few (kind_rows k inner P p q P' vs)
few_kind Atom inner P p q P' vs h = omega arith
few_kind Not inner P p q P' vs h = omega arith
few_kind And inner P p q P' vs h = omega arith
few_kind Or inner P p q P' vs h = omega arith
few_kind Implies inner P p q P' vs h = omega arith
few_kind Eventually true P p q P' vs h = omega arith
few_kind Eventually false P p q P' vs h = omega arith
few_kind Always true P p q P' vs h = omega arith
few_kind Always false P p q P' vs h = omega arith
few_kind Until true P p q P' vs h = omega arith
few_kind Until false P p q P' vs h = omega arith
few_kind Within inner P p q P' vs h =
    let pairs : ℕ → Row = λ v. ge (plus P ∷ minus v ∷ []) (pos 0) in
    let long : Row = ge (map plus vs ++ (minus P ∷ [])) (pos 0) in
    (every_append Few (map pairs vs) (long ∷ [])).1
    (few-each pairs (λ v. omega arith) vs, (omega (arith, length-append (map plus vs) (minus P ∷ []), length-map vs plus), tt))
few_kind Throughout inner P p q P' vs h =
    let pairs : ℕ → Row = λ v. ge (plus v ∷ minus P ∷ []) (pos 0) in
    let long : Row = ge (plus P ∷ map minus vs) (neg_ℤ (pos (length vs - 1))) in
    (every_append Few (map pairs vs) (long ∷ [])).1 (few-each pairs (λ v. omega arith) vs, (omega (arith, length-map vs minus), tt))

module _ (T M L : ℕ) (T≤64 : T ≤ 64) (ns : List Node) where
  few-block : (b : Block) → Every Few (block_rows b T L)
  unfolding block_rows
  few-block b =
      few-flat (block_on b T L) T
      (λ s.
      let slots = window_slots T L (s + 1) b.from b.to in
      few_kind b.kind (followed T (loops_of b) s) (b.own + s) (b.left + s) (b.right + s) (following T b.own (next_of b) s)
      (window_at T L b.left b.from b.to s)
      (omega (arith, length-map slots (λ (i : ℕ). b.left + (i - 1)), passing-length (in_window T L (s + 1) b.from b.to) T 1)))

  few-part : (n : ℕ) → Every Few (part_rows T M L ns n)
  few-part n =
      let nd = held (node_at ns n) in
      let is = held-is (node_at ns n) in
      let own = block_rows (own_block T M L ns n nd is) T L in
      let kept = block_rows (kept_block T M L ns n nd is) T L in
      subst⁻¹ (Every Few) (part-blocks T M L ns n nd is)
      ((every_append Few (cond (has_kept T L nd) kept []) own).1 (go (has_kept T L nd) kept (few-block _), few-block _))
    where
      go : (b : Bool) (rs : List Row) → Every Few rs → Every Few (cond b rs [])
      go true rs h = h
      go false rs h = tt

  pub few-terms : Every Few (rows_of T M L ns)
  unfolding rows_to
  few-terms =
      (every_append Few (slack_rows T M L ns) (goal_row T M ns ∷ [])).1
      (subst (Every Few) (all-parts T M L ns (length ns) refl) (few-flat (part_rows T M L ns) (length ns) few-part), omega arith)
