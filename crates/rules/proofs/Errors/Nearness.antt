-- A node's rows bring its figure as near to its truth as e and its parts' error figures.
use Rattle.std.specs.Prelude.{◌≡◌, refl, Bool, true, false, List, [], ◌∷◌, ℕ, ◌+◌, ◌≤◌, ◌<◌, ltb}
use Rattle.std.proofs.Common.{arith}
use Rattle.lists.specs.Every.{Every}
use Rattle.lists.specs.Passing.{passing-some}
use Rattle.rules.specs.Rule.{Unary, Binary}
use Rattle.rules.specs.Rule.Unary.{not, eventually, always}
use Rattle.rules.specs.Rule.Binary.{and, or, implies, until}
use Rattle.rules.specs.Table.{Node, NodeGood}
use Rattle.rules.specs.Table.Node.{atom, unary, binary, windowed}
use Rattle.rules.specs.Truth.{slot_of}
use Rattle.rules.specs.Rows.{slack, atom_variable, unary_loops, binary_loops, loops, loop_slack, unary_rows, binary_rows, in_window}
use Rattle.rules.specs.Rows.{window_slots, goes_on, next_slack, rows_at, loop_rows_at}
use Rattle.rules.specs.Quantities.{LoopAllowed}
use Rattle.rules.proofs.Slots.{slot_le, slot_pos}
use Rattle.rules.proofs.Evaluation.{unary_now, binary_now, node_now, kept_now, window-at}
use Rattle.rules.specs.Errors.Sums.{sum_over}
use Rattle.rules.proofs.Errors.Sums.{sum-map}
use Rattle.rules.proofs.Errors.Naturals.{Held, Near}
use Rattle.rules.proofs.Errors.Families.{near-window, near_same, near-not, near-and, near-or, near_implies, near-until}
use Rattle.rules.proofs.Errors.Parts.{unary_parts, binary_parts, parts_at, loop_parts_at, window-all}

-- a distance below D asks for the same of every part
module _ (D e : ℕ) (u d f : ℕ → ℕ) where
  -- within its error figure, if that is below D
  abbrev pub NearBy : ℕ → Bool → Type 0
  NearBy v b = f v < D → Near D u d (f v) v b

  module _ (P p P' : ℕ) (top : u P ≤ D + d P + e) (bottom : d P ≤ u P + e) (b x : Bool) (h : NearBy p b) where
    near-unary : (o : Unary) (inner : Bool) → (unary_loops o ≡ true → inner ≡ true → NearBy P' x) → e + sum_over f (unary_parts o inner p P') < D →
        Every (Held D e u d) (unary_rows o inner P p P') →
        Near D u d (e + sum_over f (unary_parts o inner p P')) P (unary_now o inner b x)
    near-unary not true g s r = near-not D e u d P top bottom p (f p) b (h (omega arith)) r
    near-unary not false g s r = near-not D e u d P top bottom p (f p) b (h (omega arith)) r
    near-unary eventually true g s r = near-or D e u d P top bottom p P' (f p) (f P') b x (h (omega arith)) (g refl refl (omega arith)) r
    near-unary eventually false g s r = near_same D e u d P top bottom p (f p) b (h (omega arith)) r
    near-unary always true g s r = near-and D e u d P top bottom p P' (f p) (f P') b x (h (omega arith)) (g refl refl (omega arith)) r
    near-unary always false g s r = near_same D e u d P top bottom p (f p) b (h (omega arith)) r

    near-binary : (q : ℕ) (c : Bool) → NearBy q c → (o : Binary) (inner : Bool) → (binary_loops o ≡ true → inner ≡ true → NearBy P' x) →
        e + sum_over f (binary_parts o inner p q P') < D →
        Every (Held D e u d) (binary_rows o inner P p q P') → Near D u d (e + sum_over f (binary_parts o inner p q P')) P (binary_now o inner b c x)
    near-binary q c k and true g s r = near-and D e u d P top bottom p q (f p) (f q) b c (h (omega arith)) (k (omega arith)) r
    near-binary q c k and false g s r = near-and D e u d P top bottom p q (f p) (f q) b c (h (omega arith)) (k (omega arith)) r
    near-binary q c k or true g s r = near-or D e u d P top bottom p q (f p) (f q) b c (h (omega arith)) (k (omega arith)) r
    near-binary q c k or false g s r = near-or D e u d P top bottom p q (f p) (f q) b c (h (omega arith)) (k (omega arith)) r
    near-binary q c k implies true g s r = near_implies D e u d P top bottom p q (f p) (f q) b c (h (omega arith)) (k (omega arith)) r
    near-binary q c k implies false g s r = near_implies D e u d P top bottom p q (f p) (f q) b c (h (omega arith)) (k (omega arith)) r
    near-binary q c k until true g s r =
        near-until D e u d P top bottom p q (f p) (f q) b c (h (omega arith)) (k (omega arith)) P' (f P') x (g refl refl (omega arith)) r
    near-binary q c k until false g s r = near_same D e u d P top bottom q (f q) c (k (omega arith)) r

  near-below : (v : ℕ → ℕ) (b : ℕ → Bool) (ss : List ℕ) → Every (λ s. NearBy (v s) (b s)) ss → sum_over (λ s. f (v s)) ss < D →
      Every (λ s. Near D u d (f (v s)) (v s) (b s)) ss
  near-below v b [] h small = tt
  near-below v b (s ∷ ss) h small = (h.0 (omega arith), near-below v b ss h.1 (omega arith))

  -- the rows of node n at slot t and those of its V, as in Solution.Families
  module _ (T M L : ℕ) (ns : List Node) (n t : ℕ) (low : 1 ≤ t) (high : t ≤ T) (parts : ℕ → ℕ → Bool)
      (below : (c s : ℕ) → c < n → 1 ≤ s → s ≤ T → NearBy (slack T M c s) (parts c s)) where
    pub near-node : LoopAllowed T L → u (slack T M n t) ≤ D + d (slack T M n t) + e → d (slack T M n t) ≤ u (slack T M n t) + e → (on : ℕ → Bool) (x : Bool) →
        ((a : ℕ) → a < M → NearBy (atom_variable T a t) (on a)) → (nd : Node) →
        (loops nd ≡ true → goes_on T L t ≡ true → NearBy (next_slack T M L ns n t) x) → NodeGood M n nd →
        e + sum_over f (parts_at T M L ns n nd t) < D → Every (Held D e u d) (rows_at T M L ns n nd t) →
        Near D u d (e + sum_over f (parts_at T M L ns n nd t)) (slack T M n t) (node_now T L t on parts x nd)
    near-node loop top bottom on x atoms (atom a) next h s r =
        near_same D e u d (slack T M n t) top bottom (atom_variable T a t) (f (atom_variable T a t)) (on a) (atoms a h (omega arith)) r
    near-node loop top bottom on x atoms (unary o c) next h s r =
        near-unary (slack T M n t) (slack T M c t) (next_slack T M L ns n t) top bottom (parts c t) x (below c t h low high) o (goes_on T L t) next s r
    near-node loop top bottom on x atoms (binary o l r) next h s rows =
        near-binary (slack T M n t) (slack T M l t) (next_slack T M L ns n t) top bottom (parts l t) x (below l t h.0 low high)
        (slack T M r t) (parts r t) (below r t h.1 low high) o (goes_on T L t) next s rows
    near-node loop top bottom on x atoms (windowed w a b c) next h s rows =
        let v = slack T M c in
        let ss = window_slots T L t a b in
        let same = sum-map f v ss in
        rw same
        (near-window D e u d (slack T M n t) top bottom v (λ i. f (v i)) (parts c) w ss
        (passing-some (in_window T L t a b) T 1 (slot_of T L (t + a)) (slot_pos T L loop (t + a) (omega arith)) (omega (arith, slot_le T L loop (t + a)))
        (window-at T L a b t a (omega arith) h.1.0))
        (near-below v (parts c) ss (window-all (λ i. NearBy (v i) (parts c i)) T L t a b (λ i j k. below c i h.0 j k)) (omega (arith, same))) rows)

    pub near-kept : u (loop_slack T M ns n t) ≤ D + d (loop_slack T M ns n t) + e → d (loop_slack T M ns n t) ≤ u (loop_slack T M ns n t) + e → (x : Bool) →
        (ltb t T ≡ true → NearBy (loop_slack T M ns n (t + 1)) x) → (nd : Node) → loops nd ≡ true → NodeGood M n nd →
        e + sum_over f (loop_parts_at T M ns n nd t) < D → Every (Held D e u d) (loop_rows_at T M ns n nd t) →
        Near D u d (e + sum_over f (loop_parts_at T M ns n nd t)) (loop_slack T M ns n t) (kept_now T t parts x nd)
    near-kept top bottom x next (atom a) k h s r = let z : ◌≡◌ {A = ℕ} 0 1 = cc in absurd (omega arith)
    near-kept top bottom x next (unary o c) k h s r =
        rw k
        (near-unary (loop_slack T M ns n t) (slack T M c t) (loop_slack T M ns n (t + 1)) top bottom (parts c t) x (below c t h low high) o (ltb t T)
        (λ i. next) (rw k at s) (rw k at r))
    near-kept top bottom x next (binary o p q) k h s r =
        rw k
        (near-binary (loop_slack T M ns n t) (slack T M p t) (loop_slack T M ns n (t + 1)) top bottom (parts p t) x (below p t h.0 low high)
        (slack T M q t) (parts q t) (below q t h.1 low high)
        o (ltb t T) (λ i. next) (rw k at s) (rw k at r))
    near-kept top bottom x next (windowed w a b c) k h s r = let z : ◌≡◌ {A = ℕ} 0 1 = cc in absurd (omega arith)
