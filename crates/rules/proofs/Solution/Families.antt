-- The families of rows: where the values that a node's rows name are truths, the rows hold exactly when the node's value is its truth.
use Rattle.std.specs.Prelude.{◌≡◌, refl, ◌↔◌, Bool, true, false, not as notb, ◌&&◌, ◌||◌, List, [], ◌∷◌, ◌++◌, map, ℕ, zero, suc, ◌+◌, ◌-◌, ◌*◌, ◌≤◌, ◌<◌, ltb, length, pos, neg_ℤ}
use Rattle.std.proofs.Math.Logic.Iff as Iff
use Rattle.std.proofs.Common.{arith}
use Rattle.lists.specs.Every.{Every, every_append}
use Rattle.lists.specs.Passing.{some_of, every_of, every-passing, passing-some}
use Rattle.rules.specs.Quantities.{LoopAllowed}
use Rattle.rules.specs.Rule.{Unary, Binary, Window}
use Rattle.rules.specs.Rule.Unary.{not, eventually, always}
use Rattle.rules.specs.Rule.Binary.{and, or, implies, until}
use Rattle.rules.specs.Rule.Window.{within, throughout}
use Rattle.rules.specs.Table.{Node, NodeGood}
use Rattle.rules.specs.Truth.{slot_of}
use Rattle.rules.specs.Rows.{Row, plus, minus, ge, slack, atom_variable, same_rows, not_rows, and_rows, or_rows, implies_rows, until_rows, unary_rows}
use Rattle.rules.specs.Rows.{binary_rows, in_window, window_slots, window_rows, unary_loops, binary_loops, loops, loop_slack}
use Rattle.rules.specs.Rows.{goes_on, next_slack, rows_at, loop_rows_at}
use Rattle.rules.proofs.Slots.{slot_le, slot_pos}
use Rattle.rules.specs.Evaluation.{window_now}
use Rattle.rules.proofs.Evaluation.{unary_now, binary_now, node_now, kept_now, window-at}
use Rattle.rules.proofs.Solution.Integers.{Met, plus_of, minus_of, up, down}

-- the numerator of a truth
abbrev pub scale : ℕ → Bool → ℕ
scale D true = D
scale D false = 0

pub scale_le : (D : ℕ) (b : Bool) → scale D b ≤ D
scale_le D true = omega arith
scale_le D false = omega arith

module _ (D : ℕ) (y : ℕ → ℕ) (P p : ℕ) where
  pin_same : (b : Bool) → y p ≡ scale D b → Every (Met D y) (same_rows P p) ↔ (y P ≡ scale D b)
  pin_same b e = (λ h. omega arith, λ h. omega arith)

  pin_not : (b : Bool) → y p ≡ scale D b → Every (Met D y) (not_rows P p) ↔ (y P ≡ scale D (notb b))
  pin_not true e = (λ h. omega arith, λ h. omega arith)
  pin_not false e = (λ h. omega arith, λ h. omega arith)

module _ (D : ℕ) (y : ℕ → ℕ) (P p q : ℕ) (top : y P ≤ D) where
  pin_and : (b c : Bool) → y p ≡ scale D b → y q ≡ scale D c → Every (Met D y) (and_rows P p q) ↔ (y P ≡ scale D (b && c))
  pin_and true true e f = (λ h. omega arith, λ h. omega arith)
  pin_and true false e f = (λ h. omega arith, λ h. omega arith)
  pin_and false true e f = (λ h. omega arith, λ h. omega arith)
  pin_and false false e f = (λ h. omega arith, λ h. omega arith)

  pin_or : (b c : Bool) → y p ≡ scale D b → y q ≡ scale D c → Every (Met D y) (or_rows P p q) ↔ (y P ≡ scale D (b || c))
  pin_or true true e f = (λ h. omega arith, λ h. omega arith)
  pin_or true false e f = (λ h. omega arith, λ h. omega arith)
  pin_or false true e f = (λ h. omega arith, λ h. omega arith)
  pin_or false false e f = (λ h. omega arith, λ h. omega arith)

  pin_implies : (b c : Bool) → y p ≡ scale D b → y q ≡ scale D c → Every (Met D y) (implies_rows P p q) ↔ (y P ≡ scale D (notb b || c))
  pin_implies true true e f = (λ h. omega arith, λ h. omega arith)
  pin_implies true false e f = (λ h. omega arith, λ h. omega arith)
  pin_implies false true e f = (λ h. omega arith, λ h. omega arith)
  pin_implies false false e f = (λ h. omega arith, λ h. omega arith)

  pin_until : (P' : ℕ) (b c d : Bool) → y p ≡ scale D b → y q ≡ scale D c → y P' ≡ scale D d →
      Every (Met D y) (until_rows P p q P') ↔ (y P ≡ scale D (c || (b && d)))
  pin_until P' true true true e f g = (λ h. omega arith, λ h. omega arith)
  pin_until P' true true false e f g = (λ h. omega arith, λ h. omega arith)
  pin_until P' true false true e f g = (λ h. omega arith, λ h. omega arith)
  pin_until P' true false false e f g = (λ h. omega arith, λ h. omega arith)
  pin_until P' false true true e f g = (λ h. omega arith, λ h. omega arith)
  pin_until P' false true false e f g = (λ h. omega arith, λ h. omega arith)
  pin_until P' false false true e f g = (λ h. omega arith, λ h. omega arith)
  pin_until P' false false false e f g = (λ h. omega arith, λ h. omega arith)

-- ---- by kind; the value at the next slot is asked for only where the kind looks at it and a slot follows

module _ (D : ℕ) (y : ℕ → ℕ) (P p P' : ℕ) (top : y P ≤ D) (b d : Bool) (e : y p ≡ scale D b) where
  pin_unary : (u : Unary) (inner : Bool) → (unary_loops u ≡ true → inner ≡ true → y P' ≡ scale D d) →
      Every (Met D y) (unary_rows u inner P p P') ↔ (y P ≡ scale D (unary_now u inner b d))
  pin_unary not true g = pin_not D y P p b e
  pin_unary not false g = pin_not D y P p b e
  pin_unary eventually true g = pin_or D y P p P' top b d e (g refl refl)
  pin_unary eventually false g = pin_same D y P p b e
  pin_unary always true g = pin_and D y P p P' top b d e (g refl refl)
  pin_unary always false g = pin_same D y P p b e

module _ (D : ℕ) (y : ℕ → ℕ) (P p q P' : ℕ) (top : y P ≤ D) (b c d : Bool) (e : y p ≡ scale D b) (f : y q ≡ scale D c) where
  pin_binary : (o : Binary) (inner : Bool) → (binary_loops o ≡ true → inner ≡ true → y P' ≡ scale D d) →
      Every (Met D y) (binary_rows o inner P p q P') ↔ (y P ≡ scale D (binary_now o inner b c d))
  pin_binary and true g = pin_and D y P p q top b c e f
  pin_binary and false g = pin_and D y P p q top b c e f
  pin_binary or true g = pin_or D y P p q top b c e f
  pin_binary or false g = pin_or D y P p q top b c e f
  pin_binary implies true g = pin_implies D y P p q top b c e f
  pin_binary implies false g = pin_implies D y P p q top b c e f
  pin_binary until true g = pin_until D y P p q top P' b c d e f (g refl refl)
  pin_binary until false g = pin_same D y P q c f

-- ---- windows, for all widths together

pub every_map {ℓ} : {A : Type ℓ} (Q : A → Type 0) (f : ℕ → A) (R : ℕ → Type 0) → ((s : ℕ) → Q (f s) ↔ R s) → (ss : List ℕ) → Every Q (map f ss) ↔ Every R ss
every_map Q f R e [] = (λ h. tt, λ h. tt)
every_map Q f R e (s ∷ ss) = (λ h. ((e s).0 h.0, (every_map Q f R e ss).0 h.1), λ h. ((e s).1 h.0, (every_map Q f R e ss).1 h.1))

pub up_neg : (m : ℕ) → up (neg_ℤ (pos m)) ≡ 0
up_neg zero = refl
up_neg (suc m) = refl

pub down_neg : (m : ℕ) → down (neg_ℤ (pos m)) ≡ m
down_neg zero = refl
down_neg (suc m) = refl

-- one more slot: c its truth, e that of the rest
some-low : (D : ℕ) (c e : Bool) (x S : ℕ) → x ≡ scale D c → scale D e ≤ S → scale D (c || e) ≤ x + S
some-low D true true x S p q = omega arith
some-low D true false x S p q = omega arith
some-low D false true x S p q = omega arith
some-low D false false x S p q = omega arith

some-high : (D : ℕ) (c e : Bool) (n x S : ℕ) → x ≡ scale D c → S ≤ n * scale D e → x + S ≤ suc n * scale D (c || e)
some-high D true true n x S p q = omega arith
some-high D true false n x S p q = omega arith
some-high D false true n x S p q = omega arith
some-high D false false n x S p q = omega arith

some-join : (D : ℕ) (c e : Bool) (Y : ℕ) → scale D c ≤ Y → scale D e ≤ Y → scale D (c || e) ≤ Y
some-join D true true Y p q = omega arith
some-join D true false Y p q = omega arith
some-join D false true Y p q = omega arith
some-join D false false Y p q = omega arith

some-part : (D : ℕ) (c e : Bool) (Y : ℕ) → scale D (c || e) ≤ Y → (scale D c ≤ Y) × (scale D e ≤ Y)
some-part D true true Y p = omega arith
some-part D true false Y p = omega arith
some-part D false true Y p = omega arith
some-part D false false Y p = omega arith

every-join : (D : ℕ) (c e : Bool) (Y : ℕ) → Y ≤ scale D c → Y ≤ scale D e → Y ≤ scale D (c && e)
every-join D true true Y p q = omega arith
every-join D true false Y p q = omega arith
every-join D false true Y p q = omega arith
every-join D false false Y p q = omega arith

every-part : (D : ℕ) (c e : Bool) (Y : ℕ) → Y ≤ scale D (c && e) → (Y ≤ scale D c) × (Y ≤ scale D e)
every-part D true true Y p = omega arith
every-part D true false Y p = omega arith
every-part D false true Y p = omega arith
every-part D false false Y p = omega arith

every-high : (D : ℕ) (c e : Bool) (n x S : ℕ) → x ≡ scale D c → S + D ≤ n * D + scale D e → x + S + D ≤ suc n * D + scale D (c && e)
every-high D true true n x S p q = omega arith
every-high D true false n x S p q = omega arith
every-high D false true n x S p q = omega arith
every-high D false false n x S p q = omega arith

every-low : (D : ℕ) (c e : Bool) (n x S : ℕ) → x ≡ scale D c → n * scale D e ≤ S → suc n * scale D (c && e) ≤ x + S
every-low D true true n x S p q = omega arith
every-low D true false n x S p q = omega arith
every-low D false true n x S p q = omega arith
every-low D false false n x S p q = omega arith

pred_mul : (n D : ℕ) → 1 ≤ n → (n - 1) * D + D ≡ n * D
pred_mul zero D h = absurd (omega arith)
pred_mul (suc m) D h = let e : suc m - 1 ≡ m = omega arith in rw e (omega arith)

squeeze : (D n Y : ℕ) (c : Bool) → Y ≤ D → scale D c ≤ Y → Y ≤ n * scale D c → Y ≡ scale D c
squeeze D n Y true t p q = omega arith
squeeze D n Y false t p q = omega arith

squeeze-all : (D n Y S : ℕ) (c : Bool) → Y ≤ D → Y ≤ scale D c → n * scale D c ≤ S → S + D ≤ Y + n * D → Y ≡ scale D c
squeeze-all D n Y S true t p q r = omega arith
squeeze-all D n Y S false t p q r = omega arith

module _ (D : ℕ) (y : ℕ → ℕ) (v : ℕ → ℕ) (b : ℕ → Bool) where
  abbrev sum : List ℕ → ℕ
  sum [] = 0
  sum (s ∷ ss) = y (v s) + sum ss

  abbrev Right : List ℕ → Type 0
  Right ss = Every (λ s. y (v s) ≡ scale D (b s)) ss

  plus-up : (P : ℕ) (ss : List ℕ) → plus_of y (map (λ s. plus (v s)) ss ++ (minus P ∷ [])) ≡ sum ss
  plus-up P [] = omega arith
  plus-up P (s ∷ ss) = omega (arith, plus-up P ss)

  minus-up : (P : ℕ) (ss : List ℕ) → minus_of y (map (λ s. plus (v s)) ss ++ (minus P ∷ [])) ≡ y P
  minus-up P [] = omega arith
  minus-up P (s ∷ ss) = omega (arith, minus-up P ss)

  plus-down : (ss : List ℕ) → plus_of y (map (λ s. minus (v s)) ss) ≡ 0
  plus-down [] = refl
  plus-down (s ∷ ss) = omega (arith, plus-down ss)

  minus-down : (ss : List ℕ) → minus_of y (map (λ s. minus (v s)) ss) ≡ sum ss
  minus-down [] = refl
  minus-down (s ∷ ss) = omega (arith, minus-down ss)

  any-low : (ss : List ℕ) → Right ss → scale D (some_of b ss) ≤ sum ss
  any-low [] r = omega arith
  any-low (s ∷ ss) r = some-low D (b s) (some_of b ss) (y (v s)) (sum ss) r.0 (any-low ss r.1)

  any-high : (ss : List ℕ) → Right ss → sum ss ≤ length ss * scale D (some_of b ss)
  any-high [] r = omega arith
  any-high (s ∷ ss) r = some-high D (b s) (some_of b ss) (length ss) (y (v s)) (sum ss) r.0 (any-high ss r.1)

  any-join : (Y : ℕ) (ss : List ℕ) → Right ss → Every (λ s. y (v s) ≤ Y) ss → scale D (some_of b ss) ≤ Y
  any-join Y [] r h = omega arith
  any-join Y (s ∷ ss) r h = some-join D (b s) (some_of b ss) Y (rw r.0 at h.0) (any-join Y ss r.1 h.1)

  any_part : (Y : ℕ) (ss : List ℕ) → Right ss → scale D (some_of b ss) ≤ Y → Every (λ s. y (v s) ≤ Y) ss
  any_part Y [] r h = tt
  any_part Y (s ∷ ss) r h = let z = some-part D (b s) (some_of b ss) Y h in (rw r.0 z.0, any_part Y ss r.1 z.1)

  all-low : (ss : List ℕ) → Right ss → length ss * scale D (every_of b ss) ≤ sum ss
  all-low [] r = omega arith
  all-low (s ∷ ss) r = every-low D (b s) (every_of b ss) (length ss) (y (v s)) (sum ss) r.0 (all-low ss r.1)

  all-high : (ss : List ℕ) → Right ss → sum ss + D ≤ length ss * D + scale D (every_of b ss)
  all-high [] r = omega arith
  all-high (s ∷ ss) r = every-high D (b s) (every_of b ss) (length ss) (y (v s)) (sum ss) r.0 (all-high ss r.1)

  all_join : (Y : ℕ) → Y ≤ D → (ss : List ℕ) → Right ss → Every (λ s. Y ≤ y (v s)) ss → Y ≤ scale D (every_of b ss)
  all_join Y t [] r h = t
  all_join Y t (s ∷ ss) r h = every-join D (b s) (every_of b ss) Y (rw r.0 at h.0) (all_join Y t ss r.1 h.1)

  all-part : (Y : ℕ) (ss : List ℕ) → Right ss → Y ≤ scale D (every_of b ss) → Every (λ s. Y ≤ y (v s)) ss
  all-part Y [] r h = tt
  all-part Y (s ∷ ss) r h = let z = every-part D (b s) (every_of b ss) Y h in (rw r.0 z.0, all-part Y ss r.1 z.1)

  module _ (P : ℕ) (top : y P ≤ D) (ss : List ℕ) (r : Right ss) where
    abbrev up_row : ℕ → Row
    up_row s = ge (plus P ∷ minus (v s) ∷ []) (pos 0)

    abbrev down_row : ℕ → Row
    down_row s = ge (plus (v s) ∷ minus P ∷ []) (pos 0)

    abbrev sum_row : Row
    sum_row = ge (map (λ s. plus (v s)) ss ++ (minus P ∷ [])) (pos 0)

    abbrev less_row : Row
    less_row = ge (plus P ∷ map (λ s. minus (v s)) ss) (neg_ℤ (pos (length ss - 1)))

    within-each : Every (Met D y) (map up_row ss) ↔ Every (λ s. y (v s) ≤ y P) ss
    within-each = every_map (Met D y) up_row (λ s. y (v s) ≤ y P) (λ s. (λ h. omega arith, λ h. omega arith)) ss

    throughout_each : Every (Met D y) (map down_row ss) ↔ Every (λ s. y P ≤ y (v s)) ss
    throughout_each = every_map (Met D y) down_row (λ s. y P ≤ y (v s)) (λ s. (λ h. omega arith, λ h. omega arith)) ss

    less-met : 1 ≤ length ss → Met D y less_row ↔ (sum ss + D ≤ y P + length ss * D)
    less-met n =
        rw (up_neg (length ss - 1), down_neg (length ss - 1), plus-down ss, minus-down ss)
        (λ h. omega (arith, pred_mul (length ss) D n), λ h. omega (arith, pred_mul (length ss) D n))

    pub pin_window : (w : Window) → 1 ≤ length ss → Every (Met D y) (window_rows w P v ss) ↔ (y P ≡ scale D (window_now w b ss))
    pin_window within n = Iff.trans (every_append (Met D y) (map up_row ss) (sum_row ∷ [])) (
      λ h. squeeze D (length ss) (y P) (some_of b ss) top (any-join (y P) ss r (within-each.0 h.0))
          (omega (arith, h.1.0, plus-up P ss, minus-up P ss, any-high ss r)),
      λ e. (within-each.1 (any_part (y P) ss r (omega arith)), (omega (arith, plus-up P ss, minus-up P ss, any-low ss r), tt)),
    )
    pin_window throughout n = Iff.trans (every_append (Met D y) (map down_row ss) (less_row ∷ [])) (
      λ h. squeeze-all D (length ss) (y P) (sum ss) (every_of b ss) top (all_join (y P) top ss r (throughout_each.0 h.0))
          (all-low ss r) ((less-met n).0 h.1.0),
      λ e. (throughout_each.1 (all-part (y P) ss r (omega arith)), ((less-met n).1 (omega (arith, all-high ss r)), tt)),
    )

-- ---- the rows of node n at slot t, and those of its V

module _ (T M L D : ℕ) (ns : List Node) (y : ℕ → ℕ) (n t : ℕ) (low : 1 ≤ t) (high : t ≤ T) (parts : ℕ → ℕ → Bool)
    (below : (c s : ℕ) → c < n → 1 ≤ s → s ≤ T → y (slack T M c s) ≡ scale D (parts c s)) where
  pub pin_node : LoopAllowed T L → y (slack T M n t) ≤ D → (on : ℕ → Bool) (d : Bool) → ((a : ℕ) → a < M → y (atom_variable T a t) ≡ scale D (on a)) →
      (nd : Node) → (loops nd ≡ true → goes_on T L t ≡ true → y (next_slack T M L ns n t) ≡ scale D d) →
      NodeGood M n nd → Every (Met D y) (rows_at T M L ns n nd t) ↔ (y (slack T M n t) ≡ scale D (node_now T L t on parts d nd))
  pin_node loop top on d atoms (Node.atom a) next h = pin_same D y (slack T M n t) (atom_variable T a t) (on a) (atoms a h)
  pin_node loop top on d atoms (Node.unary u c) next h =
      pin_unary D y (slack T M n t) (slack T M c t) (next_slack T M L ns n t) top (parts c t) d (below c t h low high) u (goes_on T L t) next
  pin_node loop top on d atoms (Node.binary o p q) next h =
      pin_binary D y (slack T M n t) (slack T M p t) (slack T M q t) (next_slack T M L ns n t) top (parts p t) (parts q t) d
      (below p t h.0 low high) (below q t h.1 low high) o (goes_on T L t) next
  pin_node loop top on d atoms (Node.windowed w a b c) next h =
      pin_window D y (slack T M c) (parts c) (slack T M n t) top (window_slots T L t a b)
      (every-passing (in_window T L t a b) (λ s. y (slack T M c s) ≡ scale D (parts c s)) T 1 (λ s g i k. below c s h.0 g (omega arith))) w
      (passing-some (in_window T L t a b) T 1 (slot_of T L (t + a)) (slot_pos T L loop (t + a) (omega arith)) (omega (arith, slot_le T L loop (t + a)))
      (window-at T L a b t a (omega arith) h.1.0))

  pub pin_loop : y (loop_slack T M ns n t) ≤ D → (d : Bool) → (ltb t T ≡ true → y (loop_slack T M ns n (t + 1)) ≡ scale D d) →
      (nd : Node) → loops nd ≡ true → NodeGood M n nd →
      Every (Met D y) (loop_rows_at T M ns n nd t) ↔ (y (loop_slack T M ns n t) ≡ scale D (kept_now T t parts d nd))
  pin_loop top d next (Node.atom a) k h = let z : ◌≡◌ {A = ℕ} 0 1 = cc in absurd (omega arith)
  pin_loop top d next (Node.unary u c) k h =
      rw k
      (pin_unary D y (loop_slack T M ns n t) (slack T M c t) (loop_slack T M ns n (t + 1)) top (parts c t) d (below c t h low high) u (ltb t T) (λ i. next))
  pin_loop top d next (Node.binary o p q) k h =
      rw k
      (pin_binary D y (loop_slack T M ns n t) (slack T M p t) (slack T M q t) (loop_slack T M ns n (t + 1)) top (parts p t) (parts q t) d
      (below p t h.0 low high) (below q t h.1 low high) o (ltb t T) (λ i. next))
  pin_loop top d next (Node.windowed w a b c) k h = let z : ◌≡◌ {A = ℕ} 0 1 = cc in absurd (omega arith)
