-- A window's rows by the variables of its slots, and their records as parts one after the other: a loop over the slots writes them.
use Rattle.std.specs.Prelude.{◌≡◌, refl, true, List, [], ◌∷◌, ◌++◌, map, ℕ, zero, suc, ◌+◌, ◌-◌, ◌≤◌, ◌<◌, min, pos, neg_ℤ}
use Rattle.std.proofs.Common.{sym, ap, ap₂, ◌∙◌, arith}
use Rattle.std.proofs.Math.Decide.{dec_lt}
use Rattle.std.proofs.lemmas.List.{length-map}
use Rattle.lists.specs.Flat.{flat, flat-zero, flat-first}
use Rattle.lists.specs.Tabulate.{tabulate}
use Rattle.lists.specs.Passing.{in_ranges, passing-ranges}
use Rattle.rules.specs.Quantities.{LoopAllowed}
use Rattle.rules.specs.Rule.{Window}
use Rattle.rules.specs.Rule.Window.{within, throughout}
use Rattle.rules.specs.Rows.{Term, Row, plus, minus, ge, term_bytes, terms_bytes, row_bytes, rows_bytes, in_window, window_slots, window_rows}
use Rattle.rules.proofs.Slots.{slot_pos, slot_le}
use Rattle.rules.proofs.Windows.{start, end, in-plain, in-wrapped, in-neither}

-- ---- which slots they are: one range, or two

module _ (T L t a b : ℕ) (loop : LoopAllowed T L) (ends : a ≤ b) (0<t : 1 ≤ t) where
  abbrev x : ℕ
  x = start T L t a b loop ends

  abbrev y : ℕ
  y = end T L t a b loop ends

  bounds : (1 ≤ x) × (x ≤ T)
  bounds = (slot_pos T L loop (t + a) (omega arith), slot_le T L loop (t + a))

  -- the window ends by slot T
  pub window-plain : y ≤ T → window_slots T L t a b ≡ tabulate (y - x + 1 + 0) (in_ranges x (y - x + 1) 0)
  window-plain h =
      let neither = in-neither T L t a b loop ends in
      passing-ranges (in_window T L t a b) T x (y - x + 1) 0 0 bounds.0 (omega arith)
      (λ s u v. in-plain T L t a b loop ends s u (omega arith) (omega arith)) (λ s u v. absurd (omega arith))
      (λ s u v. neither s (λ p. omega (arith, p)) (λ p. omega (arith, p))) (λ s u v. absurd (omega arith))
      (λ s u v. neither s (λ p. omega (arith, p)) (λ p. omega (arith, p)))

  -- it goes on from slot L, and reaches its own first slot, or the one before it
  pub window-joined : T < y → x ≤ L + (y - T) → window_slots T L t a b ≡ tabulate (T + 1 - min L x + 0) (in_ranges (min L x) (T + 1 - min L x) 0)
  window-joined h g =
      let neither = in-neither T L t a b loop ends in
      passing-ranges (in_window T L t a b) T (min L x) (T + 1 - min L x) 0 0 (omega (arith, bounds, loop)) (omega (arith, bounds))
      (λ s u v. inside s u (omega (arith, bounds)) (dec_lt s x)) (λ s u v. absurd (omega arith))
      (λ s u v. neither s (λ p. omega (arith, p)) (λ p. omega (arith, p))) (λ s u v. absurd (omega arith))
      (λ s u v. absurd (omega (arith, bounds)))
    where
      inside : (s : ℕ) → min L x ≤ s → s ≤ T → Dec (s < x) → in_window T L t a b s ≡ true
      inside s u v (yes l) = in-wrapped T L t a b loop ends s (omega arith) (omega arith) v
      inside s u v (no l) = in-plain T L t a b loop ends s (omega arith) (omega arith) v

  -- or does not reach them
  pub window_parted : T < y → L + (y - T) < x → window_slots T L t a b ≡ tabulate (y - T + (T + 1 - x)) (in_ranges L (y - T) (x - (L + (y - T))))
  window_parted h g =
      let neither = in-neither T L t a b loop ends in
      passing-ranges (in_window T L t a b) T L (y - T) (x - (L + (y - T))) (T + 1 - x) loop.0 (omega (arith, bounds))
      (λ s u v. in-wrapped T L t a b loop ends s u v (omega (arith, bounds)))
      (λ s u v. in-plain T L t a b loop ends s (omega arith) (omega (arith, bounds)) (omega (arith, bounds)))
      (λ s u v. neither s (λ p. omega (arith, p)) (λ p. omega (arith, p)))
      (λ s u v. neither s (λ p. omega (arith, p)) (λ p. omega (arith, p)))
      (λ s u v. absurd (omega (arith, bounds)))

-- ---- the rows by the variables

module _ (P : ℕ) (p : ℕ → ℕ) where
  map-map : {A : Type 0} (f : ℕ → A) (ss : List ℕ) → map (λ s. f (p s)) ss ≡ map f (map p ss)
  map-map f [] = refl
  map-map f (s ∷ ss) = ap (λ (l : List _). f (p s) ∷ l) (map-map f ss)

  pub window-variables : (w : Window) (ss : List ℕ) → window_rows w P p ss ≡ window_rows w P (λ v. v) (map p ss)
  window-variables within ss =
      ap₂ (λ (rs : List Row) (ts : List Term). rs ++ (ge (ts ++ (minus P ∷ [])) (pos 0) ∷ []))
      (map-map (λ v. ge (plus P ∷ minus v ∷ []) (pos 0)) ss) (map-map plus ss)
  window-variables throughout ss =
      ap₂ (λ (rs : List Row) (r : Row). rs ++ (r ∷ []))
      (map-map (λ v. ge (plus v ∷ minus P ∷ []) (pos 0)) ss)
      (ap₂ (λ (ts : List Term) (k : ℕ). ge (plus P ∷ ts) (neg_ℤ (pos (k - 1)))) (map-map minus ss) (sym (length-map ss p)))

-- ---- records one after the other

pub rows-each : (f : ℕ → Row) (n : ℕ) → rows_bytes (tabulate n f) ≡ flat (λ i. row_bytes (f i)) n
rows-each f zero = sym (flat-zero _)
rows-each f (suc n) = ap (λ (l : List ℕ). row_bytes (f 0) ++ l) (rows-each (λ i. f (suc i)) n) ∙ sym (flat-first (λ i. row_bytes (f i)) n)

pub terms-each : (f : ℕ → Term) (n : ℕ) → terms_bytes (tabulate n f) ≡ flat (λ i. term_bytes (f i)) n
terms-each f zero = sym (flat-zero _)
terms-each f (suc n) = ap (λ (l : List ℕ). term_bytes (f 0) ++ l) (terms-each (λ i. f (suc i)) n) ∙ sym (flat-first (λ i. term_bytes (f i)) n)

pub terms_bytes-append : (a b : List Term) → terms_bytes (a ++ b) ≡ terms_bytes a ++ terms_bytes b
terms_bytes-append [] b = refl
terms_bytes-append (t ∷ a) b = ap (λ (l : List ℕ). term_bytes t ++ l) (terms_bytes-append a b)
