-- Windows, computed: which slots they look at, and how long their rows are.
use Rattle.std.specs.Prelude.{◌≡◌, refl, true, false, List, [], ◌∷◌, ◌++◌, map, ℕ, ◌+◌, ◌-◌, ◌*◌, ◌≤◌, ◌<◌, pos, neg_ℤ, length}
use Rattle.std.proofs.Common.{sym, ap, ◌∙◌, arith, length-append}
use Rattle.std.proofs.Math.Decide.{dec_lt}
use Rattle.std.proofs.lemmas.List.{length-map}
use Rattle.lists.specs.Tests.{is_true, is_false}
use Rattle.rules.specs.Quantities.{LoopAllowed}
use Rattle.rules.specs.Rule.{Window}
use Rattle.rules.specs.Rule.Window.{within, throughout}
use Rattle.rules.specs.Truth.{slot_of}
use Rattle.rules.proofs.Slots.{slot_le, slot_is, slot-ahead, slot-past, slot-low, slot-high}
use Rattle.rules.specs.Rows.{Row, row_bytes, rows_bytes, plus, minus, ge, in_window, window_rows}
use Rattle.rules.proofs.RowParts.{rows_bytes-append}
use Rattle.rules.proofs.RowRecords.{length-row}
use Rattle.rules.proofs.Evaluation.{window-at, at-window}

-- ---- a slot is one of the window where the times up to T have it, or those after T, which go on from slot L

module _ (T L t a b : ℕ) (loop : LoopAllowed T L) (ends : a ≤ b) where
  -- the slot that the window looks at first, and how far it goes
  abbrev pub start : ℕ
  start = slot_of T L (t + a)

  abbrev pub end : ℕ
  end = start + (b - a)

  from_start : (i : ℕ) → slot_of T L (t + (a + i)) ≡ slot_of T L (start + i)
  from_start i = let e : t + (a + i) ≡ t + a + i = omega arith in ap (slot_of T L) e ∙ sym (slot-ahead T L loop (t + a) i)

  slot_in : (s i : ℕ) → i ≤ b - a → slot_of T L (start + i) ≡ s → in_window T L t a b s ≡ true
  slot_in s i h e =
      is_true (in_window T L t a b s) (rw (from_start i ∙ e) at (window-at T L a b t (a + i) (omega arith) (omega arith)))

  pub in-plain : (s : ℕ) → start ≤ s → s ≤ end → s ≤ T → in_window T L t a b s ≡ true
  in-plain s l h u =
      let e : start + (s - start) ≡ s = omega arith in
      slot_in s (s - start) (omega arith) (ap (slot_of T L) e ∙ slot_is T L loop s u)

  pub in-wrapped : (s : ℕ) → L ≤ s → s < L + (end - T) → s ≤ T → in_window T L t a b s ≡ true
  in-wrapped s l h u =
      let f = slot_le T L loop (t + a) in
      let e : start + (T + 1 + (s - L) - start) ≡ T + 1 + (s - L) = omega arith in
      let g : L + (s - L) ≡ s = omega arith in
      slot_in s (T + 1 + (s - L) - start) (omega arith)
      (ap (slot_of T L) e ∙ slot-past T L loop (s - L) ∙ ap (slot_of T L) g ∙ slot_is T L loop s u)

  -- and no other
  pub in-neither : (s : ℕ) → ((start ≤ s) × (s ≤ end) → ⊥) → ((L ≤ s) × (s < L + (end - T)) → ⊥) → in_window T L t a b s ≡ false
  in-neither s f g = is_false (in_window T L t a b s) (λ x.
      let d = at-window T L a b t s x in
      let i = d.0 - a in
      let e : a + i ≡ d.0 = omega (arith, d.1) in
      let is : slot_of T L (start + i) ≡ s = sym (from_start i) ∙ ap (λ (j : ℕ). slot_of T L (t + j)) e ∙ d.3 in
      let few : i ≤ b - a = omega (arith, d.2) in
      go i few is (dec_lt T (start + i)))
    where
      go : (i : ℕ) → i ≤ b - a → slot_of T L (start + i) ≡ s → Dec (T < start + i) → ⊥
      go i few is (no h) = let p = slot_is T L loop (start + i) (omega arith) in f (omega (arith, is, p), omega (arith, is, p))
      go i few is (yes h) =
          let j = start + i - (T + 1) in
          let e : start + i ≡ T + 1 + j = omega arith in
          let p : slot_of T L (L + j) ≡ s = sym (slot-past T L loop j) ∙ ap (slot_of T L) (sym e) ∙ is in
          g (omega (arith, slot-low T L loop j, p), omega (arith, slot-high T L loop (L + j), p))

-- ---- the bytes of a window's rows, by how many slots it has

pairs-length : (f : ℕ → Row) → ((s : ℕ) → length (row_bytes (f s)) ≡ 11) → (ss : List ℕ) → length (rows_bytes (map f ss)) ≡ 11 * length ss
pairs-length f h [] = refl
pairs-length f h (s ∷ ss) = omega (arith, length-append (row_bytes (f s)) (rows_bytes (map f ss)), h s, pairs-length f h ss)

pub window_bytes : (w : Window) (P : ℕ) (p : ℕ → ℕ) (ss : List ℕ) → length (rows_bytes (window_rows w P p ss)) ≡ 14 * length ss + 8
window_bytes within P p ss =
    let pair : ℕ → Row = λ s. ge (plus P ∷ minus (p s) ∷ []) (pos 0) in
    let long : Row = ge (map (λ s. plus (p s)) ss ++ (minus P ∷ [])) (pos 0) in
    ap length (rows_bytes-append (map pair ss) (long ∷ []))
    ∙ omega (
      arith,
      length-append (rows_bytes (map pair ss)) (rows_bytes (long ∷ [])),
      length-append (row_bytes long) [],
      length-row long,
      length-append (map (λ (s : ℕ). plus (p s)) ss) (minus P ∷ []),
      length-map ss (λ (s : ℕ). plus (p s)),
      pairs-length pair (λ s. refl) ss,
    )
window_bytes throughout P p ss =
    let pair : ℕ → Row = λ s. ge (plus (p s) ∷ minus P ∷ []) (pos 0) in
    let long : Row = ge (plus P ∷ map (λ s. minus (p s)) ss) (neg_ℤ (pos (length ss - 1))) in
    ap length (rows_bytes-append (map pair ss) (long ∷ []))
    ∙ omega (
      arith,
      length-append (rows_bytes (map pair ss)) (rows_bytes (long ∷ [])),
      length-append (row_bytes long) [],
      length-row long,
      length-map ss (λ (s : ℕ). minus (p s)),
      pairs-length pair (λ s. refl) ss,
    )
