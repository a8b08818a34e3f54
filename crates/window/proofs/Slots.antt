-- The slots of a window as the calls hand them out, and the variables of a part at these slots.
use Rattle.window.specs.Slots.{Few, Looking, place_of, variable_at, variables}
use Rattle.std.specs.Prelude.{◌≡◌, refl, map, ℕ, zero, suc, ◌+◌, ◌-◌, ◌*◌, ◌/◌, ◌%◌, ◌≤◌, ◌<◌, min, length}
use Rattle.std.proofs.Common.{sym, ap, ap₂, ◌∙◌, div-add-mod', mod-lt, arith, lt-ltb, le-ltb}
use Rattle.std.proofs.Math.Decide.{dec_lt}
use Rattle.std.proofs.lemmas.List.{length-map}
use Rattle.lists.specs.Passing.{in_ranges}
use Rattle.lists.specs.Tabulate.{tabulate, length-tabulate, map-tabulate, tabulate-same}
use Rattle.rules.specs.Quantities.{LoopAllowed}
use Rattle.rules.specs.Truth.{slot_of}
use Rattle.rules.specs.Rows.{window_slots}
use Rattle.rules.proofs.Slots.{slot_is, slot-past}
use Rattle.rules.proofs.WindowParts.{window-plain, window-joined, window_parted}
use Rattle.window.specs.declared.Looks.{Looks}

-- ---- the slot of a time after the last slot

module _ (T L : ℕ) (loop : LoopAllowed T L) where
  abbrev round : ℕ
  round = T - L + 1

  -- after q rounds of the loop
  slot_rounds : (q r : ℕ) → r < round → slot_of T L (T + 1 + (q * round + r)) ≡ L + r
  slot_rounds zero r h =
      let e : zero * round + r ≡ r = omega arith in
      ap (λ (i : ℕ). slot_of T L (T + 1 + i)) e ∙ slot-past T L loop r ∙ slot_is T L loop (L + r) (omega (arith, loop))
  slot_rounds (suc q) r h =
      let e : L + (suc q * round + r) ≡ T + 1 + (q * round + r) = omega (arith, loop) in
      slot-past T L loop (suc q * round + r) ∙ ap (slot_of T L) e ∙ slot_rounds q r h

  pub slot-round : (k : ℕ) → T ≤ k → slot_of T L (k + 1) ≡ L + (k - T) % round
  slot-round k h =
      let i = k - T in
      let e : k + 1 ≡ T + 1 + (i / round * round + i % round) = omega (arith, div-add-mod' i round) in
      ap (slot_of T L) e ∙ slot_rounds (i / round) (i % round) (mod-lt i (omega arith))

pub length-variables : (w : Looks) (p : ℕ) → length (variables w p) ≡ w.count
unfolding variables
length-variables w p = length-tabulate w.count (variable_at w p)

-- a place is at most as far on as all slots and those between
pub ranges-high : (first head skip i : ℕ) → in_ranges first head skip i ≤ first + i + skip
ranges-high first head skip i = go (dec_lt i head)
  where
    go : Dec (i < head) → in_ranges first head skip i ≤ first + i + skip
    go (yes h) = rw (lt-ltb i head h) (omega arith)
    go (no h) = rw (le-ltb i head (omega arith)) (omega arith)

pub place-high : (w : Looks) (i : ℕ) → place_of w i ≤ w.first + i + w.skip
place-high w i = ranges-high w.first w.head w.skip i

-- what the type says of its numbers
pub few_of : (w : Looks) → Few w
few_of w = record { some = w.some; few = w.few; places = w.places; head-some = w.head_some; ranges = w.ranges }

pub looking : (T L t a b : ℕ) (w : Looks) → w.first + w.count + w.skip ≤ T →
    window_slots T L t a b ≡ tabulate w.count (in_ranges (w.first + 1) w.head w.skip) → Looking T L t a b w
unfolding variables
looking T L t a b w small slots = record {
  is = λ p. sym (
      ap (map (λ s. p + (s - 1))) slots
      ∙ map-tabulate (λ s. p + (s - 1)) w.count (in_ranges (w.first + 1) w.head w.skip)
      ∙ tabulate-same w.count (λ i. p + (in_ranges (w.first + 1) w.head w.skip i - 1)) (variable_at w p) (λ i g. omega arith));
  inside = λ i g. omega (arith, place-high w i);
  small = small;
}

-- from slot s + 1: x is the slot that the window begins at
module _ (T L s a b : ℕ) (loop : LoopAllowed T L) (T≤64 : T ≤ 64) (ends : a ≤ b) (x : ℕ) (at : x + 1 ≡ slot_of T L (s + a + 1)) (low : x < T) where
  abbrev S : ℕ
  S = slot_of T L (s + 1 + a)

  begin : x + 1 ≡ S
  begin = let e : s + a + 1 ≡ s + 1 + a = omega arith in at ∙ ap (slot_of T L) e

  abbrev E : ℕ
  E = S + (b - a)

  -- how many slots they are: all that the window reaches, but at most those from x or from slot L, which is first, to slot T
  pub slot-count : length (window_slots T L (s + 1) a b) ≡ min (b - a + 1) (T - min (L - 1) x)
  slot-count = go (dec_lt T E) (dec_lt (L + (E - T)) S)
    where
      sized : {n : ℕ} (f : ℕ → ℕ) → window_slots T L (s + 1) a b ≡ tabulate n f → n ≡ min (b - a + 1) (T - min (L - 1) x) →
          length (window_slots T L (s + 1) a b) ≡ min (b - a + 1) (T - min (L - 1) x)
      sized {n} f e h = ap length e ∙ length-tabulate n f ∙ h

      -- it comes round to where it began
      reached : (d k : ℕ) → T ≤ L + d → T ≤ x + d → k ≡ min (L - 1) x → T + 1 - (k + 1) + 0 ≡ min (d + 1) (T - k)
      reached d k h g e = omega (arith, loop)

      first : min L S ≡ min (L - 1) x + 1
      first = omega (arith, begin, loop)

      -- it does not
      all : {n : ℕ} (d : ℕ) → n ≡ d + 1 → d + L ≤ T → n ≡ min (d + 1) (T - min (L - 1) x)
      all d e h = omega (arith, loop)

      go : Dec (T < E) → Dec (L + (E - T) < S) → length (window_slots T L (s + 1) a b) ≡ min (b - a + 1) (T - min (L - 1) x)
      go (no h) q =
          sized {n = E - S + 1 + 0} (in_ranges S (E - S + 1) 0) (window-plain T L (s + 1) a b loop ends (omega arith) (omega arith)) (omega (arith, begin, loop))
      go (yes h) (yes g) =
          sized {n = E - T + (T + 1 - S)} (in_ranges L (E - T) (S - (L + (E - T)))) (window_parted T L (s + 1) a b loop ends (omega arith) h g)
          (all {n = E - T + (T + 1 - S)} (b - a) (omega (arith, begin)) (omega (arith, begin)))
      go (yes h) (no g) =
          sized {n = T + 1 - min L S + 0} (in_ranges (min L S) (T + 1 - min L S) 0) (window-joined T L (s + 1) a b loop ends (omega arith) h (omega arith))
          (ap (λ (n : ℕ). T + 1 - n + 0) first ∙ reached (b - a) (min (L - 1) x) (omega (arith, begin)) (omega (arith, begin)) refl)

  module _ (w : Looks) where
    same : (n head skip first : ℕ) → n ≡ w.count → first ≡ w.first + 1 → head ≡ w.head → skip ≡ w.skip →
        tabulate n (in_ranges first head skip) ≡ tabulate w.count (in_ranges (w.first + 1) w.head w.skip)
    same n head skip first p q r s =
        ap (λ (k : ℕ). tabulate k (in_ranges first head skip)) p
        ∙ ap (λ (k : ℕ). tabulate w.count (in_ranges k head skip)) q
        ∙ ap₂ (λ (j k : ℕ). tabulate w.count (in_ranges (w.first + 1) j k)) r s

    pub looking-plain : x + (b - a) + 1 ≤ T → w.first ≡ x → w.count ≡ b - a + 1 → w.head ≡ b - a + 1 → w.skip ≡ 0 → w.rest ≡ 0 → Looking T L (s + 1) a b w
    looking-plain h e f g k r =
        looking T L (s + 1) a b w (omega (arith, begin))
        (window-plain T L (s + 1) a b loop ends (omega (arith, begin)) (omega (arith, begin)) ∙ same (E - S + 1 + 0) (E - S + 1) 0 S (omega (arith, begin))
        (omega (arith, begin)) (omega (arith, begin)) (omega (arith, begin)))

    joined-first : w.first ≡ min (L - 1) x → min L S ≡ w.first + 1
    joined-first e = omega (arith, begin, loop)

    joined-slots : (m : ℕ) → m ≡ w.first + 1 → w.count ≡ T - w.first → w.head ≡ T - w.first → w.skip ≡ 0 →
        tabulate (T + 1 - m + 0) (in_ranges m (T + 1 - m) 0) ≡ tabulate w.count (in_ranges (w.first + 1) w.head w.skip)
    joined-slots m e f g k = same (T + 1 - m + 0) (T + 1 - m) 0 m (omega arith) (omega arith) (omega arith) (omega arith)

    joined-some : w.first ≡ min (L - 1) x → w.first < T
    joined-some e = omega arith

    pub looking-joined : T < x + (b - a) + 1 → x + 1 ≤ L + (x + (b - a) + 1 - T) → w.first ≡ min (L - 1) x → w.count ≡ T - w.first → w.head ≡ T - w.first →
        w.skip ≡ 0 → w.rest ≡ 0 → Looking T L (s + 1) a b w
    looking-joined h l e f g k r =
        let some = joined-some e in
        looking T L (s + 1) a b w (omega (arith, some))
        (window-joined T L (s + 1) a b loop ends (omega (arith, begin)) (omega (arith, begin)) (omega (arith, begin)) ∙ joined-slots (min L S) (joined-first e)
        f g k)

    pub looking_parted : T < x + (b - a) + 1 → L + (x + (b - a) + 1 - T) < x + 1 → w.first + 1 ≡ L → w.count ≡ b - a + 1 → w.head ≡ x + (b - a) + 1 - T →
        w.skip ≡ x + 1 - (L + (x + (b - a) + 1 - T)) → w.rest ≡ T - x → Looking T L (s + 1) a b w
    looking_parted h l e f g k r =
        looking T L (s + 1) a b w (omega (arith, begin))
        (window_parted T L (s + 1) a b loop ends (omega (arith, begin)) (omega (arith, begin)) (omega (arith, begin))
        ∙ same (E - T + (T + 1 - S)) (E - T) (S - (L + (E - T))) L (omega (arith, begin)) (omega (arith, begin)) (omega (arith, begin)) (omega (arith, begin)))

pub count-is : {T L t a b : ℕ} {w : Looks} → Looking T L t a b w → w.count ≡ length (window_slots T L t a b)
count-is {T} {L} {t} {a} {b} {w} h =
    sym (length-variables w 0) ∙ ap length (h.is 0) ∙ length-map (window_slots T L t a b) (λ (s : ℕ). 0 + (s - 1))

-- ---- the slots go up

pub place_grows : (w : Looks) (i j : ℕ) → i < j → place_of w i < place_of w j
place_grows w i j h = go (dec_lt i w.head) (dec_lt j w.head)
  where
    go : Dec (i < w.head) → Dec (j < w.head) → place_of w i < place_of w j
    go (yes a) (yes b) = rw (lt-ltb i w.head a, lt-ltb j w.head b) (omega arith)
    go (yes a) (no b) = rw (lt-ltb i w.head a, le-ltb j w.head (omega arith)) (omega arith)
    go (no a) (yes b) = absurd (omega arith)
    go (no a) (no b) = rw (le-ltb i w.head (omega arith), le-ltb j w.head (omega arith)) (omega arith)

pub place-one : (w : Looks) (i j : ℕ) → place_of w i ≡ place_of w j → i ≡ j
place-one w i j e = go (dec_lt i j) (dec_lt j i)
  where
    go : Dec (i < j) → Dec (j < i) → i ≡ j
    go (yes a) b = absurd (omega (arith, place_grows w i j a))
    go (no a) (yes b) = absurd (omega (arith, place_grows w j i b))
    go (no a) (no b) = omega arith

-- a place before `head` numbers, and one from there on
pub place-head : (w : Looks) (i : ℕ) → i < w.head → place_of w i ≡ w.first + i
place-head w i h = rw (lt-ltb i w.head h) (omega arith)

pub place_tail : (w : Looks) (i : ℕ) → w.head ≤ i → place_of w i ≡ w.first + i + w.skip
place_tail w i h = rw (le-ltb i w.head h) (omega arith)
