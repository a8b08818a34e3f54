-- The words of the nodes are their truths.
use Rattle.std.specs.Prelude.{◌≡◌, refl, Bool, true, false, not as notb, ◌&&◌, ◌||◌, List, [], ◌∷◌, ◌++◌, ℕ, zero, suc, ◌+◌, ◌-◌, ◌/◌, ◌%◌, ◌^◌, ◌≤◌, ◌<◌, T as Is, eqb, length, get_or, drop}
use Rattle.std.proofs.Math.Path.{sym}
use Rattle.std.proofs.Common.{ap, ap₂, ◌∙◌, subst, mod-lt, arith, length-append, length-drop, ext_get_or, get_or-append-add, get_or-drop}
use Rattle.std.proofs.Math.Bool.{and-false, or-false, or_assoc}
use Rattle.std.proofs.Math.Decide.{dec_lt}
use Rattle.std.proofs.Math.ListN.{get_or-append}
use Rattle.lists.specs.Passing.{some_of, every_of, some_of-passing}
use Rattle.lists.specs.Tabulate.{length-tabulate, get_d_tabulate}
use Rattle.lists.specs.Tests.{same_tests}
use Rattle.rules.specs.Quantities.{LoopAllowed}
use Rattle.rules.specs.Rule.{Unary, Binary, Window, Rule}
use Rattle.rules.specs.Rule.Unary.{not, eventually, always}
use Rattle.rules.specs.Rule.Binary.{and, or, implies, until}
use Rattle.rules.specs.Table as Table
use Rattle.rules.specs.Table.{Node, NodeGood, rule_at, grow, root}
use Rattle.rules.specs.Table.Node.{atom, unary, binary, windowed}
use Rattle.rules.specs.TableRules.{NodesGood}
use Rattle.rules.proofs.TableRules.{rule_at-is}
use Rattle.rules.specs.Truth.{slot_of, slot_bit}
use Rattle.rules.specs.Rows.{in_window, window_slots}
use Rattle.rules.proofs.Slots.{slot_le, slot_pos}
use Rattle.rules.specs.Evaluation.{unary_from, binary_from, unary_to, binary_to, window_now, truth_at, bit_set, truth, bit_of}
use Rattle.rules.proofs.Evaluation.{not-to, at_once, window-at, at-window}
use Rattle.rules.specs.Words.{word_of}
use Rattle.rules.proofs.Words.{word-slot, word-above, same-slots, first_bit}
use Rattle.rules.specs.Outcome.{truth_words}
use Rattle.evaluator_words.specs.Bits.{on, on-is}
use Rattle.evaluator_words.specs.Ahead.{some, reached, some_at, at_some, front}
use Rattle.evaluator_words.specs.Words.{eventually_kept, always_kept, until_kept, eventually_at, always_at, until_at, slot_from, within_at}
use Rattle.evaluator_words.specs.Windows.{slot-inside}
use Rattle.evaluator.specs.Nodes.{node_at, unary_at, binary_at, window_at}
use Rattle.evaluator.specs.Filled.{Filled}

twice : (b : Bool) → notb (notb b) ≡ b
twice true = refl
twice false = refl

swap : (a b : Bool) → notb (notb a || b) ≡ (a && notb b)
swap true b = refl
swap false b = refl

-- what does not fail at one slot passes at each
not_some : (f : ℕ → Bool) (l : List ℕ) → notb (some_of (λ s. notb (f s)) l) ≡ every_of f l
not_some f [] = refl
not_some f (s ∷ l) = swap (f s) (some_of (λ s. notb (f s)) l) ∙ ap (λ (b : Bool). f s && b) (not_some f l)

rest-bit : (r : ℕ) → r < 2 → r ≡ bit_of (eqb r 1)
rest-bit zero h = refl
rest-bit (suc zero) h = refl
rest-bit (suc (suc r)) h = absurd (omega arith)

-- ---- parts by slot and by the distance from the last slot

abbrev Same : (T : ℕ) (p f : ℕ → Bool) → Type 0
Same T p f = (i : ℕ) → i < T → p i ≡ f (T - suc i)

at : (T : ℕ) (p f : ℕ → Bool) → Same T p f → (d j : ℕ) → j + suc d ≡ T → p j ≡ f d
at T p f e d j h = e j (omega arith) ∙ ap f (let z : T - suc j ≡ d = omega arith in z)

module _ (T : ℕ) (p f : ℕ → Bool) (e : Same T p f) where
  some-from : (d j : ℕ) → j + suc d ≡ T → some p (suc d) j ≡ unary_from eventually f d
  some-from zero j h = or-false (p j) ∙ at T p f e zero j h
  some-from (suc d) j h = ap₂ (λ (a b : Bool). a || b) (at T p f e (suc d) j h) (some-from d (suc j) (omega arith))

-- ---- the operators, kept to the slots up to the last

dual : (f : ℕ → Bool) (d : ℕ) → notb (unary_from eventually (λ i. notb (f i)) d) ≡ unary_from always f d
dual f zero = twice (f zero)
dual f (suc d) = swap (f (suc d)) (unary_from eventually (λ i. notb (f i)) d) ∙ ap (λ (b : Bool). f (suc d) && b) (dual f d)

module _ (T : ℕ) where
  eventually-from : (q g : ℕ → Bool) → Same T q g → (j : ℕ) → j < T → eventually_kept T q j ≡ unary_from eventually g (T - suc j)
  eventually-from q g e j l = ap (λ (n : ℕ). some q n j) (let n : T - j ≡ suc (T - suc j) = omega arith in n) ∙ some-from T q g e (T - suc j) j (omega arith)

  always-from : (p f : ℕ → Bool) → Same T p f → (j : ℕ) → j < T → always_kept T p j ≡ unary_from always f (T - suc j)
  always-from p f e j l = ap notb (eventually-from (λ i. notb (p i)) (λ i. notb (f i)) (λ i h. ap notb (e i h)) j l) ∙ dual f (T - suc j)

  module _ (p q f g : ℕ → Bool) (c : Same T p f) (e : Same T q g) where
    reached-from : (d j : ℕ) → j + suc d ≡ T → reached p q (suc d) j ≡ binary_from until f g d
    reached-from zero j h = ap (λ (b : Bool). q j || b) (and-false (p j)) ∙ or-false (q j) ∙ at T q g e zero j h
    reached-from (suc d) j h = ap₂ (λ (a b : Bool). a || b) (at T q g e (suc d) j h)
        (ap₂ (λ (a b : Bool). a && b) (at T p f c (suc d) j h) (reached-from d (suc j) (omega arith)))

    until-from : (j : ℕ) → j < T → until_kept T p q j ≡ binary_from until f g (T - suc j)
    until-from j l = ap (λ (n : ℕ). reached p q n j) (let n : T - j ≡ suc (T - suc j) = omega arith in n) ∙ reached-from (T - suc j) j (omega arith)

-- ---- and with e for the truth after the last slot

some_to : (g : ℕ → Bool) (e : Bool) (d : ℕ) → unary_to eventually g e d ≡ (unary_from eventually g d || e)
some_to g e zero = refl
some_to g e (suc d) = ap (λ (b : Bool). g (suc d) || b) (some_to g e d) ∙ sym (or_assoc (g (suc d)) (unary_from eventually g d) e)

dual-to : (f : ℕ → Bool) (e : Bool) (d : ℕ) → notb (unary_to eventually (λ i. notb (f i)) e d) ≡ unary_to always f (notb e) d
dual-to f e zero = swap (f zero) e
dual-to f e (suc d) = swap (f (suc d)) (unary_to eventually (λ i. notb (f i)) e d) ∙ ap (λ (b : Bool). f (suc d) && b) (dual-to f e d)

reached-to : (f g : ℕ → Bool) (e : Bool) (d : ℕ) → binary_to until f g e d ≡ (binary_from until f g d || (unary_from always f d && e))
reached-to f g e zero = refl
reached-to f g e (suc d) =
    ap (λ (b : Bool). g (suc d) || (f (suc d) && b)) (reached-to f g e d) ∙ front (g (suc d)) (f (suc d)) (binary_from until f g d) (unary_from always f d) e

module _ (T L : ℕ) (loop : LoopAllowed T L) where
  at-loop : T - suc (L - 1) ≡ T - L
  at-loop = omega (arith, loop)

  loop-inside : L - 1 < T
  loop-inside = omega (arith, loop)

  eventually-to : (q g : ℕ → Bool) → Same T q g → (j : ℕ) → j < T → eventually_at T L q j ≡ unary_to eventually g (unary_from eventually g (T - L)) (T - suc j)
  eventually-to q g e j l =
      ap₂ (λ (a b : Bool). a || b) (eventually-from T q g e j l) (eventually-from T q g e (L - 1) loop-inside ∙ ap (unary_from eventually g) at-loop)
      ∙ sym (some_to g (unary_from eventually g (T - L)) (T - suc j))

  always-to : (p f : ℕ → Bool) → Same T p f → (j : ℕ) → j < T → always_at T L p j ≡ unary_to always f (unary_from always f (T - L)) (T - suc j)
  always-to p f e j l =
      let g : ℕ → Bool = λ i. notb (f i) in
      ap notb (eventually-to (λ i. notb (p i)) g (λ i h. ap notb (e i h)) j l) ∙ dual-to f (unary_from eventually g (T - L)) (T - suc j)
      ∙ ap (λ (b : Bool). unary_to always f b (T - suc j)) (dual f (T - L))

  until-to : (p q f g : ℕ → Bool) → Same T p f → Same T q g → (j : ℕ) → j < T →
      until_at T L p q j ≡ binary_to until f g (binary_from until f g (T - L)) (T - suc j)
  until-to p q f g c e j l =
      ap₂ (λ (a b : Bool). a || b) (until-from T p q f g c e j l)
      (ap₂ (λ (a b : Bool). a && b) (always-from T p f c j l) (until-from T p q f g c e (L - 1) loop-inside ∙ ap (binary_from until f g) at-loop))
      ∙ sym (reached-to f g (binary_from until f g (T - L)) (T - suc j))

  -- ---- windows

  -- p by slots from 0, f by slots from 1
  module _ (p f : ℕ → Bool) (e : (i : ℕ) → i < T → p i ≡ f (i + 1)) (a b j : ℕ) where
    at_slot_lem : (i : ℕ) → p (slot_from T L (j + i)) ≡ f (slot_of T L (j + 1 + i))
    at_slot_lem i =
        let k : j + i + 1 ≡ j + 1 + i = omega arith in
        let s : slot_of T L (j + i + 1) - 1 + 1 ≡ slot_of T L (j + i + 1) = omega (arith, slot_pos T L loop (j + i + 1) (omega arith)) in
        e (slot_from T L (j + i)) (slot-inside T L loop (j + i)) ∙ ap f (s ∙ ap (slot_of T L) k)

    window-some : a ≤ b → within_at T L a b p j ≡ some_of f (window_slots T L (j + 1) a b)
    window-some h = same_tests (within_at T L a b p j) (some_of f (window_slots T L (j + 1) a b)) (
      λ x.
          let r = some_at (λ i. p (slot_from T L (j + i))) (b - a + 1) a x in
          let k = j + 1 + r.0 in
          (some_of-passing (in_window T L (j + 1) a b) f T 1).1 (
            slot_of T L k,
            slot_pos T L loop k (omega arith),
            omega (arith, slot_le T L loop k),
            window-at T L a b (j + 1) r.0 r.1 (omega (arith, r.2)),
            subst Is (at_slot_lem r.0) r.3,
          ),
      λ x.
          let r = (some_of-passing (in_window T L (j + 1) a b) f T 1).0 x in
          let d = at-window T L a b (j + 1) r.0 r.3 in
          at_some (λ i. p (slot_from T L (j + i))) (b - a + 1) a d.0 d.1 (omega (arith, d.2)) (subst Is (sym (at_slot_lem d.0 ∙ ap f d.3)) r.4),
    )

  window-is : (w : Window) (p f : ℕ → Bool) → ((i : ℕ) → i < T → p i ≡ f (i + 1)) → (a b j : ℕ) → a ≤ b →
      window_at T L w a b p j ≡ window_now w f (window_slots T L (j + 1) a b)
  window-is Window.within p f e a b j l = window-some p f e a b j l
  window-is Window.throughout p f e a b j l =
      ap notb (window-some (λ i. notb (p i)) (λ i. notb (f i)) (λ i u. ap notb (e i u)) a b j l) ∙ not_some f (window_slots T L (j + 1) a b)

  -- ---- the nodes

  by-distance : (p f : ℕ → Bool) → ((i : ℕ) → i < T → p i ≡ f (i + 1)) → Same T p (λ d. f (T - d))
  by-distance p f e i h = e i h ∙ ap f (let z : i + 1 ≡ T - (T - suc i) = omega arith in z)

  distance : (j : ℕ) → T - suc j ≡ T - (j + 1)
  distance j = omega arith

  unary-is : (u : Unary) (p f : ℕ → Bool) → Same T p f → (j : ℕ) → j < T → unary_at T L u p j ≡ unary_to u f (unary_from u f (T - L)) (T - suc j)
  unary-is not p f e j h = ap notb (e j h) ∙ sym (not-to f (unary_from not f (T - L)) (T - suc j))
  unary-is eventually p f e j h = eventually-to p f e j h
  unary-is always p f e j h = always-to p f e j h

  binary-is : (o : Binary) (p q f g : ℕ → Bool) → Same T p f → Same T q g → (j : ℕ) → j < T →
      binary_at T L o p q j ≡ binary_to o f g (binary_from o f g (T - L)) (T - suc j)
  binary-is and p q f g c e j h =
      ap₂ (λ (a b : Bool). a && b) (c j h) (e j h) ∙ sym (at_once and (λ p q e. refl) f g (binary_from and f g (T - L)) (T - suc j))
  binary-is or p q f g c e j h =
      ap₂ (λ (a b : Bool). a || b) (c j h) (e j h) ∙ sym (at_once or (λ p q e. refl) f g (binary_from or f g (T - L)) (T - suc j))
  binary-is implies p q f g c e j h =
      ap₂ (λ (a b : Bool). notb a || b) (c j h) (e j h) ∙ sym (at_once implies (λ p q e. refl) f g (binary_from implies f g (T - L)) (T - suc j))
  binary-is until p q f g c e j h = until-to p q f g c e j h

  module _ (M : ℕ) (run : List ℕ) (ns : List Node) (good : NodesGood M ns) (l m : List ℕ) (filled : Filled T L run ns l (length ns) m) where
    -- the truth of node c at slot t
    abbrev by : ℕ → ℕ → Bool
    by c = truth_at T L (bit_set run) (rule_at ns c)

    node-is : (nd : Node) (n : ℕ) → NodeGood M n nd → ((c : ℕ) → c < n → (j : ℕ) → j < T → on (get_or m c 0) j ≡ by c (j + 1)) → (j : ℕ) → j < T →
        node_at T L run m nd j ≡ truth_at T L (bit_set run) (grow (rule_at ns) nd) (j + 1)
    node-is (atom a) n g k j h =
        on-is (get_or run j 0) a ∙ ap (λ (x : ℕ). eqb (get_or run x 0 / 2 ^ a % 2) 1) (let z : j ≡ j + 1 - 1 = omega arith in z)
    node-is (unary u p) n g k j h =
        let f : ℕ → Bool = λ d. by p (T - d) in
        unary-is u (on (get_or m p 0)) f (by-distance (on (get_or m p 0)) (by p) (k p g)) j h ∙ ap (unary_to u f (unary_from u f (T - L))) (distance j)
    node-is (binary o p q) n g k j h =
        let f : ℕ → Bool = λ d. by p (T - d) in
        let i : ℕ → Bool = λ d. by q (T - d) in
        binary-is o (on (get_or m p 0)) (on (get_or m q 0)) f i (by-distance (on (get_or m p 0)) (by p) (k p g.0))
        (by-distance (on (get_or m q 0)) (by q) (k q g.1)) j h
        ∙ ap (binary_to o f i (binary_from o f i (T - L))) (distance j)
    node-is (windowed w a b p) n g k j h = window-is w (on (get_or m p 0)) (by p) (k p g.0) a b j g.1.0

    all-below : (n : ℕ) → n ≤ length ns → (c : ℕ) → c < n → (j : ℕ) → j < T → on (get_or m c 0) j ≡ by c (j + 1)
    all-below zero b c h j l = absurd (omega arith)
    all-below (suc n) b c h j l =
        let k : c < length ns = omega arith in
        (filled.at c k).at j l ∙ node-is (Table.node_at ns c) c (good c k) (λ i u. all-below n (omega arith) i (omega arith)) j l
        ∙ ap (λ (r : Rule). truth_at T L (bit_set run) r (j + 1)) (sym (rule_at-is M ns good c k))

    -- "bit t − 1 for slot t"
    word-truth : (n j : ℕ) → n < length ns → j < T → on (get_or m n 0) j ≡ truth T L run (rule_at ns n) (j + 1)
    unfolding truth
    word-truth n j h k = all-below (length ns) (omega arith) n h j k

    slot-truth : (n t : ℕ) → n < length ns → 1 ≤ t → t ≤ T → slot_bit (get_or m n 0) t ≡ bit_of (truth T L run (rule_at ns n) t)
    slot-truth n t h u v =
        let b = slot_bit (get_or m n 0) t in
        rest-bit b (mod-lt (get_or m n 0 / 2 ^ (t - 1)) (omega arith))
        ∙ ap bit_of (sym (on-is (get_or m n 0) (t - 1)) ∙ word-truth n (t - 1) h (omega arith)
        ∙ ap (truth T L run (rule_at ns n)) (let z : t - 1 + 1 ≡ t = omega arith in z))

    pub word-is : (n : ℕ) → n < length ns → get_or m n 0 ≡ word_of (truth T L run (rule_at ns n)) T
    word-is n h =
        same-slots T (get_or m n 0) (word_of (truth T L run (rule_at ns n)) T) (filled.at n h).small (word-above (truth T L run (rule_at ns n)) T)
        (λ t u v. slot-truth n t h u v ∙ sym (word-slot (truth T L run (rule_at ns n)) T t u v))

    -- "Its result is the root's truth at slot 1."
    pub root-bit : (n : ℕ) → 0 < length ns → n ≡ root ns → get_or m n 0 % 2 ≡ bit_of (truth T L run (rule_at ns (root ns)) 1)
    root-bit n h e =
        ap (λ (x : ℕ). get_or m x 0 % 2) e ∙ sym (first_bit (get_or m (root ns) 0)) ∙ slot-truth (root ns) 1 (omega arith) (omega arith) (omega (arith, loop))

    length_words : length (truth_words T L run ns) ≡ length ns
    unfolding truth_words
    length_words = length-tabulate (length ns) (λ n. word_of (truth T L run (rule_at ns n)) T)

    written_at : (n : ℕ) → n < length ns → get_or m n 0 ≡ get_or (truth_words T L run ns) n 0
    unfolding truth_words
    written_at n h = word-is n h ∙ sym (get_d_tabulate (length ns) (λ n. word_of (truth T L run (rule_at ns n)) T) n 0 h)

    pub filled_all : length ns ≤ length l → m ≡ truth_words T L run ns ++ drop (length (truth_words T L run ns)) l
    filled_all room = ext_get_or 0 m _ lengths (λ i h. at_place i (dec_lt i (length ns)))
      where
        new : List ℕ
        new = truth_words T L run ns

        lengths : length m ≡ length (new ++ drop (length new) l)
        lengths = simp (length-append, length-drop) (omega (arith, length_words, filled.same))

        at_place : (i : ℕ) → Dec (i < length ns) → get_or m i 0 ≡ get_or (new ++ drop (length new) l) i 0
        at_place i (yes z) = written_at i z ∙ sym (get_or-append new (drop (length new) l) 0 i (omega (arith, length_words)))
        at_place i (no z) =
            let e : length new + (i - length new) ≡ i = omega (arith, length_words) in
            filled.behind i (omega arith)
            ∙ sym ((rw e at (get_or-append-add new (drop (length new) l) (i - length new) 0)) ∙ (rw e at (get_or-drop (length new) l (i - length new) 0)))
