-- Bytes fed one after the other, and what becomes of the text that is lent.
use Rattle.std.specs.Prelude.{◌≡◌, refl, Bool, true, false, List, [], ◌++◌, ℕ, ◌+◌, ◌-◌, ◌≤◌, ◌<◌, leb, length, take, drop, set, get_or}
use Rattle.std.proofs.Common.{sym, ap, ◌∙◌, append-nil, add-one, arith, lt-ltb, le-ltb, leb-true, leb-false, length-set, take-append-drop, drop_of_length-le, drop-cons, drop-drop, take_all, take-suc-set, drop-set-lt, length-take-le}
use Rattle.program_input.specs.declared.Stage.{Stage}
use Rattle.program_input.specs.declared.Kind.{Kind}
use Rattle.program_input.specs.declared.Scan.{Scan}
use Rattle.program_input.specs.Scanning.{State, state, kind_of, advanced, slots_after, atoms_after, keeps, rule_after, moved, kept, stepped, steps}

-- one byte: the state, and the text past what is kept
pub record Stepped (s : Scan) (text : List ℕ) (b : ℕ) (r : Scan) (text' : List ℕ) : Type 0 where
  pub state-is : state r text' ≡ stepped (length text) (state s text) b
  pub beyond : drop r.kept text' ≡ drop r.kept text
  pub longer : s.kept ≤ r.kept
  pub same_length : length text' ≡ length text

-- on the way: the bytes that are left lead where the whole chunk leads
pub record Feeding (s₀ : Scan) (text₀ chunk : List ℕ) (i : ℕ) (s : Scan) (text : List ℕ) : Type 0 where
  pub leads : steps (length text₀) (state s text) (drop i chunk) ≡ steps (length text₀) (state s₀ text₀) chunk
  pub beyond : drop s.kept text ≡ drop s.kept text₀
  pub same_length : length text ≡ length text₀

-- the kept bytes from the start, and the others as they were
abbrev pub fed_text : State → List ℕ → List ℕ
fed_text s text = s.rule ++ drop (length s.rule) text

pub feeding_next : {s₀ s r : Scan} {text₀ text text' chunk : List ℕ} (i : ℕ) → i < length chunk → Feeding s₀ text₀ chunk i s text →
    Stepped s text (get_or chunk i 0) r text' → Feeding s₀ text₀ chunk (i + 1) r text'
unfolding steps
feeding_next {s₀} {s} {r} {text₀} {text} {text'} {chunk} i h f p = record {
  leads =
      ap (λ (x : State). steps (length text₀) x (drop (i + 1) chunk)) (p.state-is ∙ ap (λ (n : ℕ). stepped n (state s text) (get_or chunk i 0)) f.same_length)
      ∙ rw add-one (ap (steps (length text₀) (state s text)) (sym (drop-cons chunk i 0 h)) ∙ f.leads);
  beyond = p.beyond ∙ later;
  same_length = p.same_length ∙ f.same_length;
}
  where
    later : drop r.kept text ≡ drop r.kept text₀
    later =
        let d : s.kept + (r.kept - s.kept) ≡ r.kept = omega (arith, p.longer) in
        rw (← d) (sym (drop-drop _ s.kept text) ∙ ap (drop (r.kept - s.kept)) f.beyond ∙ drop-drop _ s.kept text₀)

-- the text that is kept is l, and what stands past it is as it was
pub record Kept (l text : List ℕ) (count : ℕ) (text' : List ℕ) (r : ℕ) : Type 0 where
  pub kept-is : take r text' ≡ l
  pub beyond : drop r text' ≡ drop r text
  pub longer : count ≤ r
  pub same_length : length text' ≡ length text

pub keep_more : (text : List ℕ) (count b : ℕ) → count < length text → Kept (kept (length text) (take count text) b) text count (set text count b) (count + 1)
keep_more text count b h =
    let n : length (take count text) ≡ count = length-take-le count text (omega arith) in
    record {
      kept-is = rw (n, lt-ltb count (length text) h, add-one count) (take-suc-set text count b h);
      beyond = drop-set-lt (count + 1) text count b (omega arith);
      longer = omega arith;
      same_length = length-set text count b;
    }

pub keep_full : (text : List ℕ) (count b : ℕ) → length text ≤ count → Kept (kept (length text) (take count text) b) text count text count
keep_full text count b h = record {
  kept-is = rw (take_all count text h, le-ltb (length text) (length text) (omega arith)) refl;
  beyond = refl;
  longer = omega arith;
  same_length = refl;
}

-- the text after a byte, by whether the stage keeps it
module _ (text : List ℕ) (count b : ℕ) (g : Stage) (t : Bool) (test : t ≡ keeps g) where
  pub rule-kept : {text' : List ℕ} {r : ℕ} → t ≡ true → Kept (kept (length text) (take count text) b) text count text' r →
      Kept (rule_after (length text) g (take count text) b) text count text' r
  rule-kept e p = let h : keeps g ≡ true = sym test ∙ e in rw h p

  pub rule-passed : t ≡ false → Kept (rule_after (length text) g (take count text) b) text count text count
  rule-passed e =
      let h : keeps g ≡ false = sym test ∙ e in
      rw h (record { kept-is = refl; beyond = refl; longer = omega arith; same_length = refl })

-- one byte, by its parts
pub all-stepped : (s : Scan) (text : List ℕ) (b : ℕ) (k : Kind) (g : Stage) (t m n : ℕ) (text' : List ℕ) → k ≡ kind_of b → g ≡ advanced s.stage k →
    t ≡ slots_after g s.slots b → m ≡ atoms_after g s.atoms b → Kept (rule_after (length text) g (take s.kept text) b) text s.kept text' n →
    Stepped s text b (record { stage = g; slots = t; atoms = m; kept = n }) text'
unfolding stepped
all-stepped s text b k g t m n text' kind_is Stage-is slots-is atoms-is p = record {
  state-is =
      rw (slots-is, atoms-is, p.kept-is) (ap (λ (x : Stage). moved (length text) x (state s text) b) (Stage-is ∙ ap (advanced s.stage) kind_is));
  beyond = p.beyond;
  longer = p.longer;
  same_length = p.same_length;
}

-- ---- the whole chunk

pub fed_state : {s₀ s : Scan} {text₀ text chunk : List ℕ} (i : ℕ) → length chunk ≤ i → Feeding s₀ text₀ chunk i s text →
    state s text ≡ steps (length text₀) (state s₀ text₀) chunk
unfolding steps
fed_state {s₀} {s} {text₀} {text} {chunk} i h f =
    let e : drop i chunk ≡ [] = drop_of_length-le chunk h in
    sym (ap (steps (length text₀) (state s text)) e) ∙ f.leads

-- the length of what is kept takes the place of the count
kept-drop : (n : ℕ) (l l₀ : List ℕ) → length l ≡ length l₀ → drop n l ≡ drop n l₀ → l ≡ take n l ++ drop (length (take n l)) l₀
kept-drop n l l₀ e d = go (leb n (length l)) refl
  where
    go : (t : Bool) → leb n (length l) ≡ t → l ≡ take n l ++ drop (length (take n l)) l₀
    go true p = rw (length-take-le n l (leb-true n (length l) p), ← d) (sym (take-append-drop n l))
    go false p =
        let h = leb-false n (length l) p in
        let a : take n l ≡ l = take_all n l (omega arith) in
        rw (a, drop_of_length-le l₀ {i = length l} (omega arith)) (sym (append-nil l))

pub fed-text : {s₀ s : Scan} {text₀ text chunk : List ℕ} (i : ℕ) → length chunk ≤ i → Feeding s₀ text₀ chunk i s text →
    text ≡ fed_text (steps (length text₀) (state s₀ text₀) chunk) text₀
fed-text {s₀} {s} {text₀} {text} {chunk} i h f =
    kept-drop s.kept text text₀ f.same_length f.beyond ∙ ap (λ (x : State). fed_text x text₀) (fed_state i h f)
