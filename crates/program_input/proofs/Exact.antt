-- The scan finds the two numbers of line 1 where it has its shape, and only there; and it keeps line 2.
use Rattle.std.specs.Prelude.{◌≡◌, Bool, ℕ, ◌+◌, ◌-◌, ◌*◌, min, ◌≤◌, ◌<◌, ltb, length, take}
use Rattle.std.proofs.Math.Path.{refl, ap}
use Rattle.std.proofs.Common.{sym, subst, ◌∙◌, arith, ne_eqb, eqb-true, ltb-true, ltb-false, length-append, take_at}
use Rattle.std.proofs.Math.Bool.{true, false, cond}
use mathlib.Core.List.{List, [], ◌∷◌, ◌++◌, append_assoc, append-nil}
use Rattle.std.proofs.Math.Dec.{eqb}
use Rattle.std.proofs.Math.Seq.{take-nil, take_all}
use Rattle.rules.specs.Reading.Lexer.{is_digit}
use Rattle.rules.proofs.Reading.Lexer.{digit-is, digit-true}
use Rattle.program_input.specs.declared.Stage.{Stage}
use Rattle.program_input.specs.declared.Stage.TheVariants.{Start, Slots, Between, Atoms, Break, Rule, Done, Bad}
use Rattle.program_input.specs.declared.Kind.{Kind}
use Rattle.program_input.specs.declared.Kind.TheVariants.{Digit, Space, Feed, Other}
use Rattle.program_input.specs.declared.Scan.{Scan}
use Rattle.program_input.specs.Lines.{line, after_line, Digits, FirstLine}
use Rattle.program_input.specs.Lines.Digits.{digit, more}
use Rattle.program_input.specs.Lines.FirstLine.{numbers}
use Rattle.program_input.specs.Scanning.{State, state, at, begin, kind_of, advanced, kept, stepped, steps, shaped, settled}

-- ---- kinds of bytes

kind_digit : (d : ℕ) → d < 10 → kind_of (48 + d) ≡ Digit
kind_digit d h = rw (ne_eqb (48 + d) 10 (λ e. omega arith), ne_eqb (48 + d) 32 (λ e. omega arith), digit-is (48 + d) (omega arith) (omega arith)) refl

-- ---- steps

-- chunks, one after the other, are one input
pub steps-append : (room : ℕ) (s : State) (a b : List ℕ) → steps room s (a ++ b) ≡ steps room (steps room s a) b
unfolding steps
steps-append room s [] b = refl
steps-append room s (x ∷ a) b = steps-append room (stepped room s x) a b

module _ (room : ℕ) where
  -- a digit after T's digits, or the first; and so for M's
  slots-digit : (g : Stage) (v d : ℕ) → advanced g Digit ≡ Slots → d < 10 → stepped room (at g v 0 []) (48 + d) ≡ at Slots (min 1000 (10 * v + d)) 0 []
  unfolding stepped
  slots-digit g v d e h = rw (kind_digit d h, e) (ap (λ (n : ℕ). at Slots n 0 []) (omega arith))

  atoms-digit : (g : Stage) (t v d : ℕ) → advanced g Digit ≡ Atoms → d < 10 → stepped room (at g t v []) (48 + d) ≡ at Atoms t (min 1000 (10 * v + d)) []
  unfolding stepped
  atoms-digit g t v d e h = rw (kind_digit d h, e) (ap (λ (n : ℕ). at Atoms t n []) (omega arith))

  one-step : (s : State) (b : ℕ) → steps room s (b ∷ []) ≡ stepped room s b
  unfolding steps
  one-step s b = refl

  -- ---- a first line leads to its two numbers

  slots-run : {ds : List ℕ} {n : ℕ} → Digits ds n → steps room begin ds ≡ at Slots (min 1000 n) 0 []
  slots-run (digit {d} h) =
      one-step begin (48 + d) ∙ slots-digit Start 0 d refl h ∙ ap (λ (n : ℕ). at Slots (min 1000 n) 0 []) (omega arith)
  slots-run (more {ds} {n} {d} m h) =
      steps-append room begin ds ((48 + d) ∷ []) ∙ ap (λ (s : State). steps room s ((48 + d) ∷ [])) (slots-run m)
      ∙ one-step (at Slots (min 1000 n) 0 []) (48 + d) ∙ slots-digit Slots (min 1000 n) d refl h
      ∙ ap (λ (k : ℕ). at Slots k 0 []) (omega arith)

  atoms-run : (t : ℕ) {es : List ℕ} {m : ℕ} → Digits es m → steps room (at Between t 0 []) es ≡ at Atoms t (min 1000 m) []
  atoms-run t (digit {d} h) =
      one-step (at Between t 0 []) (48 + d) ∙ atoms-digit Between t 0 d refl h ∙ ap (λ (n : ℕ). at Atoms t (min 1000 n) []) (omega arith)
  atoms-run t (more {ds = es} {n = m} {d} p h) =
      steps-append room (at Between t 0 []) es ((48 + d) ∷ []) ∙ ap (λ (s : State). steps room s ((48 + d) ∷ [])) (atoms-run t p)
      ∙ one-step (at Atoms t (min 1000 m) []) (48 + d) ∙ atoms-digit Atoms t (min 1000 m) d refl h
      ∙ ap (λ (k : ℕ). at Atoms t k []) (omega arith)

  space-step : (t : ℕ) → stepped room (at Slots t 0 []) 32 ≡ at Between t 0 []
  unfolding stepped
  space-step t = refl

  pub first_run : {s : List ℕ} {T M : ℕ} → FirstLine s T M → steps room begin s ≡ at Atoms (min 1000 T) (min 1000 M) []
  unfolding steps
  first_run (numbers {ds} {es} {T} {M} p q) =
      steps-append room begin ds (32 ∷ es) ∙ ap (λ (s : State). steps room s (32 ∷ es)) (slots-run p)
      ∙ ap (λ (s : State). steps room s es) (space-step (min 1000 T)) ∙ atoms-run (min 1000 T) q

-- ---- lines

-- digits have no line feed
digits-line : {ds : List ℕ} {n : ℕ} → Digits ds n → (x : List ℕ) → line (ds ++ x) ≡ ds ++ line x
unfolding line
digits-line (digit {d} h) x = rw (ne_eqb (48 + d) 10 (λ e. omega arith)) refl
digits-line (more {ds} {n} {d} m h) x =
    ap line (append_assoc ds ((48 + d) ∷ []) x) ∙ digits-line m ((48 + d) ∷ x)
    ∙ rw (ne_eqb (48 + d) 10 (λ e. omega arith)) (sym (append_assoc ds ((48 + d) ∷ []) (line x)))

first-line : {s : List ℕ} {T M : ℕ} → FirstLine s T M → (x : List ℕ) → line (s ++ x) ≡ s ++ line x
unfolding line
first-line (numbers {ds} {es} p q) x =
    ap line (append_assoc ds (32 ∷ es) x) ∙ digits-line p (32 ∷ (es ++ x)) ∙ ap (λ (l : List ℕ). ds ++ (32 ∷ l)) (digits-line q x)
    ∙ sym (append_assoc ds (32 ∷ es) (line x))

-- an input is one line, or a line, a line feed and the rest
data Split (input : List ℕ) : Type 0 where
  whole : line input ≡ input → after_line input ≡ [] → Split input
  broken : input ≡ line input ++ (10 ∷ after_line input) → Split input

split : (input : List ℕ) → Split input
unfolding line after_line
split [] = whole refl refl
split (b ∷ s) = go (eqb b 10) refl (split s)
  where
    go : (t : Bool) → eqb b 10 ≡ t → Split s → Split (b ∷ s)
    go true e r = broken (rw (e, eqb-true b 10 e) refl)
    go false e (whole p q) = whole (rw (e, p) refl) (rw (e, q) refl)
    go false e (broken p) = broken (rw e (ap (λ (l : List ℕ). b ∷ l) p))

-- ---- line 2 is kept, and what follows it is ignored

-- a settled scan stays as it is
settled-step : (room : ℕ) (g : Stage) (t m : ℕ) (l : List ℕ) (b : ℕ) → settled g ≡ true → stepped room (at g t m l) b ≡ at g t m l
unfolding stepped
settled-step room Start t m l b e = let z : ◌≡◌ {A = ℕ} 0 1 = cc in absurd (omega arith)
settled-step room Slots t m l b e = let z : ◌≡◌ {A = ℕ} 0 1 = cc in absurd (omega arith)
settled-step room Between t m l b e = let z : ◌≡◌ {A = ℕ} 0 1 = cc in absurd (omega arith)
settled-step room Atoms t m l b e = let z : ◌≡◌ {A = ℕ} 0 1 = cc in absurd (omega arith)
settled-step room Break t m l b e = let z : ◌≡◌ {A = ℕ} 0 1 = cc in absurd (omega arith)
settled-step room Rule t m l b e = let z : ◌≡◌ {A = ℕ} 0 1 = cc in absurd (omega arith)
settled-step room Done t m l b e = refl
settled-step room Bad t m l b e = refl

pub settled-run : (room : ℕ) (s : State) (x : List ℕ) → settled s.stage ≡ true → steps room s x ≡ s
unfolding steps
settled-run room s [] e = refl
settled-run room s (b ∷ x) e =
    ap (λ (r : State). steps room r x) (settled-step room s.stage s.slots s.atoms s.rule b e) ∙ settled-run room s x e

-- what follows the bytes that settle it leads nowhere else
pub settled-more : (room : ℕ) (s : State) (bytes rest : List ℕ) → settled (steps room s bytes).stage ≡ true →
    steps room s (bytes ++ rest) ≡ steps room s bytes
settled-more room s bytes rest e = steps-append room s bytes rest ∙ settled-run room (steps room s bytes) rest e

module _ (room t m : ℕ) where
  -- the state past line 1: its stage is one of three, and the text is kept as far as there is room
  pub record Past (l : List ℕ) (s : State) : Type 0 where
    pub stage : Stage
    pub state-is : s ≡ at stage t m l
    pub shape : shaped stage ≡ true

  -- the stages in which line 2 is read
  data Reading : Stage → Type 0 where
    in-break : Reading Break
    in-rule : Reading Rule

  reading-shaped : {g : Stage} → Reading g → shaped g ≡ true
  reading-shaped in-break = refl
  reading-shaped in-rule = refl

  other_kind : (g : Stage) → Reading g → (a b : Bool) → advanced g (cond a Space (cond b Digit Other)) ≡ Rule
  other_kind Start x a b = elim x [ ]
  other_kind Slots x a b = elim x [ ]
  other_kind Between x a b = elim x [ ]
  other_kind Atoms x a b = elim x [ ]
  other_kind Done x a b = elim x [ ]
  other_kind Bad x a b = elim x [ ]
  other_kind Break in-break true b = refl
  other_kind Break in-break false true = refl
  other_kind Break in-break false false = refl
  other_kind Rule in-rule true b = refl
  other_kind Rule in-rule false true = refl
  other_kind Rule in-rule false false = refl

  feed_kind : {g : Stage} → Reading g → advanced g Feed ≡ Done
  feed_kind in-break = refl
  feed_kind in-rule = refl

  feed_step : (g : Stage) (l : List ℕ) (b : ℕ) → Reading g → eqb b 10 ≡ true → stepped room (at g t m l) b ≡ at Done t m l
  unfolding stepped
  feed_step g l b r e = rw (e, feed_kind r) refl

  byte_step : (g : Stage) (l : List ℕ) (b : ℕ) → Reading g → eqb b 10 ≡ false → stepped room (at g t m l) b ≡ at Rule t m (kept room l b)
  unfolding stepped
  byte_step g l b r e = rw (e, other_kind g r (eqb b 32) (is_digit b)) refl

  -- the text that is kept
  take-kept : (l x : List ℕ) (b : ℕ) → length l ≤ room → take room (kept room l b ++ x) ≡ take room (l ++ (b ∷ x))
  take-kept l x b h = go (ltb (length l) room) refl
    where
      go : (c : Bool) → ltb (length l) room ≡ c → take room (cond c (l ++ (b ∷ [])) l ++ x) ≡ take room (l ++ (b ∷ x))
      go true e = ap (take room) (append_assoc l (b ∷ []) x)
      go false e =
          let f : length l ≡ room = omega (arith, ltb-false (length l) room e) in
          take_at l x room f ∙ sym (take_at l (b ∷ x) room f)

  kept-short : (l : List ℕ) (b : ℕ) → length l ≤ room → length (kept room l b) ≤ room
  kept-short l b h = go (ltb (length l) room) refl
    where
      go : (c : Bool) → ltb (length l) room ≡ c → length (cond c (l ++ (b ∷ [])) l) ≤ room
      go true e = rw length-append (omega (arith, ltb-true (length l) room e))
      go false e = h

  past-run : (g : Stage) (l x : List ℕ) → Reading g → length l ≤ room → Past (take room (l ++ line x)) (steps room (at g t m l) x)
  unfolding steps line
  past-run g l [] r h = record { stage = g; state-is = ap (at g t m) (sym (ap (take room) (append-nil l) ∙ take_all room l h)); shape = reading-shaped r }
  past-run g l (b ∷ x) r h = go (eqb b 10) refl (past-run Rule (kept room l b) x in-rule (kept-short l b h))
    where
      go : (c : Bool) → eqb b 10 ≡ c → Past (take room (kept room l b ++ line x)) (steps room (at Rule t m (kept room l b)) x) →
          Past (take room (l ++ cond c [] (b ∷ line x))) (steps room (stepped room (at g t m l) b) x)
      go true e p = record {
        stage = Done;
        state-is =
            ap (λ (s : State). steps room s x) (feed_step g l b r e) ∙ settled-run room (at Done t m l) x refl
            ∙ ap (at Done t m) (sym (ap (take room) (append-nil l) ∙ take_all room l h));
        shape = refl;
      }
      go false e p = record {
        stage = p.stage;
        state-is = ap (λ (s : State). steps room s x) (byte_step g l b r e) ∙ p.state-is ∙ ap (at p.stage t m) (take-kept l (line x) b h);
        shape = p.shape;
      }

  -- a line feed settles it
  feed_settles : (g : Stage) (l x : List ℕ) → Reading g → settled (steps room (at g t m l) (x ++ (10 ∷ []))).stage ≡ true
  unfolding steps
  feed_settles g l [] r = ap (λ (s : State). settled s.stage) (feed_step g l 10 r refl)
  feed_settles g l (b ∷ x) r = go (eqb b 10) refl (feed_settles Rule (kept room l b) x in-rule)
    where
      go : (c : Bool) → eqb b 10 ≡ c → settled (steps room (at Rule t m (kept room l b)) (x ++ (10 ∷ []))).stage ≡ true →
          settled (steps room (stepped room (at g t m l) b) (x ++ (10 ∷ []))).stage ≡ true
      go true e p =
          ap (λ (s : State). settled s.stage)
          (ap (λ (s : State). steps room s (x ++ (10 ∷ []))) (feed_step g l b r e) ∙ settled-run room (at Done t m l) (x ++ (10 ∷ [])) refl)
      go false e p = ap (λ (s : State). settled (steps room s (x ++ (10 ∷ []))).stage) (byte_step g l b r e) ∙ p

break_step : (room t m : ℕ) → stepped room (at Atoms t m []) 10 ≡ at Break t m []
unfolding stepped
break_step room t m = refl

-- the end of line 2 settles the scan
pub line_2_settles : (room : ℕ) {s : List ℕ} {T M : ℕ} → FirstLine s T M → (rule : List ℕ) →
    settled (steps room begin (s ++ (10 ∷ (rule ++ (10 ∷ []))))).stage ≡ true
unfolding steps
line_2_settles room {s} {T} {M} f rule =
    let t = min 1000 T in
    let m = min 1000 M in
    let e : steps room begin (s ++ (10 ∷ (rule ++ (10 ∷ [])))) ≡ steps room (at Break t m []) (rule ++ (10 ∷ [])) =
    steps-append room begin s (10 ∷ (rule ++ (10 ∷ []))) ∙ ap (λ (x : State). steps room x (10 ∷ (rule ++ (10 ∷ [])))) (first_run room f)
    ∙ ap (λ (x : State). steps room x (rule ++ (10 ∷ []))) (break_step room t m) in
    ap (λ (x : State). settled x.stage) e ∙ feed_settles room t m Break [] rule in-break

-- ---- what the scan of an input whose first line has the shape ends in

pub scanned : (room : ℕ) (input : List ℕ) {T M : ℕ} → FirstLine (line input) T M →
    Past room (min 1000 T) (min 1000 M) (take room (line (after_line input))) (steps room begin input)
unfolding steps line
scanned room input {T} {M} f = go (split input)
  where
    go : Split input → Past room (min 1000 T) (min 1000 M) (take room (line (after_line input))) (steps room begin input)
    go (whole p q) = record {
      stage = Atoms;
      state-is =
          ap (steps room begin) (sym p) ∙ first_run room f
          ∙ ap (at Atoms (min 1000 T) (min 1000 M)) (sym (ap (λ (l : List ℕ). take room (line l)) q ∙ take-nil room));
      shape = refl;
    }
    go (broken p) =
        let e : steps room begin input ≡ steps room (at Break (min 1000 T) (min 1000 M) []) (after_line input) =
        ap (steps room begin) p ∙ steps-append room begin (line input) (10 ∷ after_line input)
        ∙ ap (λ (s : State). steps room s (10 ∷ after_line input)) (first_run room f)
        ∙ ap (λ (s : State). steps room s (after_line input)) (break_step room (min 1000 T) (min 1000 M)) in
        let r = past-run room (min 1000 T) (min 1000 M) Break [] (after_line input) in-break (omega arith) in
        record { stage = r.stage; state-is = e ∙ r.state-is; shape = r.shape }

-- ---- where the stage is that of a shaped line, line 1 has the shape

-- what the stage says of the bytes read
pub record Between-numbers (pre : List ℕ) : Type 0 where
  pub ds : List ℕ
  pub number : ℕ
  pub digits : Digits ds number
  pub is : pre ≡ ds ++ (32 ∷ [])

pub record Over (pre : List ℕ) : Type 0 where
  pub T : ℕ
  pub M : ℕ
  pub s : List ℕ
  pub rest : List ℕ
  pub first : FirstLine s T M
  pub is : pre ≡ s ++ (10 ∷ rest)

abbrev Reached : Stage → List ℕ → Type 0
Reached Start pre = pre ≡ []
Reached Slots pre = (n : ℕ) × Digits pre n
Reached Between pre = Between-numbers pre
Reached Atoms pre = (T : ℕ) × (M : ℕ) × FirstLine pre T M
Reached Break pre = Over pre
Reached Rule pre = Over pre
Reached Done pre = Over pre
Reached Bad pre = Unit {0}

-- what a byte of a kind is
abbrev Means : Kind → ℕ → Type 0
Means Digit b = (d : ℕ) × (d < 10) × (b ≡ 48 + d)
Means Space b = b ≡ 32
Means Feed b = b ≡ 10
Means Other b = Unit {0}

means : (b : ℕ) → Means (kind_of b) b
means b = go (eqb b 10) (eqb b 32) (is_digit b) refl refl refl
  where
    go : (x y z : Bool) → eqb b 10 ≡ x → eqb b 32 ≡ y → is_digit b ≡ z → Means (cond x Feed (cond y Space (cond z Digit Other))) b
    go true y z e f g = eqb-true b 10 e
    go false true z e f g = eqb-true b 32 f
    go false false true e f g = let h = digit-true b g in (b - 48, omega arith, omega arith)
    go false false false e f g = tt

over-next : (pre : List ℕ) (b : ℕ) → Over pre → Over (pre ++ (b ∷ []))
over-next pre b o = record {
  T = o.T;
  M = o.M;
  s = o.s;
  rest = o.rest ++ (b ∷ []);
  first = o.first;
  is = ap (λ (l : List ℕ). l ++ (b ∷ [])) o.is ∙ append_assoc o.s (10 ∷ o.rest) (b ∷ []);
}

first_more : {pre : List ℕ} {T M : ℕ} (d : ℕ) → d < 10 → FirstLine pre T M → FirstLine (pre ++ ((48 + d) ∷ [])) T (10 * M + d)
first_more d h (numbers {ds} {es} {T} {M} p q) =
    subst (λ (l : List ℕ). FirstLine l T (10 * M + d)) (sym (append_assoc ds (32 ∷ es) ((48 + d) ∷ []))) (numbers p (more q h))

reached-next : (g : Stage) (k : Kind) (pre : List ℕ) (b : ℕ) → Means k b → Reached g pre → Reached (advanced g k) (pre ++ (b ∷ []))
reached-next Start Digit pre b w r = (w.0, rw (w.2, r) (digit w.1))
reached-next Start Space pre b w r = tt
reached-next Start Feed pre b w r = tt
reached-next Start Other pre b w r = tt
reached-next Slots Digit pre b w r = (10 * r.0 + w.0, rw w.2 (more r.1 w.1))
reached-next Slots Space pre b w r = record { ds = pre; number = r.0; digits = r.1; is = ap (λ (x : ℕ). pre ++ (x ∷ [])) w }
reached-next Slots Feed pre b w r = tt
reached-next Slots Other pre b w r = tt
reached-next Between Digit pre b w r =
    (r.number, w.0, rw (w.2, r.is, append_assoc) (numbers r.digits (digit w.1)))
reached-next Between Space pre b w r = tt
reached-next Between Feed pre b w r = tt
reached-next Between Other pre b w r = tt
reached-next Atoms Digit pre b w r = (r.0, 10 * r.1 + w.0, rw w.2 (first_more w.0 w.1 r.2))
reached-next Atoms Space pre b w r = tt
reached-next Atoms Feed pre b w r =
    record { T = r.0; M = r.1; s = pre; rest = []; first = r.2; is = ap (λ (x : ℕ). pre ++ (x ∷ [])) w }
reached-next Atoms Other pre b w r = tt
reached-next Break Digit pre b w r = over-next pre b r
reached-next Break Space pre b w r = over-next pre b r
reached-next Break Feed pre b w r = over-next pre b r
reached-next Break Other pre b w r = over-next pre b r
reached-next Rule Digit pre b w r = over-next pre b r
reached-next Rule Space pre b w r = over-next pre b r
reached-next Rule Feed pre b w r = over-next pre b r
reached-next Rule Other pre b w r = over-next pre b r
reached-next Done k pre b w r = over-next pre b r
reached-next Bad k pre b w r = tt

reached-step : (room : ℕ) (s : State) (pre : List ℕ) (b : ℕ) → Reached s.stage pre → Reached (stepped room s b).stage (pre ++ (b ∷ []))
unfolding stepped
reached-step room s pre b r = reached-next s.stage (kind_of b) pre b (means b) r

reached-all : (room : ℕ) (s : State) (pre x : List ℕ) → Reached s.stage pre → Reached (steps room s x).stage (pre ++ x)
unfolding steps
reached-all room s pre [] r = rw append-nil r
reached-all room s pre (b ∷ x) r =
    subst (Reached (steps room (stepped room s b) x).stage) (append_assoc pre (b ∷ []) x)
    (reached-all room (stepped room s b) (pre ++ (b ∷ [])) x (reached-step room s pre b r))

first-over : (pre : List ℕ) → Over pre → (T : ℕ) × (M : ℕ) × FirstLine (line pre) T M
unfolding line
first-over pre o =
    let e : line pre ≡ o.s = ap line o.is ∙ first-line o.first (10 ∷ o.rest) ∙ append-nil o.s in
    (o.T, o.M, subst (λ (l : List ℕ). FirstLine l o.T o.M) (sym e) o.first)

-- the first line of what is read
first_of : (g : Stage) (pre : List ℕ) → Reached g pre → shaped g ≡ true → (T : ℕ) × (M : ℕ) × FirstLine (line pre) T M
unfolding line
first_of Start pre r e = let z : ◌≡◌ {A = ℕ} 0 1 = cc in absurd (omega arith)
first_of Slots pre r e = let z : ◌≡◌ {A = ℕ} 0 1 = cc in absurd (omega arith)
first_of Between pre r e = let z : ◌≡◌ {A = ℕ} 0 1 = cc in absurd (omega arith)
first_of Atoms pre r e =
    (r.0, r.1, subst (λ (l : List ℕ). FirstLine l r.0 r.1) (sym (ap line (sym (append-nil pre)) ∙ first-line r.2 [] ∙ append-nil pre)) r.2)
first_of Break pre r e = first-over pre r
first_of Rule pre r e = first-over pre r
first_of Done pre r e = first-over pre r
first_of Bad pre r e = let z : ◌≡◌ {A = ℕ} 0 1 = cc in absurd (omega arith)

pub shaped-first : (room : ℕ) (input : List ℕ) → shaped (steps room begin input).stage ≡ true → (T : ℕ) × (M : ℕ) × FirstLine (line input) T M
shaped-first room input e = first_of (steps room begin input).stage input (reached-all room begin [] input refl) e

-- a line feed leaves a stage of a shaped line, or settles the scan
after_feed : (g : Stage) → shaped (advanced g Feed) ≡ false → settled (advanced g Feed) ≡ true
after_feed Start e = refl
after_feed Slots e = refl
after_feed Between e = refl
after_feed Atoms e = let z : ◌≡◌ {A = ℕ} 0 1 = cc in absurd (omega arith)
after_feed Break e = let z : ◌≡◌ {A = ℕ} 0 1 = cc in absurd (omega arith)
after_feed Rule e = let z : ◌≡◌ {A = ℕ} 0 1 = cc in absurd (omega arith)
after_feed Done e = let z : ◌≡◌ {A = ℕ} 0 1 = cc in absurd (omega arith)
after_feed Bad e = refl

feed_stage : (room : ℕ) (s : State) → (stepped room s 10).stage ≡ advanced s.stage Feed
unfolding stepped
feed_stage room s = refl

-- the end of a first line of another shape settles it too
pub another_settles : (room : ℕ) (s : List ℕ) → ((T M : ℕ) → FirstLine (line (s ++ (10 ∷ []))) T M → ⊥) →
    settled (steps room begin (s ++ (10 ∷ []))).stage ≡ true
another_settles room s n =
    ap settled last ∙ after_feed (steps room begin s).stage (ap shaped (sym last) ∙ go (shaped (steps room begin (s ++ (10 ∷ []))).stage) refl)
  where
    last : (steps room begin (s ++ (10 ∷ []))).stage ≡ advanced (steps room begin s).stage Feed
    last =
        ap (λ (x : State). x.stage) (steps-append room begin s (10 ∷ []) ∙ one-step room (steps room begin s) 10) ∙ feed_stage room (steps room begin s)

    go : (b : Bool) → shaped (steps room begin (s ++ (10 ∷ []))).stage ≡ b → shaped (steps room begin (s ++ (10 ∷ []))).stage ≡ false
    go true e = let p = shaped-first room (s ++ (10 ∷ [])) e in absurd (n p.0 p.1 p.2)
    go false e = e

-- whether a line has the shape
abbrev Shaped : List ℕ → Type 0
Shaped s = (T : ℕ) × (M : ℕ) × FirstLine s T M

abbrev is_atoms : Stage → Bool
is_atoms Start = false
is_atoms Slots = false
is_atoms Between = false
is_atoms Atoms = true
is_atoms Break = false
is_atoms Rule = false
is_atoms Done = false
is_atoms Bad = false

others : (s : List ℕ) → is_atoms (steps 0 begin s).stage ≡ false → Dec (Shaped s)
others s e =
    no (λ p. let a : is_atoms (steps 0 begin s).stage ≡ true = ap (λ (x : State). is_atoms x.stage) (first_run 0 p.2) in
    let z : ◌≡◌ {A = ℕ} 0 1 = cc in absurd (omega arith))

decided : (s : List ℕ) (g : Stage) → (steps 0 begin s).stage ≡ g → Reached g s → Dec (Shaped s)
decided s Start e r = others s (ap is_atoms e)
decided s Slots e r = others s (ap is_atoms e)
decided s Between e r = others s (ap is_atoms e)
decided s Atoms e r = yes r
decided s Break e r = others s (ap is_atoms e)
decided s Rule e r = others s (ap is_atoms e)
decided s Done e r = others s (ap is_atoms e)
decided s Bad e r = others s (ap is_atoms e)

pub first_line? : (s : List ℕ) → Dec ((T : ℕ) × (M : ℕ) × FirstLine s T M)
first_line? s = decided s (steps 0 begin s).stage refl (reached-all 0 begin [] s refl)

-- a scan that has just started
pub started : (s : Scan) (text : List ℕ) → (s.stage ≡ Start) × (s.slots ≡ 0) × (s.atoms ≡ 0) × (s.kept ≡ 0) → state s text ≡ begin
started s text e = rw (e.0, e.1, e.2, e.3) refl
