-- The search for the first broken row, and its shortfall.
use Rattle.std.specs.Prelude.{◌≡◌, Bool, ℤ, Result, Ok, Err, map}
use Rattle.std.proofs.Math.Path.{refl, ap}
use Rattle.std.proofs.Common.{sym, ◌∙◌, arith, length-append}
use Rattle.std.proofs.Math.Bool.{true, false, cond}
use mathlib.Core.List.{List, [], ◌∷◌, ◌++◌, append_assoc}
use Rattle.std.proofs.Math.Option.{Option, none, some}
use Prim.Native.Nat.{ℕ, zero, suc, ◌+◌, ◌-◌, ◌≤◌}
use Rattle.std.proofs.Math.Numerals.{add-one}
use Rattle.std.proofs.Math.ListN.{length, get_or}
use Rattle.std.proofs.Math.Seq.{get_or-append_seam}
use Rattle.lists.specs.First.{first}
use Rattle.lists.specs.Flat.{flat, flat-zero, flat-more}
use Rattle.rules.specs.Rows.{Row}
use Rattle.rules.specs.Verdicts.{is_short}
use Rattle.judge_slot.specs.declared.Broken.{Broken}
use Rattle.judge_slot.specs.Counts.{at_slot}

-- how a search stands: so many rows are tested and hold, or the first broken one is found
abbrev pub Search : Type 0
Search = Result ℕ Broken

abbrev pub broken_at : ℤ → ℕ → Search
broken_at x i = Err (record { shortfall = x; row = i })

-- ---- rows one after the other

-- one more row, of shortfall d, is tested, if none was broken
abbrev pub stepped : (e : ℕ) (d : ℤ) → Search → Search
stepped e d (Ok i) = cond (is_short e d) (broken_at d i) (Ok (i + 1))
stepped e d (Err b) = Err b

-- rows of these shortfalls
unfoldable pub steps : (e : ℕ) → List ℤ → Search → Search
steps e [] s = s
steps e (d ∷ ds) s = steps e ds (stepped e d s)

pub steps-none : (e : ℕ) (s : Search) → steps e [] s ≡ s
unfolding steps
steps-none e s = refl

pub steps_more : (e : ℕ) (d : ℤ) (ds : List ℤ) (s : Search) → steps e (d ∷ ds) s ≡ steps e ds (stepped e d s)
unfolding steps
steps_more e d ds s = refl

pub steps-stuck : (e : ℕ) (ds : List ℤ) (b : Broken) → steps e ds (Err b) ≡ Err b
unfolding steps
steps-stuck e [] b = refl
steps-stuck e (d ∷ ds) b = steps-stuck e ds b

-- f is the shortfall of a row
module _ (e : ℕ) (f : Row → ℤ) where
  abbrev pub next : Search → Row → Search
  next s r = stepped e (f r) s

  unfoldable pub tested : Search → List Row → Search
  tested s [] = s
  tested s (r ∷ rs) = tested (next s r) rs

  pub tested-none : (s : Search) → tested s [] ≡ s
  unfolding tested
  tested-none s = refl

  pub tested-one : (s : Search) (r : Row) → tested s (r ∷ []) ≡ next s r
  unfolding tested
  tested-one s r = refl

  pub tested-append : (s : Search) (a b : List Row) → tested s (a ++ b) ≡ tested (tested s a) b
  unfolding tested
  tested-append s [] b = refl
  tested-append s (r ∷ a) b = tested-append (next s r) a b

  tested-steps : (s : Search) (rs : List Row) → tested s rs ≡ steps e (map f rs) s
  unfolding tested steps
  tested-steps s [] = refl
  tested-steps s (r ∷ rs) = tested-steps (next s r) rs

  -- a loop over parts of rows
  pub tested-start : (s : Search) (g : ℕ → List Row) → tested s (flat g 0) ≡ s
  tested-start s g = ap (tested s) (flat-zero g) ∙ tested-none s

  pub tested-more : (s : Search) (g : ℕ → List Row) (k : ℕ) → tested s (flat g (k + 1)) ≡ tested (tested s (flat g k)) (g k)
  tested-more s g k = ap (tested s) (flat-more g k) ∙ tested-append s (flat g k) (g k)

-- ---- what it finds

abbrev pub broken : Search → Option ℕ
broken (Ok i) = none
broken (Err b) = some b.row

abbrev pub reached : Search → ℕ
reached (Ok i) = i
reached (Err b) = b.row

-- one more row, as the call that tests it ensures
pub record Step (e : ℕ) (d : ℤ) (s x : Search) : Type 0 where
  pub is : x ≡ stepped e d s
  pub by_one : reached x ≤ reached s + 1

-- several more, as the call that tests them ensures
pub record Stepped (e : ℕ) (ds : List ℤ) (s x : Search) : Type 0 where
  pub is : x ≡ steps e ds s
  pub by_each : reached x ≤ reached s + length ds

-- the rows of a node at a slot, as the call that tests them ensures
pub record Tested (e : ℕ) (f : Row → ℤ) (s : Search) (rs : List Row) (x : Search) : Type 0 where
  pub is : x ≡ tested e f s rs
  pub by_many : reached x ≤ reached s + at_slot

module _ (e : ℕ) (f : Row → ℤ) where
  step-next : {i : ℤ} {a : Row} {s x : Search} → i ≡ f a → Step e i s x → x ≡ next e f s a
  step-next {s = s} t p = p.is ∙ ap (λ (d : ℤ). stepped e d s) t

  -- rows by their shortfalls
  pub steps-tested : {ds : List ℤ} {rs : List Row} {s x : Search} → ds ≡ map f rs → length ds ≤ at_slot → Stepped e ds s x → Tested e f s rs x
  steps-tested {rs = rs} {s = s} p h t =
      record { is = t.is ∙ ap (λ (l : List ℤ). steps e l s) p ∙ sym (tested-steps e f s rs); by_many = omega (arith, t.by_each) }

  pub one-tested : {d : ℤ} {a : Row} {s x : Search} → d ≡ f a → Stepped e (d ∷ []) s x → Tested e f s (a ∷ []) x
  one-tested t = steps-tested (rw t refl) (omega arith)

  pub three-tested : {i j k : ℤ} {a b c : Row} {s x : Search} → i ≡ f a → j ≡ f b → k ≡ f c → Stepped e (i ∷ j ∷ k ∷ []) s x →
      Tested e f s (a ∷ b ∷ c ∷ []) x
  three-tested t u v = steps-tested (rw (t, u, v) refl) (omega arith)

  pub four-tested : {i j k l : ℤ} {a b c d : Row} {s x : Search} → i ≡ f a → j ≡ f b → k ≡ f c → l ≡ f d → Stepped e (i ∷ j ∷ k ∷ l ∷ []) s x →
      Tested e f s (a ∷ b ∷ c ∷ d ∷ []) x
  four-tested t u v w = steps-tested (rw (t, u, v, w) refl) (omega arith)

  -- rows one by one: one more
  pub tested-next : (h : ℕ → Row) (s : Search) (k : ℕ) {d : ℤ} {y x : Search} → y ≡ tested e f s (flat (λ i. h i ∷ []) k) → d ≡ f (h k) → Step e d y x →
      x ≡ tested e f s (flat (λ i. h i ∷ []) (k + 1))
  tested-next h s k p t o =
      step-next t o ∙ ap (λ (y : Search). next e f y (h k)) p
      ∙ sym (tested-more e f s (λ i. h i ∷ []) k ∙ tested-one e f (tested e f s (flat (λ i. h i ∷ []) k)) (h k))

  -- at most 64 rows, and a last one
  pub last-tested : (rs : List Row) (a : Row) {d : ℤ} {n : ℕ} {s y x : Search} → y ≡ tested e f s rs → reached y ≤ reached s + n → n ≤ 64 → d ≡ f a →
      Step e d y x →
      Tested e f s (rs ++ (a ∷ [])) x
  last-tested rs a {s = s} p b h t o =
      record {
        is = step-next t o ∙ ap (λ (y : Search). next e f y a) p ∙ sym (tested-append e f s rs (a ∷ []) ∙ tested-one e f (tested e f s rs) a);
        by_many = omega (arith, b, h, o.by_one);
      }

  pub stuck : (b : Broken) (rs : List Row) → tested e f (Err b) rs ≡ Err b
  unfolding tested
  stuck b [] = refl
  stuck b (r ∷ rs) = stuck b rs

-- a search that is over passes the rows of a slot
pub over-tested : (e : ℕ) (f : Row → ℤ) (b : Broken) (rs : List Row) → Tested e f (Err b) rs (Err b)
over-tested e f b rs = record { is = sym (stuck e f b rs); by_many = omega arith }

-- ---- a search that is over: it passes the rest

abbrev pub over : Search → Bool
over (Ok i) = false
over (Err b) = true

stays : (e : ℕ) (f : Row → ℤ) (x : Search) (rs : List Row) → over x ≡ true → tested e f x rs ≡ x
stays e f (Err b) rs o = stuck e f b rs
stays e f (Ok i) rs o = absurd (cc)

module _ (e : ℕ) (f : Row → ℤ) (s : Search) (g : ℕ → List Row) where
  later : (k j : ℕ) → over (tested e f s (flat g k)) ≡ true → tested e f s (flat g (k + j)) ≡ tested e f s (flat g k)
  later k zero o = let z : k + zero ≡ k = omega arith in ap (λ (n : ℕ). tested e f s (flat g n)) z
  later k (suc j) o =
      let z : k + suc j ≡ k + j + 1 = omega arith in
      let h = later k j o in
      ap (λ (n : ℕ). tested e f s (flat g n)) z ∙ tested-more e f s g (k + j) ∙ ap (λ (x : Search). tested e f x (g (k + j))) h
      ∙ stays e f (tested e f s (flat g k)) (g (k + j)) o

  pub over-rest : (k n : ℕ) {x : Search} → k ≤ n → x ≡ tested e f s (flat g k) → over x ≡ true → x ≡ tested e f s (flat g n)
  over-rest k n h p o =
      let z : k + (n - k) ≡ n = omega arith in
      p ∙ sym (later k (n - k) (ap over (sym p) ∙ o)) ∙ ap (λ (i : ℕ). tested e f s (flat g i)) z

-- and a last row
pub over_last : (e : ℕ) (f : Row → ℤ) (rs : List Row) (a : Row) {s x : Search} → x ≡ tested e f s rs → over x ≡ true → reached x ≤ reached s + at_slot →
    Tested e f s (rs ++ (a ∷ [])) x
over_last e f rs a {s = s} {x = x} p o b =
    record {
      is = sym (tested-append e f s rs (a ∷ []) ∙ ap (λ (y : Search). tested e f y (a ∷ [])) (sym p) ∙ stays e f x (a ∷ []) o);
      by_many = b;
    }

-- ---- of all rows: the first that is broken, and its shortfall

module _ (e : ℕ) (f : Row → ℤ) (d : Row) where
  abbrev breaks : List Row → ℕ → Bool
  breaks l i = is_short e (f (get_or l i d))

  -- the shortfall is that of the row
  abbrev Carries : List Row → Search → Type 0
  Carries l (Ok i) = Unit {0}
  Carries l (Err b) = b.shortfall ≡ f (get_or l b.row d)

  -- in what follows the rows rs stand after p in l, and the search is at the first of them
  seam : (r : Row) (rs p l : List Row) → p ++ (r ∷ rs) ≡ l → get_or l (length p) d ≡ r
  seam r rs p l q = ap (λ (x : List Row). get_or x (length p) d) (sym q) ∙ get_or-append_seam p r rs d

  one_more : (r : Row) (p : List Row) → length (p ++ (r ∷ [])) ≡ suc (length p)
  one_more r p = length-append p (r ∷ []) ∙ add-one (length p)

  from : (rs p l : List Row) → p ++ rs ≡ l → broken (tested e f (Ok (length p)) rs) ≡ first (breaks l) (length rs) (length p)
  unfolding tested first
  from [] p l q = refl
  from (r ∷ rs) p l q = go (is_short e (f r)) refl (seam r rs p l q) (one_more r p) (from rs (p ++ (r ∷ [])) l (append_assoc p (r ∷ []) rs ∙ q))
    where
      go : (b : Bool) → is_short e (f r) ≡ b → get_or l (length p) d ≡ r → length (p ++ (r ∷ [])) ≡ suc (length p) →
          broken (tested e f (Ok (length (p ++ (r ∷ [])))) rs) ≡ first (breaks l) (length rs) (length (p ++ (r ∷ []))) →
          broken (tested e f (cond (is_short e (f r)) (broken_at (f r) (length p)) (Ok (length p + 1))) rs) ≡ cond (breaks l (length p)) (some (length p))
          (first (breaks l) (length rs) (suc (length p)))
      go true t here size rest = rw (here, t) (ap broken (stuck e f (record { shortfall = f r; row = length p }) rs))
      go false t here size rest = rw (here, t, add-one (length p), ← size) rest

  carried : (rs p l : List Row) → p ++ rs ≡ l → Carries l (tested e f (Ok (length p)) rs)
  unfolding tested
  carried [] p l q = tt
  carried (r ∷ rs) p l q = go (is_short e (f r)) refl (seam r rs p l q) (one_more r p) (carried rs (p ++ (r ∷ [])) l (append_assoc p (r ∷ []) rs ∙ q))
    where
      go : (b : Bool) → is_short e (f r) ≡ b → get_or l (length p) d ≡ r → length (p ++ (r ∷ [])) ≡ suc (length p) →
          Carries l (tested e f (Ok (length (p ++ (r ∷ [])))) rs) →
          Carries l (tested e f (cond (is_short e (f r)) (broken_at (f r) (length p)) (Ok (length p + 1))) rs)
      go true t here size rest = rw (t, stuck e f (record { shortfall = f r; row = length p }) rs, here) refl
      go false t here size rest = rw (t, add-one (length p), ← size) rest

  pub first-broken : (l : List Row) → broken (tested e f (Ok 0) l) ≡ first (breaks l) (length l) 0
  first-broken l = from l [] l refl

  pub shortfall-of : (l : List Row) (b : Broken) → tested e f (Ok 0) l ≡ Err b → b.shortfall ≡ f (get_or l b.row d)
  shortfall-of l b p = rw p at (carried l [] l refl)

-- a search that finds none has counted the rows
pub all-clear : (e : ℕ) (f : Row → ℤ) (l : List Row) (i n : ℕ) → tested e f (Ok i) l ≡ Ok n → n ≡ i + length l
unfolding tested
all-clear e f [] i n p = let z : i ≡ n = cc in omega arith
all-clear e f (r ∷ rs) i n p = go (is_short e (f r)) refl (all-clear e f rs (i + 1) n)
  where
    step : (b : Bool) → is_short e (f r) ≡ b → tested e f (cond b (broken_at (f r) i) (Ok (i + 1))) rs ≡ Ok n
    step b t = sym (ap (λ (b : Bool). tested e f (cond b (broken_at (f r) i) (Ok (i + 1))) rs) t) ∙ p

    go : (b : Bool) → is_short e (f r) ≡ b → (tested e f (Ok (i + 1)) rs ≡ Ok n → n ≡ i + 1 + length rs) → n ≡ i + suc (length rs)
    go true t rest =
        let z : broken_at (f r) i ≡ Ok n = sym (stuck e f (record { shortfall = f r; row = i }) rs) ∙ step true t in
        absurd (cc)
    go false t rest = let z = rest (step false t) in omega arith
