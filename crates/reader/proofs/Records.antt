-- The records that the levels write are the node table where numbers fit a byte, their highest atom number tells refusal 5, and the mark of
-- a window that is not allowed refusal 12.
use mathlib.Core.Path.{◌≡◌, refl, sym, ap, ◌∙◌}
use mathlib.Core.Bool.{Bool, true, false, not, ◌&&◌, ◌||◌, and-false}
use mathlib.Core.List.{[], ◌∷◌}
use Prim.Native.Nat.{ℕ, ◌+◌, ◌-◌, ◌%◌, min, max, ◌≤◌, ◌<◌}
use native.Mathlib.Decide.{dec_le}
use native.Mathlib.Omega.{arith}
use lib.Dec.{leb, ltb}
use borrow.Author.Tests.{leb-true, leb-false, le-leb, lt-leb, ltb-true, ltb-false, lt-ltb, le-ltb}
use Rattle.rules.proofs.RuleSize.{size-positive}
use Rattle.rules.specs.Rule.{Rule, size, height, AtomsBelow, WindowsAllowed}
use Rattle.rules.specs.Rule.Rule.{atom, unary, binary, windowed}
use Rattle.rules.specs.Table.{unary_kind, binary_kind, window_kind, table_bytes, nodes_of}
use Rattle.rules.specs.RuleRecords.{records_from}
use Rattle.rules.proofs.RuleRecords.{rule-records}
use Rattle.rules.specs.TableTest.{window_good}
use Rattle.rules.specs.Outcome.{atoms_below, windows_good}
use Rattle.reader_levels.specs.Records.{top, window_flaw, flaw, height-less, entry, records}

-- ---- a window that is not allowed

window-flaw-cases : (a b : ℕ) (x y : Bool) → leb a b ≡ x → leb b 63 ≡ y → not (x && y) ≡ false → (a ≤ b) × (b ≤ 63)
window-flaw-cases a b true true e f h = (leb-true a b e, leb-true b 63 f)
window-flaw-cases a b true false e f h = cc
window-flaw-cases a b false y e f h = cc

bad_none : (a b : ℕ) → window_flaw a b ≡ false → (a ≤ b) × (b ≤ 63)
bad_none a b h = window-flaw-cases a b (leb a b) (leb b 63) refl refl h

neither : (x y : Bool) → (x || y) ≡ false → (x ≡ false) × (y ≡ false)
neither true y e = cc
neither false y e = (refl, e)

-- numbers up to 255 decide it
cut-cases : (a b : ℕ) (x y : Bool) → leb a b ≡ x → leb b 63 ≡ y → (x && y) ≡ window_good (min 255 a) (min 255 b)
cut-cases a b true true e f =
    let h = leb-true a b e in
    let k = leb-true b 63 f in
    rw (le-leb (min 255 a) (min 255 b) (omega arith), le-leb (min 255 b) 63 (omega arith)) refl
cut-cases a b true false e f =
    let h = leb-true a b e in
    let k = leb-false b 63 f in
    rw (le-leb (min 255 a) (min 255 b) (omega arith), lt-leb (min 255 b) 63 (omega arith)) refl
cut-cases a b false y e f = cut_high (leb-false a b e) (dec_le b 63)
  where
    cut_high : b < a → Dec (b ≤ 63) → false ≡ window_good (min 255 a) (min 255 b)
    cut_high h (yes k) = rw (lt-leb (min 255 a) (min 255 b) (omega arith)) refl
    cut_high h (no k) = rw (lt-leb (min 255 b) 63 (omega arith), and-false (leb (min 255 a) (min 255 b))) refl

good-cut : (a b : ℕ) → window_good a b ≡ window_good (min 255 a) (min 255 b)
good-cut a b = cut-cases a b (leb a b) (leb b 63) refl refl

-- ---- where numbers fit a byte, the records are the table's

entry-fits : (k l r a b h : ℕ) → l < 256 → r < 256 → a < 256 → b < 256 → h < 256 → entry k l r a b h ≡ 0x4E ∷ 0x44 ∷ k ∷ l ∷ r ∷ a ∷ b ∷ h ∷ []
entry-fits k l r a b h i j f g e =
    let u : l % 256 ≡ l = omega arith in
    let v : r % 256 ≡ r = omega arith in
    let w : a % 256 ≡ a = omega arith in
    let x : b % 256 ≡ b = omega arith in
    let y : h % 256 ≡ h = omega arith in
    rw (u, v, w, x, y) refl

records-from : (n : ℕ) (p : Rule) → AtomsBelow 256 p → flaw p ≡ false → n + size p ≤ 256 → records n p ≡ records_from n p
unfolding records
records-from n (atom a) low good few =
    let e : min 255 a ≡ a = omega arith in
    entry-fits 1 (min 255 a) 0 0 0 0 (omega arith) (omega arith) (omega arith) (omega arith) (omega arith)
    ∙ ap (λ (x : ℕ). 0x4E ∷ 0x44 ∷ 1 ∷ x ∷ 0 ∷ 0 ∷ 0 ∷ 0 ∷ []) e
records-from n (unary u p) low good few =
    let h = records-from n p low good (omega arith) in
    let s = size-positive p in
    let t = height-less p in
    let e = entry-fits (unary_kind u) (n + size p - 1) 0 0 0 (height p + 1) (omega arith) (omega arith) (omega arith) (omega arith) (omega arith) in
    rw (h, e) refl
records-from n (binary o p q) low good few =
    let g = neither (flaw p) (flaw q) good in
    let h = records-from n p low.0 g.0 (omega arith) in
    let k = records-from (n + size p) q low.1 g.1 (omega arith) in
    let s = size-positive p in
    let t = size-positive q in
    let y = height-less p in
    let z = height-less q in
    let e =
    entry-fits (binary_kind o) (n + size p - 1) (n + size p + size q - 1) 0 0 (max (height p) (height q) + 1) (omega arith) (omega arith) (omega arith)
    (omega arith) (omega arith) in
    rw (h, k, e) refl
records-from n (windowed w a b p) low good few =
    let f = neither (flaw p) (window_flaw (min 255 a) (min 255 b)) good in
    let h = records-from n p low f.0 (omega arith) in
    let s = size-positive p in
    let t = height-less p in
    let g = bad_none (min 255 a) (min 255 b) f.1 in
    let i : min 255 a ≡ a = omega (arith, g) in
    let j : min 255 b ≡ b = omega (arith, g) in
    let e =
    entry-fits (window_kind w) (n + size p - 1) 0 (min 255 a) (min 255 b) (height p + 1) (omega arith) (omega arith) (omega arith) (omega arith)
    (omega arith) in
    rw (h, e, i, j) refl

allowed : (p : Rule) → flaw p ≡ false → WindowsAllowed p
allowed (atom a) e = tt
allowed (unary u p) e = allowed p e
allowed (binary o p q) e = let f = neither (flaw p) (flaw q) e in (allowed p f.0, allowed q f.1)
allowed (windowed w a b p) e =
    let f = neither (flaw p) (window_flaw (min 255 a) (min 255 b)) e in
    let g = bad_none (min 255 a) (min 255 b) f.1 in
    (omega (arith, g), allowed p f.0)

pub records-table : (p : Rule) → AtomsBelow 256 p → flaw p ≡ false → size p ≤ 256 → records 0 p ≡ table_bytes (nodes_of p)
records-table p low good few = records-from 0 p low good (omega arith) ∙ sym (rule-records 256 p low (allowed p good))

-- ---- the highest atom number tells whether all are below M

atom-cases : (a M : ℕ) (b : Bool) → ltb a M ≡ b → M ≤ 255 → b ≡ ltb (min 255 a) M
atom-cases a M true e h = let k = ltb-true a M e in sym (lt-ltb (min 255 a) M (omega arith))
atom-cases a M false e h = let k = ltb-false a M e in sym (le-ltb (min 255 a) M (omega arith))

max_cases : (x y M : ℕ) (b c : Bool) → ltb x M ≡ b → ltb y M ≡ c → (b && c) ≡ ltb (max x y) M
max_cases x y M true true e f = let k = ltb-true x M e in let l = ltb-true y M f in sym (lt-ltb (max x y) M (omega arith))
max_cases x y M true false e f = let l = ltb-false y M f in sym (le-ltb (max x y) M (omega arith))
max_cases x y M false c e f = let k = ltb-false x M e in sym (le-ltb (max x y) M (omega arith))

pub below_top : (M : ℕ) (p : Rule) → M ≤ 255 → atoms_below M p ≡ ltb (top p) M
below_top M (atom a) h = atom-cases a M (ltb a M) refl h
below_top M (unary u p) h = below_top M p h
below_top M (windowed w a b p) h = below_top M p h
below_top M (binary o p q) h = rw (below_top M p h, below_top M q h) (max_cases (top p) (top q) M (ltb (top p) M) (ltb (top q) M) refl refl)

-- ---- the mark tells whether all windows are allowed

both_allowed : (x y : Bool) → (not x && not y) ≡ not (x || y)
both_allowed true y = refl
both_allowed false y = refl

twice : (b : Bool) → b ≡ not (not b)
twice true = refl
twice false = refl

turned : (b c : Bool) → (b && c) ≡ (c && b)
turned true true = refl
turned true false = refl
turned false true = refl
turned false false = refl

pub good-flaw : (p : Rule) → windows_good p ≡ not (flaw p)
good-flaw (atom a) = refl
good-flaw (unary u p) = good-flaw p
good-flaw (binary o p q) = rw (good-flaw p, good-flaw q) (both_allowed (flaw p) (flaw q))
good-flaw (windowed w a b p) =
    let x = window_flaw (min 255 a) (min 255 b) in
    let e : window_good a b ≡ not x = good-cut a b ∙ twice (window_good (min 255 a) (min 255 b)) in
    rw (e, good-flaw p) (turned (not x) (not (flaw p)) ∙ both_allowed (flaw p) x)

-- atoms whose highest is below M are below 256
pub top_below : (M : ℕ) (p : Rule) → M ≤ 255 → top p < M → AtomsBelow 256 p
top_below M (atom a) h l = omega arith
top_below M (unary u p) h l = top_below M p h l
top_below M (windowed w a b p) h l = top_below M p h l
top_below M (binary o p q) h l = (top_below M p h (omega arith), top_below M q h (omega arith))
