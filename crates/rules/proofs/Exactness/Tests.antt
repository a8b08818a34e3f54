-- Tests that decide what they are asked.
use Rattle.std.specs.Prelude.{◌≡◌, Bool, true, false, ◌↔◌, List, ℕ, ◌^◌, ◌≤◌, ◌<◌, T as Is, leb, ltb, eqb, length, get_or}
use Rattle.std.proofs.Math.Decide.{dec_lt}
use Rattle.std.proofs.Common.{arith, leb→le, le→leb, ltb→lt, lt→ltb, eqb→eq}
use Rattle.std.proofs.Math.Dec.{eqb_refl}
use Rattle.lists.specs.All.{all, all_iff}
use Rattle.lists.specs.Tests.{and_left, and_right, and_both}
use Rattle.rules.specs.Rule.{Rule, AtomsBelow, WindowsAllowed}
use Rattle.rules.specs.Rule.Rule.{atom, unary, binary, windowed}
use Rattle.rules.specs.TableTest.{window_good}
use Rattle.rules.proofs.TableTest.{window-good, good-window}
use Rattle.rules.specs.Refusals.{RunGood}
use Rattle.rules.specs.Outcome.{between, atoms_below, windows_good, run_good}

pub between-true : (low high n : ℕ) → between low high n ≡ true → (low ≤ n) × (n ≤ high)
between-true low high n e =
    let t : Is (between low high n) = rw e tt in
    (leb→le low n (and_left (leb low n) (leb n high) t), leb→le n high (and_right (leb low n) (leb n high) t))

pub between-false : (low high n : ℕ) → between low high n ≡ false → (low ≤ n) × (n ≤ high) → ⊥
between-false low high n e h = rw e at (and_both (leb low n) (leb n high) (le→leb low n h.0) (le→leb n high h.1))

pub atoms-true : (M : ℕ) (p : Rule) → Is (atoms_below M p) ↔ AtomsBelow M p
atoms-true M (atom a) = (ltb→lt a M, lt→ltb a M)
atoms-true M (unary u p) = atoms-true M p
atoms-true M (windowed w a b p) = atoms-true M p
atoms-true M (binary o p q) = (
  λ t. ((atoms-true M p).0 (and_left (atoms_below M p) (atoms_below M q) t), (atoms-true M q).0 (and_right (atoms_below M p) (atoms_below M q) t)),
  λ h. and_both (atoms_below M p) (atoms_below M q) ((atoms-true M p).1 h.0) ((atoms-true M q).1 h.1),
)

pub windows-true : (p : Rule) → Is (windows_good p) ↔ WindowsAllowed p
windows-true (atom a) = (λ t. t, λ t. t)
windows-true (unary u p) = windows-true p
windows-true (binary o p q) = (
  λ t. ((windows-true p).0 (and_left (windows_good p) (windows_good q) t), (windows-true q).0 (and_right (windows_good p) (windows_good q) t)),
  λ h. and_both (windows_good p) (windows_good q) ((windows-true p).1 h.0) ((windows-true q).1 h.1),
)
windows-true (windowed w a b p) = (
  λ t. (window-good a b (and_left (window_good a b) (windows_good p) t), (windows-true p).0 (and_right (window_good a b) (windows_good p) t)),
  λ h. and_both (window_good a b) (windows_good p) (good-window a b h.0) ((windows-true p).1 h.1),
)

pub run-true : (T M : ℕ) (run : List ℕ) → Is (run_good T M run) ↔ RunGood T M run
unfolding run_good
run-true T M run =
    let f : ℕ → Bool = λ i. ltb (get_or run i 0) (2 ^ M) in
    let a = eqb (length run) T in
    let b = all f (length run) in (
      λ t. record {
        numbers = eqb→eq (length run) T (and_left a b t);
        bits = λ i h. ltb→lt (get_or run i 0) (2 ^ M) ((all_iff f (length run)).0 (and_right a b t) i h);
      },
      λ h. and_both a b (rw h.numbers (eqb_refl T)) ((all_iff f (length run)).1 (λ i u. lt→ltb (get_or run i 0) (2 ^ M) (h.bits i u))),
    )

-- a test that fails
pub failed : (b : Bool) {P : Type 0} → (P → Is b) → b ≡ false → P → ⊥
failed b f e p = rw e at (f p)

pub passes : (b : Bool) → b ≡ true → Is b
passes b e = rw e tt

-- what is refuted below k stands at k or above
pub at_least : (i k : ℕ) → (i < k → ⊥) → k ≤ i
at_least i k f = go (dec_lt i k)
  where
    go : Dec (i < k) → k ≤ i
    go (yes h) = absurd (f h)
    go (no h) = omega arith
