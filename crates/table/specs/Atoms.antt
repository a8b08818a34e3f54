-- An atom's record: its mark, its number, and zeros behind it.
use Rattle.std.specs.Prelude.{◌≡◌, refl, Bool, true, false, ◌&&◌, List, ℕ, ◌+◌, ◌*◌, ◌≤◌, ◌<◌, eqb, ltb}
use Rattle.std.proofs.Common.{ap, ◌∙◌, arith, eqb→eq, lt-ltb, le-ltb}
use mathlib.Core.Bool.{and-false}
use Rattle.lists.specs.Tests.{and_left, and_right, same_tests}
use Rattle.rules.specs.TableTest.{byte_at, marked, node_in, record_good}

-- four bytes as one number
abbrev pub last_four : List ℕ → ℕ → ℕ
last_four bytes n = byte_at bytes n 4 + 256 * byte_at bytes n 5 + 65536 * (byte_at bytes n 6 + 256 * byte_at bytes n 7)

all-zero : (m a r i j h : Bool) → ((m && ((a && r) && (i && j))) && h) ≡ (m && (a && (r && (i && (j && h)))))
all-zero false a r i j h = refl
all-zero true false r i j h = refl
all-zero true true false i j h = refl
all-zero true true true false j h = refl
all-zero true true true true false h = refl
all-zero true true true true true h = refl

zeros : (r i j h : ℕ) → (eqb r 0 && (eqb i 0 && (eqb j 0 && eqb h 0))) ≡ eqb (r + 256 * i + 65536 * (j + 256 * h)) 0
zeros r i j h = same_tests (eqb r 0 && (eqb i 0 && (eqb j 0 && eqb h 0))) (eqb (r + 256 * i + 65536 * (j + 256 * h)) 0) (
  λ t.
      let u = and_right (eqb r 0) (eqb i 0 && (eqb j 0 && eqb h 0)) t in
      let v = and_right (eqb i 0) (eqb j 0 && eqb h 0) u in
      let a = eqb→eq r 0 (and_left (eqb r 0) (eqb i 0 && (eqb j 0 && eqb h 0)) t) in
      let b = eqb→eq i 0 (and_left (eqb i 0) (eqb j 0 && eqb h 0) u) in
      let c = eqb→eq j 0 (and_left (eqb j 0) (eqb h 0) v) in
      let d = eqb→eq h 0 (and_right (eqb j 0) (eqb h 0) v) in
      rw (a, b, c, d) tt,
  λ t.
      let e = eqb→eq (r + 256 * i + 65536 * (j + 256 * h)) 0 t in
      let a : r ≡ 0 = omega arith in
      let b : i ≡ 0 = omega arith in
      let c : j ≡ 0 = omega arith in
      let d : h ≡ 0 = omega arith in
      rw (a, b, c, d) tt,
)

pub atom_record : (M : ℕ) (bytes : List ℕ) (n : ℕ) → byte_at bytes n 2 ≡ 1 →
    record_good M bytes n ≡ (marked bytes n && (ltb (byte_at bytes n 3) M && eqb (last_four bytes n) 0))
unfolding record_good node_in
atom_record M bytes n e =
    rw e
    (all-zero (marked bytes n) (ltb (byte_at bytes n 3) M) (eqb (byte_at bytes n 4) 0) (eqb (byte_at bytes n 5) 0) (eqb (byte_at bytes n 6) 0)
    (eqb (byte_at bytes n 7) 0)
    ∙ ap (λ (b : Bool). marked bytes n && (ltb (byte_at bytes n 3) M && b)) (zeros (byte_at bytes n 4) (byte_at bytes n 5) (byte_at bytes n 6) (byte_at bytes n 7)))

-- the same, test by test
pub atom-tested : (M : ℕ) (bytes : List ℕ) (n : ℕ) → byte_at bytes n 2 ≡ 1 → marked bytes n ≡ true → byte_at bytes n 3 < M →
    eqb (last_four bytes n) 0 ≡ record_good M bytes n
atom-tested M bytes n e marks h = rw (atom_record M bytes n e, marks, lt-ltb (byte_at bytes n 3) M h)

pub atom-beyond : (M : ℕ) (bytes : List ℕ) (n : ℕ) → byte_at bytes n 2 ≡ 1 → M ≤ byte_at bytes n 3 → false ≡ record_good M bytes n
atom-beyond M bytes n e h = rw (atom_record M bytes n e, le-ltb (byte_at bytes n 3) M h, and-false)

pub atom-unmarked : (M : ℕ) (bytes : List ℕ) (n : ℕ) → byte_at bytes n 2 ≡ 1 → marked bytes n ≡ false → false ≡ record_good M bytes n
atom-unmarked M bytes n e none = rw (atom_record M bytes n e, none)
