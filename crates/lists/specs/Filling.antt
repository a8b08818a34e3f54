-- A loop that writes the lists f 0, f 1, .. one after the other into a buffer, from the place `at`.
use Rattle.std.specs.Prelude.{◌≡◌, refl, List, ◌++◌, ℕ, ◌+◌, ◌≤◌, ◌<◌, length}
use Rattle.std.proofs.Common.{sym, ap, ◌∙◌, arith, length-append}
use Rattle.lists.specs.Flat.{flat, flat-zero, flat-more, length-flat-room}
use Rattle.lists.specs.Splice.{splice, splice_nil, splice-next}

-- the same list, said in another way
pub splice_as : (at : ℕ) {xs ys : List ℕ} (l : List ℕ) {m : List ℕ} → m ≡ splice at xs l → xs ≡ ys → m ≡ splice at ys l
splice_as at l e f = e ∙ ap (λ (xs : List ℕ). splice at xs l) f

-- m is l with xs written from `at`, and n is m with ys written straight after them
pub splice_then : (at to : ℕ) (xs ys l m n : List ℕ) → m ≡ splice at xs l → n ≡ splice to ys m → to ≡ at + length xs → to ≤ length l
    → n ≡ splice at (xs ++ ys) l
splice_then at to xs ys l m n p q e h = q ∙ ap (splice to ys) p ∙ splice-next at to xs ys l e h

-- k of the lists are written: m is what l is now, and `next` the next place
pub record Filled (at : ℕ) (f : ℕ → List ℕ) (l : List ℕ) (k : ℕ) (m : List ℕ) (next : ℕ) : Type 0 where
  pub is : m ≡ splice at (flat f k) l
  pub to : next ≡ at + length (flat f k)
  pub same : length m ≡ length l

pub filled_none : (at : ℕ) (f : ℕ → List ℕ) (l : List ℕ) → Filled at f l 0 l at
filled_none at f l =
    record { is = rw flat-zero (sym (splice_nil at l)); to = rw flat-zero (omega arith); same = refl }

module _ {at : ℕ} {f : ℕ → List ℕ} {l : List ℕ} {k : ℕ} {m : List ℕ} {next : ℕ} (d : Filled at f l k m next) where
  -- the next list has room, where all n have
  pub filled_room : (n : ℕ) → k < n → at + length (flat f n) ≤ length l → next + length (f k) ≤ length m
  filled_room n h r = omega (arith, length-flat-room f k n h)

  -- a turn: the next list was written at the next place
  pub filled_more : (n : ℕ) → k < n → at + length (flat f n) ≤ length l → (m' : List ℕ) (next' : ℕ) → m' ≡ splice next (f k) m
      → next' ≡ next + length (f k) → length m' ≡ length m → Filled at f l (k + 1) m' next'
  filled_more n h r m' next' e g s =
      let w = filled_room n h r in
      record {
        is = rw flat-more (splice_then at next (flat f k) (f k) l m m' d.is e d.to (omega arith));
        to = simp (flat-more, length-append) (omega arith);
        same = omega arith;
      }

  -- all n are written
  pub filled_all : (n : ℕ) → n ≡ k → (next ≡ at + length (flat f n)) × (m ≡ splice at (flat f n) l)
  filled_all n e = rw e (d.to, d.is)
