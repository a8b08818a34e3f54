-- Texts put one after the other where there is room for them.
use Rattle.std.specs.Prelude.{◌≡◌, refl, List, [], ◌++◌, ℕ, ◌+◌, ◌*◌, ◌≤◌, ◌<◌, length}
use Rattle.std.proofs.Common.{◌∙◌, subst, arith, length-append}
use Rattle.std.proofs.lemmas.List.Edits.{sets}
use Rattle.cursor.specs.Put.{Put, also}
use Rattle.cursor.specs.Puts.{Puts}
use Rattle.cursor.specs.declared.Cursor.{Cursor}
use Rattle.mps_line.specs.Bounds.{line_limit}

-- the cursor stands past xs, and xs is written where it has room
pub record Emitted (xs : List ℕ) (old new : Cursor) : Type 0 where
  pub ends : new.at ≡ old.at + length xs
  pub content : old.at + length xs ≤ length old.out.now → new.out.now ≡ sets old.out.now old.at xs
  pub same : length new.out.now ≡ length old.out.now
  pub buffer : new.out.ghost_name ≡ old.out.ghost_name

-- and xs is as long as k lines at most
abbrev pub Lines : (k : ℕ) (xs : List ℕ) (old new : Cursor) → Type 0
Lines k xs old new = Emitted xs old new × (new.at ≤ old.at + k * line_limit)

pub emitted-none : (c : Cursor) → Emitted [] c c
emitted-none c = record { ends = omega arith; content = λ h. refl; same = refl; buffer = refl }

-- put, where there was room
pub emitted_put : {xs : List ℕ} {a b : Cursor} → Puts xs a b → Emitted xs a b
emitted_put p = record { ends = p.put.ends; content = λ h. p.put.content; same = p.room; buffer = p.same }

-- nothing is put, for want of room
pub emitted_out : {xs : List ℕ} {a b : Cursor} → b.out ≡ a.out → b.at ≡ a.at + length xs → length a.out.now < b.at → Emitted xs a b
emitted_out {xs} {a} {b} s e h = record {
  ends = e;
  content = λ g. absurd (omega arith);
  same = rw s refl;
  buffer = rw s refl;
}

-- one text behind another
pub emitted-also : {xs ys : List ℕ} {a b c : Cursor} → Emitted xs a b → Emitted ys b c → Emitted (xs ++ ys) a c
emitted-also {xs} {ys} {a} {b} {c} p q =
    let e : length (xs ++ ys) ≡ length xs + length ys = length-append xs ys in
    record {
      ends = omega (arith, p.ends, q.ends, e);
      content = λ h.
          let f : Put a.at xs a.out.now b.out.now b.at = record { content = p.content (omega arith); ends = p.ends } in
          let g : Put b.at ys b.out.now c.out.now c.at = record { content = q.content (omega (arith, p.ends, p.same, e)); ends = q.ends } in
          (also f g).content;
      same = q.same ∙ p.same;
      buffer = q.buffer ∙ p.buffer;
    }

-- the same text, said in another way
pub emitted_as : {xs ys : List ℕ} {a b : Cursor} → xs ≡ ys → Emitted xs a b → Emitted ys a b
emitted_as {a = a} {b} e s = subst (λ (t : List ℕ). Emitted t a b) e s
