-- A node's text put behind a cursor, piece behind piece.
use Rattle.std.specs.Prelude.{◌≡◌, Bool, true, false, List, [], ◌∷◌, ℕ, ◌+◌, ◌≤◌, ◌<◌, ltb, length}
use Rattle.std.proofs.Common.{refl, sym, ap, arith, length-append}
use Rattle.rules.specs.Table.{rule_at}
use Rattle.rules.specs.TableTest.{nodes_in, record_count}
use Rattle.text.specs.Decimal.{decimal}
use Rattle.cursor.specs.Put.{nothing}
use Rattle.cursor.specs.Puts.{Puts, Room, then, said}
use Rattle.cursor.specs.declared.Cursor.{Cursor}
use Rattle.printer_text.specs.Shown.{shown}
use Rattle.printer_node.specs.declared.Prefix.{Prefix}
use Rattle.printer_node.specs.declared.Pair.{Pair}
use Rattle.printer_node.specs.declared.Shape.TheVariants.{Leaf, Prefixed, Paired}
use Rattle.printer_node.specs.Shapes.{grade_of, tighter, piece, head_text, Printable, Shaped, left_text, right_text, paired_length}

-- what putting node n's text asks
pub record Putting (table : List ℕ) (n k : ℕ) (page : Cursor) : Type 0 where
  pub printable : Printable table
  pub inside : n < record_count table
  pub room : Room page (length (shown k (rule_at (nodes_in table) n)))

-- a byte that may be left out
pub piece-room : (b : ℕ) (f : Bool) (c : Cursor) → Room c (length (piece f b)) → f ≡ true → Room c 1
piece-room b f c h e = let k = ap (λ (x : Bool). length (piece x b)) e in omega arith

pub piece-there : {b : ℕ} {f : Bool} {c d : Cursor} → f ≡ true → Puts (b ∷ []) c d → Puts (piece f b) c d
piece-there {b} e p = said (ap (λ (x : Bool). piece x b) (sym e)) p

pub piece-none : (b : ℕ) (f : Bool) (c : Cursor) → f ≡ false → Puts (piece f b) c c
piece-none b f c e = said (ap (λ (x : Bool). piece x b) (sym e)) (record { same = refl; room = refl; put = nothing c.at })

module _ (table : List ℕ) (n k : ℕ) (c : Cursor) (p : Putting table n k c) where
  abbrev text_at : (g m : ℕ) → List ℕ
  text_at g m = shown g (rule_at (nodes_in table) m)

  -- ---- an atom

  pub leaf_room : {a : ℕ} → Shaped table n (Leaf a) → Room c (length (97 ∷ decimal a))
  leaf_room h = omega (arith, p.room, ap length (h.text k))

  pub leaf_put : {a : ℕ} → Shaped table n (Leaf a) → {d : Cursor} → Puts (97 ∷ decimal a) c d → Puts (text_at k n) c d
  leaf_put h x = said (sym (h.text k)) x

  -- ---- an operator before its part

  module _ {x : Prefix} (h : Shaped table n (Prefixed x)) where
    lengths-of : c.at + length (head_text x) + length (text_at 4 x.child) ≤ length c.out.now
    lengths-of = omega (arith, p.room, ap length (h.text k), length-append (head_text x) (text_at 4 x.child))

    pub head-room : Room c (length (head_text x))
    head-room = omega (arith, lengths-of)

    module _ {d : Cursor} (y : Puts (head_text x) c d) where
      pub child_putting : Putting table x.child 4 d
      child_putting = record {
        printable = p.printable;
        inside = omega (arith, h.good.0, p.inside);
        room = omega (arith, lengths-of, y.room, y.put.ends);
      }

      pub prefixed_put : {e : Cursor} → Puts (text_at 4 x.child) d e → Puts (text_at k n) c e
      prefixed_put z = said (sym (h.text k)) (then y z)

  -- ---- an operator between two parts

  module _ {x : Pair} (h : Shaped table n (Paired x)) where
    abbrev opening : List ℕ
    opening = piece (ltb (grade_of x.level) k) 40

    abbrev closing : List ℕ
    closing = piece (ltb (grade_of x.level) k) 41

    abbrev sign_text : List ℕ
    sign_text = x.sign ∷ []

    lengths : c.at + length opening + length (left_text table n k h) + 1 + length (right_text table n k h) + length closing ≤ length c.out.now
    lengths = omega (arith, p.room, paired_length table n k h)

    pub open_room : Room c (length opening)
    open_room = omega (arith, lengths)

    module _ {c₁ : Cursor} (x₁ : Puts opening c c₁) where
      pub left-putting : Putting table x.left (grade_of (tighter x.level)) c₁
      left-putting = record {
        printable = p.printable;
        inside = omega (arith, h.good.0, p.inside);
        room = omega (arith, lengths, x₁.room, x₁.put.ends);
      }

      module _ {c₂ : Cursor} (x₂ : Puts (left_text table n k h) c₁ c₂) where
        pub sign-room : Room c₂ 1
        sign-room = omega (arith, lengths, x₁.room, x₂.room, x₁.put.ends, x₂.put.ends)

        module _ {c₃ : Cursor} (x₃ : Puts sign_text c₂ c₃) where
          pub right-putting : Putting table x.right (grade_of x.level) c₃
          right-putting = record {
            printable = p.printable;
            inside = omega (arith, h.good.1, p.inside);
            room = omega (arith, lengths, x₁.room, x₂.room, x₃.room, x₁.put.ends, x₂.put.ends, x₃.put.ends);
          }

          module _ {c₄ : Cursor} (x₄ : Puts (right_text table n k h) c₃ c₄) where
            pub close-room : Room c₄ (length closing)
            close-room =
                omega (arith, lengths, x₁.room, x₂.room, x₃.room, x₄.room, x₁.put.ends, x₂.put.ends, x₃.put.ends, x₄.put.ends)

            pub paired_put : {c₅ : Cursor} → Puts closing c₄ c₅ → Puts (text_at k n) c c₅
            paired_put x₅ = said (sym (h.text k)) (then x₁ (then x₂ (then x₃ (then x₄ x₅))))
