-- The lines of the parts of the variables: of the atoms and the nodes, and then of the V's, in node order.
use Rattle.std.specs.Prelude.{◌≡◌, Bool, true, false, cond, List, [], ◌++◌, ℕ, ◌+◌, ◌*◌, ◌≤◌, ◌<◌, length}
use Rattle.std.proofs.Common.{sym, ap, ap₂, ◌∙◌, append-nil, arith, lt-ltb, le-ltb}
use Rattle.lists.specs.Flat.{flat, flat-more}
use Rattle.rules.specs.Table.{Node, node_at}
use Rattle.rules.specs.Rows.{loops, looping, variable_count}
use Rattle.table.specs.Looping.{looping_to, looping-more}
use Rattle.cursor.specs.declared.Cursor.{Cursor}
use Rattle.mps_line.specs.Emitted.{Emitted, emitted-none, emitted-also, emitted_as}
use Rattle.mps_users.specs.Picked.{flat-add, flat-parts}

-- the text of one more V, where node n has one
pub kept_more : (g : ℕ → List ℕ) (ns : List Node) (n : ℕ) → n < length ns →
    flat g (looping_to ns n) ++ cond (loops (node_at ns n)) (g (looping_to ns n)) [] ≡ flat g (looping_to ns (n + 1))
kept_more g ns n h = go (loops (node_at ns n)) ∙ ap (flat g) (sym (looping-more ns n h))
  where
    go : (b : Bool) → flat g (looping_to ns n) ++ cond b (g (looping_to ns n)) [] ≡ flat g (cond b (looping_to ns n + 1) (looping_to ns n))
    go true = sym (flat-more g (looping_to ns n))
    go false = append-nil (flat g (looping_to ns n))

-- the lines of the V's of one node more are put
pub kept_turn : (g : ℕ → List ℕ) (first : ℕ) (ns : List Node) (n : ℕ) → n < length ns → {found more x : ℕ} {a b c : Cursor} →
    found ≡ looping_to ns n → more ≡ looping_to ns (n + 1) → x ≡ first + found → Emitted (flat (λ j. g (first + j)) found) a b →
    Emitted (cond (loops (node_at ns n)) (g x) []) b c → Emitted (flat (λ j. g (first + j)) more) a c
kept_turn g first ns n h {found} {more} {x} e f is p q = emitted_as text (emitted-also p q)
  where
    part : ℕ → List ℕ
    part j = g (first + j)

    text : flat part found ++ cond (loops (node_at ns n)) (g x) [] ≡ flat part more
    text =
        ap₂ (λ (k y : ℕ). flat part k ++ cond (loops (node_at ns n)) (g y) []) e (is ∙ ap (λ (k : ℕ). first + k) e)
        ∙ kept_more part ns n h ∙ ap (flat part) (sym f)

-- a text that is there or not, and is put or not
pub kept-none : {a : Cursor} {b : Bool} (text : List ℕ) → b ≡ false → Emitted (cond b text []) a a
kept-none {a} text e = emitted_as (sym (ap (λ (b : Bool). cond b text []) e)) (emitted-none a)

pub kept-some : {a c : Cursor} {b : Bool} {text : List ℕ} → b ≡ true → Emitted text a c → Emitted (cond b text []) a c
kept-some {text = text} e s = emitted_as (sym (ap (λ (b : Bool). cond b text []) e)) s

module _ (T : ℕ) (f : ℕ → List ℕ) where
  -- the text of part x
  abbrev pub part_text : ℕ → List ℕ
  part_text x = flat (λ s. f (x * T + s)) T

  -- that of all parts, where no V is there, and where they are
  module _ (M L N : ℕ) (ns : List Node) (nodes : N ≡ length ns) where
    pub all-parts : {a b : Cursor} → T ≤ L → Emitted (flat part_text (M + N)) a b → Emitted (flat f (variable_count T M L ns)) a b
    all-parts h s = emitted_as (flat-parts f T (M + N) ∙ ap (flat f) count) s
      where
        count : (M + N) * T ≡ variable_count T M L ns
        count = rw (le-ltb L T h, nodes) (omega arith)

    pub all-parts-kept : {a b c : Cursor} → L < T → Emitted (flat part_text (M + N)) a b →
        Emitted (flat (λ j. part_text (M + N + j)) (looping ns)) b c → Emitted (flat f (variable_count T M L ns)) a c
    all-parts-kept h p q =
        emitted_as (sym (flat-add part_text (M + N) (looping ns)) ∙ flat-parts f T (M + N + looping ns) ∙ ap (flat f) count) (emitted-also p q)
      where
        count : (M + N + looping ns) * T ≡ variable_count T M L ns
        count = rw (lt-ltb L T h, nodes) (omega arith)
