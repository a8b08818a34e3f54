-- Whether bytes are a good table, as a test of each record in turn, and the nodes that they are the records of.
use Rattle.rules.specs.TableTest.{byte_at, good, height_in, height_now, height_test, marked, no_window, node_from, node_good, node_in, node_test, nodes_in, or_atom, record_count, record_good, some_good, window_good}
use Rattle.std.specs.Prelude.{◌≡◌, Bool, true, false, cond, ◌&&◌, List, [], ◌∷◌, ℕ, zero, suc, ◌+◌, ◌*◌, ◌/◌, ◌%◌, ◌<◌, max, T as Is, ltb, eqb, get_or}
use Rattle.std.proofs.Math.Path.{refl, ap, subst}
use Rattle.std.proofs.Common.{sym, ap₂, ◌∙◌, zero-add, add-zero, le→leb, ltb→lt, lt→ltb, ext_get_or, get_or-append-add}
use Rattle.std.proofs.Math.Option.{Option, none, some}
use native.Mathlib.Omega.{arith}
use Rattle.std.proofs.Math.Dec.{leb, leb→le, eqb→eq, eqb_refl}
use Rattle.std.proofs.Math.ListN.{length}
use Rattle.lists.specs.Tests.{and_left, and_right, and_both}
use Rattle.lists.specs.All.{all, all_iff}
use Rattle.lists.specs.Tabulate.{length-tabulate, get_d_tabulate}
use Rattle.rules.specs.Quantities.{WindowAllowed}
use Rattle.rules.specs.Rule.{Unary, Binary, Window, Rule, height}
use Rattle.rules.specs.Rule.Unary.{not, eventually, always}
use Rattle.rules.specs.Rule.Binary.{and, or, implies, until}
use Rattle.rules.specs.Rule.Window.{within, throughout}
use Rattle.rules.specs.Table.{Node, kind_of, left_of, right_of, from_of, to_of, node_bytes, table_from, table_bytes, NodeGood, Good, node_at, grow}
use Rattle.rules.specs.Table.{rule_at, height_at}
use Rattle.rules.specs.Table.Node.{atom, unary, binary, windowed}
use Rattle.rules.proofs.TableRules.{rule_at-is}

-- ---- one record

unary-back : (u : Unary) (c : ℕ) → node_in (kind_of (unary u c)) c 0 0 0 ≡ some (unary u c)
unfolding node_in
unary-back not c = refl
unary-back eventually c = refl
unary-back always c = refl

binary-back : (o : Binary) (l r : ℕ) → node_in (kind_of (binary o l r)) l r 0 0 ≡ some (binary o l r)
unfolding node_in
binary-back and l r = refl
binary-back or l r = refl
binary-back implies l r = refl
binary-back until l r = refl

window-back : (w : Window) (a b c : ℕ) → node_in (kind_of (windowed w a b c)) c 0 a b ≡ some (windowed w a b c)
unfolding node_in
window-back within a b c = refl
window-back throughout a b c = refl

-- a node is read back from its kind, left, right and window
pub node-back : (nd : Node) → node_in (kind_of nd) (left_of nd) (right_of nd) (from_of nd) (to_of nd) ≡ some nd
unfolding node_in
node-back (atom a) = refl
node-back (unary u c) = unary-back u c
node-back (binary o l r) = binary-back o l r
node-back (windowed w a b c) = window-back w a b c

-- the fields of a good node n
pub record Fields (M n k l r i j : ℕ) (nd : Node) : Type 0 where
  pub kind_is : k ≡ kind_of nd
  pub left_is : l ≡ left_of nd
  pub right_is : r ≡ right_of nd
  pub from_is : i ≡ from_of nd
  pub to_is : j ≡ to_of nd
  pub good-node : NodeGood M n nd

no-window : (a b : ℕ) → Is (no_window a b) → (a ≡ 0) × (b ≡ 0)
no-window a b t = (eqb→eq a 0 (and_left (eqb a 0) (eqb b 0) t), eqb→eq b 0 (and_right (eqb a 0) (eqb b 0) t))

pub window-good : (a b : ℕ) → Is (window_good a b) → WindowAllowed a b
window-good a b t = (leb→le a b (and_left (leb a b) (leb b 63) t), leb→le b 63 (and_right (leb a b) (leb b 63) t))

pub good-window : (a b : ℕ) → WindowAllowed a b → Is (window_good a b)
good-window a b h = and_both (leb a b) (leb b 63) (le→leb a b h.0) (le→leb b 63 h.1)

module _ (M n k l r i j : ℕ) where
  abbrev From : Node → Type 0
  From nd = Is (node_good M n r i j nd) → Fields M n k l r i j nd

  from-atom : k ≡ 1 → From (atom l)
  from-atom e t =
      let s = and_left (ltb l M && eqb r 0) (no_window i j) t in
      let w = no-window i j (and_right (ltb l M && eqb r 0) (no_window i j) t) in
      record {
        kind_is = e;
        left_is = refl;
        right_is = eqb→eq r 0 (and_right (ltb l M) (eqb r 0) s);
        from_is = w.0;
        to_is = w.1;
        good-node = ltb→lt l M (and_left (ltb l M) (eqb r 0) s);
      }

  from-unary : (u : Unary) → k ≡ kind_of (unary u l) → From (unary u l)
  from-unary u e t =
      let s = and_left (ltb l n && eqb r 0) (no_window i j) t in
      let w = no-window i j (and_right (ltb l n && eqb r 0) (no_window i j) t) in
      record {
        kind_is = e;
        left_is = refl;
        right_is = eqb→eq r 0 (and_right (ltb l n) (eqb r 0) s);
        from_is = w.0;
        to_is = w.1;
        good-node = ltb→lt l n (and_left (ltb l n) (eqb r 0) s);
      }

  from-binary : (o : Binary) → k ≡ kind_of (binary o l r) → From (binary o l r)
  from-binary o e t =
      let s = and_left (ltb l n && ltb r n) (no_window i j) t in
      let w = no-window i j (and_right (ltb l n && ltb r n) (no_window i j) t) in
      record {
        kind_is = e;
        left_is = refl;
        right_is = refl;
        from_is = w.0;
        to_is = w.1;
        good-node = (ltb→lt l n (and_left (ltb l n) (ltb r n) s), ltb→lt r n (and_right (ltb l n) (ltb r n) s));
      }

  from-window : (w : Window) → k ≡ kind_of (windowed w i j l) → From (windowed w i j l)
  from-window w e t =
      let s = and_left (ltb l n && eqb r 0) (window_good i j) t in
      record {
        kind_is = e;
        left_is = refl;
        right_is = eqb→eq r 0 (and_right (ltb l n) (eqb r 0) s);
        from_is = refl;
        to_is = refl;
        good-node = (ltb→lt l n (and_left (ltb l n) (eqb r 0) s), window-good i j (and_right (ltb l n && eqb r 0) (window_good i j) t));
      }

  -- one kind of the ten, or a later one
  next_kind : (nd : Node) (m : ℕ) (b : Bool) (x : Node) (rest : Option Node) → b ≡ eqb k m → (k ≡ m → From x) → (rest ≡ some nd → From nd) →
      cond b (some x) rest ≡ some nd → From nd
  next_kind nd m true x rest e f g h =
      let same : x ≡ nd = cc in
      subst From same (f (eqb→eq k m (rw (← e) tt)))
  next_kind nd m false x rest e f g h = g h

  no_kind : (nd : Node) → none ≡ some nd → From nd
  no_kind nd h = let z : ◌≡◌ {A = ℕ} 0 1 = cc in absurd (omega arith)

  from_kind : (nd : Node) → node_in k l r i j ≡ some nd → From nd
  unfolding node_in
  from_kind nd =
      next_kind nd 1 (eqb k 1) (atom l) _ refl from-atom
      (next_kind nd 2 (eqb k 2) (unary not l) _ refl (from-unary not)
      (next_kind nd 3 (eqb k 3) (binary and l r) _ refl (from-binary and)
      (next_kind nd 4 (eqb k 4) (binary or l r) _ refl (from-binary or)
      (next_kind nd 5 (eqb k 5) (binary implies l r) _ refl (from-binary implies)
      (next_kind nd 6 (eqb k 6) (unary eventually l) _ refl (from-unary eventually)
      (next_kind nd 7 (eqb k 7) (unary always l) _ refl (from-unary always)
      (next_kind nd 8 (eqb k 8) (binary until l r) _ refl (from-binary until)
      (next_kind nd 9 (eqb k 9) (windowed within i j l) _ refl (from-window within)
      (next_kind nd 10 (eqb k 10) (windowed throughout i j l) none refl (from-window throughout) (no_kind nd))))))))))

  some_fields : (x : Option Node) → node_in k l r i j ≡ x → Is (some_good M n r i j x) → Fields M n k l r i j (or_atom x)
  some_fields none e t = absurd t
  some_fields (some nd) e t = from_kind nd e t

good-test : (M n : ℕ) (nd : Node) → NodeGood M n nd → Is (node_good M n (right_of nd) (from_of nd) (to_of nd) nd)
good-test M n (atom a) h = and_both (ltb a M && true) true (and_both (ltb a M) true (lt→ltb a M h) tt) tt
good-test M n (unary u c) h = and_both (ltb c n && true) true (and_both (ltb c n) true (lt→ltb c n h) tt) tt
good-test M n (binary o l r) h = and_both (ltb l n && ltb r n) true (and_both (ltb l n) (ltb r n) (lt→ltb l n h.0) (lt→ltb r n h.1)) tt
good-test M n (windowed w a b c) h = and_both (ltb c n && true) (window_good a b) (and_both (ltb c n) true (lt→ltb c n h.0) tt) (good-window a b h.1)

-- bytes have the record of a node of height h at node n's place
record RecordAt (bytes : List ℕ) (n h : ℕ) (nd : Node) : Type 0 where
  is : (i : ℕ) → i < 8 → byte_at bytes n i ≡ get_or (node_bytes h nd) i 0

eight : (P : ℕ → Type 0) → P 0 → P 1 → P 2 → P 3 → P 4 → P 5 → P 6 → P 7 → (i : ℕ) → i < 8 → P i
eight P a b c d e f g k zero h = a
eight P a b c d e f g k (suc zero) h = b
eight P a b c d e f g k (suc (suc zero)) h = c
eight P a b c d e f g k (suc (suc (suc zero))) h = d
eight P a b c d e f g k (suc (suc (suc (suc zero)))) h = e
eight P a b c d e f g k (suc (suc (suc (suc (suc zero))))) h = f
eight P a b c d e f g k (suc (suc (suc (suc (suc (suc zero)))))) h = g
eight P a b c d e f g k (suc (suc (suc (suc (suc (suc (suc zero))))))) h = k
eight P a b c d e f g k (suc (suc (suc (suc (suc (suc (suc (suc i)))))))) h = absurd (omega arith)

-- the fields of a record that passes the test of its node
pub node_fields : (M : ℕ) (bytes : List ℕ) (n : ℕ) → Is (node_test M bytes n) →
    Fields M n (byte_at bytes n 2) (byte_at bytes n 3) (byte_at bytes n 4) (byte_at bytes n 5) (byte_at bytes n 6) (node_from bytes n)
node_fields M bytes n t =
    let b : ℕ → ℕ = byte_at bytes n in
    let nd = node_in (b 2) (b 3) (b 4) (b 5) (b 6) in
    some_fields M n (b 2) (b 3) (b 4) (b 5) (b 6) nd refl (and_right (marked bytes n) (some_good M n (b 4) (b 5) (b 6) nd) t)

record_sound : (M : ℕ) (bytes : List ℕ) (n : ℕ) → Is (record_good M bytes n) →
    RecordAt bytes n (height_in bytes (node_from bytes n)) (node_from bytes n) × NodeGood M n (node_from bytes n)
unfolding record_good
record_sound M bytes n t =
    let b : ℕ → ℕ = byte_at bytes n in
    let front = and_left (node_test M bytes n) (height_test bytes n) t in
    let marks = and_left (marked bytes n) (some_good M n (b 4) (b 5) (b 6) (node_in (b 2) (b 3) (b 4) (b 5) (b 6))) front in
    let f = node_fields M bytes n front in (
      record {
        is = eight (λ i. byte_at bytes n i ≡ get_or (node_bytes (height_in bytes (node_from bytes n)) (node_from bytes n)) i 0)
            (eqb→eq (b 0) 0x4E (and_left (eqb (b 0) 0x4E) (eqb (b 1) 0x44) marks)) (eqb→eq (b 1) 0x44 (and_right (eqb (b 0) 0x4E) (eqb (b 1) 0x44) marks))
            f.kind_is f.left_is f.right_is f.from_is f.to_is
            (eqb→eq (b 7) (height_in bytes (node_from bytes n)) (and_right (node_test M bytes n) (height_test bytes n) t));
      },
      f.good-node,
    )

node-read : (bytes : List ℕ) (n h : ℕ) (nd : Node) → RecordAt bytes n h nd →
    node_in (byte_at bytes n 2) (byte_at bytes n 3) (byte_at bytes n 4) (byte_at bytes n 5) (byte_at bytes n 6) ≡ some nd
node-read bytes n h nd r = rw (r.is 2 (omega arith), r.is 3 (omega arith), r.is 4 (omega arith), r.is 5 (omega arith), r.is 6 (omega arith))
    (node-back nd)

record_complete : (M : ℕ) (bytes : List ℕ) (n h : ℕ) (nd : Node) → RecordAt bytes n h nd → h ≡ height_in bytes nd → NodeGood M n nd →
    Is (record_good M bytes n) × (node_from bytes n ≡ nd)
unfolding record_good
record_complete M bytes n h nd r k g =
    let e = node-read bytes n h nd r in
    let w : byte_at bytes n 7 ≡ height_in bytes nd = r.is 7 (omega arith) ∙ k in
    let f : ℕ → ℕ = λ c. byte_at bytes c 7 in (
      rw (e, r.is 0 (omega arith), r.is 1 (omega arith), r.is 4 (omega arith), r.is 5 (omega arith), r.is 6 (omega arith), w)
          (and_both (node_good M n (right_of nd) (from_of nd) (to_of nd) nd) (eqb (height_now f nd) (height_now f nd)) (good-test M n nd g)
          (eqb_refl (height_now f nd))),
      ap or_atom e,
    )

-- ---- heights

grow-height : (rule : ℕ → Rule) (nd : Node) → height (grow rule nd) ≡ height_now (λ c. height (rule c)) nd
grow-height rule (atom a) = refl
grow-height rule (unary u c) = refl
grow-height rule (binary o l r) = refl
grow-height rule (windowed w a b c) = refl

-- a node's height needs only those of the nodes below it
height_cong : (M n : ℕ) (f g : ℕ → ℕ) → ((c : ℕ) → c < n → f c ≡ g c) → (nd : Node) → NodeGood M n nd → height_now f nd ≡ height_now g nd
height_cong M n f g e (atom a) h = refl
height_cong M n f g e (unary u c) h = ap (λ (x : ℕ). x + 1) (e c h)
height_cong M n f g e (binary o l r) h = ap₂ (λ (x y : ℕ). max x y + 1) (e l h.0) (e r h.1)
height_cong M n f g e (windowed w a b c) h = ap (λ (x : ℕ). x + 1) (e c h.0)

module _ (M : ℕ) (ns : List Node) (good : (n : ℕ) → n < length ns → NodeGood M n (node_at ns n)) where
  pub height-now : (n : ℕ) → n < length ns → height_at ns n ≡ height_now (height_at ns) (node_at ns n)
  height-now n h = ap height (rule_at-is M ns good n h) ∙ grow-height (rule_at ns) (node_at ns n)

  -- numbers that each follow from those of the children are the heights
  heights_are : (f : ℕ → ℕ) → ((n : ℕ) → n < length ns → f n ≡ height_now f (node_at ns n)) → (k n : ℕ) → n < k → n < length ns → f n ≡ height_at ns n
  heights_are f e zero n u h = absurd (omega arith)
  heights_are f e (suc k) n u h =
      e n h ∙ height_cong M n f (height_at ns) (λ c l. heights_are f e k c (omega arith) (omega arith)) (node_at ns n) (good n h) ∙ sym (height-now n h)

-- node 0 is an atom, since no child can stand below it, and has the height 0
pub first-height : (M : ℕ) (bytes : List ℕ) → Is (record_good M bytes 0) → byte_at bytes 0 7 ≡ 0
first-height M bytes t = let s = record_sound M bytes 0 t in s.0.is 7 (omega arith) ∙ of-first (node_from bytes 0) s.1
  where
    of-first : (nd : Node) → NodeGood M 0 nd → height_in bytes nd ≡ 0
    of-first (atom a) h = refl
    of-first (unary u c) h = absurd (omega arith)
    of-first (binary o l r) h = absurd (omega (arith, h.0))
    of-first (windowed w a b c) h = absurd (omega (arith, h.0))

-- ---- all records

length_from : (ns : List Node) (n : ℕ) (l : List Node) → length (table_from ns n l) ≡ 8 * length l
length_from ns n [] = refl
length_from ns n (nd ∷ l) = omega (arith, length_from ns (n + 1) l)

pub length-table : (ns : List Node) → length (table_bytes ns) ≡ 8 * length ns
length-table ns = length_from ns 0 ns

-- node m + n's record in the bytes of a part of a table
from_at : (ns : List Node) (m : ℕ) (l : List Node) (n i : ℕ) → n < length l → i < 8 →
    get_or (table_from ns m l) (8 * n + i) 0 ≡ get_or (node_bytes (height_at ns (m + n)) (node_at l n)) i 0
from_at ns m [] n i h k = absurd (omega arith)
from_at ns m (nd ∷ l) zero i h k =
    ap (λ (j : ℕ). get_or (table_from ns m (nd ∷ l)) j 0) (zero-add i) ∙ first i k ∙ ap (λ (j : ℕ). get_or (node_bytes (height_at ns j) nd) i 0) (sym (add-zero m))
  where
    first : (i : ℕ) → i < 8 → get_or (table_from ns m (nd ∷ l)) i 0 ≡ get_or (node_bytes (height_at ns m) nd) i 0
    first = eight (λ i. get_or (table_from ns m (nd ∷ l)) i 0 ≡ get_or (node_bytes (height_at ns m) nd) i 0) refl refl refl refl refl refl refl refl
from_at ns m (nd ∷ l) (suc n) i h k =
    let e : 8 * suc n + i ≡ 8 + (8 * n + i) = omega arith in
    let f : m + 1 + n ≡ m + suc n = omega arith in
    ap (λ (j : ℕ). get_or (table_from ns m (nd ∷ l)) j 0) e ∙ later (8 * n + i) ∙ from_at ns (m + 1) l n i (omega arith) k
    ∙ ap (λ (j : ℕ). get_or (node_bytes (height_at ns j) (node_at l n)) i 0) f
  where
    later : (j : ℕ) → get_or (table_from ns m (nd ∷ l)) (8 + j) 0 ≡ get_or (table_from ns (m + 1) l) j 0
    later j = get_or-append-add (node_bytes (height_at ns m) nd) (table_from ns (m + 1) l) j 0

table_at : (ns : List Node) (n i : ℕ) → n < length ns → i < 8 → get_or (table_bytes ns) (8 * n + i) 0 ≡ get_or (node_bytes (height_at ns n) (node_at ns n)) i 0
table_at ns n i h k = from_at ns 0 ns n i h k ∙ ap (λ (j : ℕ). get_or (node_bytes (height_at ns j) (node_at ns n)) i 0) (zero-add n)

pub height-written : (ns : List Node) (n : ℕ) → n < length ns → byte_at (table_bytes ns) n 7 ≡ height_at ns n
height-written ns n h = table_at ns n 7 h (omega arith)

-- bytes that have each node's record are the table's
bytes-are : (bytes : List ℕ) (ns : List Node) → length bytes ≡ 8 * length ns → ((n : ℕ) → n < length ns → RecordAt bytes n (height_at ns n) (node_at ns n)) →
    bytes ≡ table_bytes ns
bytes-are bytes ns e r = ext_get_or 0 bytes (table_bytes ns) (e ∙ sym (length-table ns)) same
  where
    same : (i : ℕ) → i < length bytes → get_or bytes i 0 ≡ get_or (table_bytes ns) i 0
    same i h =
        let k : 8 * (i / 8) + i % 8 ≡ i = omega arith in
        let n : i / 8 < length ns = omega arith in
        subst (λ (j : ℕ). get_or bytes j 0 ≡ get_or (table_bytes ns) j 0) k
        ((r (i / 8) n).is (i % 8) (omega arith) ∙ sym (table_at ns (i / 8) (i % 8) n (omega arith)))

module _ (M : ℕ) (bytes : List ℕ) where
  abbrev N : ℕ
  N = record_count bytes

  abbrev sizes : Bool
  sizes = eqb (8 * N) (length bytes) && (leb 1 N && leb N 128)

  pub node-is : (n : ℕ) → n < N → node_at (nodes_in bytes) n ≡ node_from bytes n
  unfolding nodes_in
  node-is n h = get_d_tabulate N (node_from bytes) n (atom 0) h

  pub length-nodes_in : length (nodes_in bytes) ≡ N
  unfolding nodes_in
  length-nodes_in = length-tabulate N (node_from bytes)

  -- records that each follow from those below are the records of their nodes
  module _ (each : (n : ℕ) → n < N → RecordAt bytes n (height_in bytes (node_from bytes n)) (node_from bytes n) × NodeGood M n (node_from bytes n)) where
    nodes-good : (n : ℕ) → n < length (nodes_in bytes) → NodeGood M n (node_at (nodes_in bytes) n)
    nodes-good n h = let k : n < N = omega (arith, length-nodes_in) in rw (node-is n k) (each n k).1

    height-is : (n : ℕ) → n < N → height_in bytes (node_from bytes n) ≡ height_at (nodes_in bytes) n
    height-is n h =
        let l = length-nodes_in in
        let f : ℕ → ℕ = λ c. byte_at bytes c 7 in
        sym ((each n h).0.is 7 (omega arith))
        ∙ heights_are M (nodes_in bytes) nodes-good f (λ i u. let k : i < N = omega arith in rw (node-is i k) ((each i k).0.is 7 (omega arith))) (suc n) n
        (omega arith) (omega arith)

    each_record : (n : ℕ) → n < N → RecordAt bytes n (height_at (nodes_in bytes) n) (node_from bytes n)
    each_record n h = subst (λ (x : ℕ). RecordAt bytes n x (node_from bytes n)) (height-is n h) (each n h).0

  -- what passes the test is good
  pub good-sound : Is (good M bytes) → Good M bytes (nodes_in bytes)
  unfolding good
  good-sound t =
      let s = and_left sizes (all (record_good M bytes) N) t in
      let w = eqb→eq (8 * N) (length bytes) (and_left (eqb (8 * N) (length bytes)) (leb 1 N && leb N 128) s) in
      let b = and_right (eqb (8 * N) (length bytes)) (leb 1 N && leb N 128) s in
      let lo = leb→le 1 N (and_left (leb 1 N) (leb N 128) b) in
      let hi = leb→le N 128 (and_right (leb 1 N) (leb N 128) b) in
      let l = length-nodes_in in
      let each : (n : ℕ) → n < N → RecordAt bytes n (height_in bytes (node_from bytes n)) (node_from bytes n) × NodeGood M n (node_from bytes n) =
      λ n h. record_sound M bytes n ((all_iff (record_good M bytes) N).0 (and_right sizes (all (record_good M bytes) N) t) n h) in
      record {
        records = bytes-are bytes (nodes_in bytes) (sym w ∙ ap (λ (k : ℕ). 8 * k) (sym l)) (λ n h.
            let k : n < N = omega arith in
            subst (λ (nd : Node). RecordAt bytes n (height_at (nodes_in bytes) n) nd) (sym (node-is n k)) (each_record each n k));
        some = omega arith;
        few = omega arith;
        nodes = nodes-good each;
      }

  module _ (ns : List Node) (g : Good M bytes ns) where
    count-is : length ns ≡ N
    count-is = omega (arith, ap length g.records, length-table ns)

    record_at : (n : ℕ) → n < length ns → RecordAt bytes n (height_at ns n) (node_at ns n)
    record_at n h = record { is = λ i k. ap (λ (l : List ℕ). get_or l (8 * n + i) 0) g.records ∙ table_at ns n i h k }

    pub height-byte : (n : ℕ) → n < length ns → byte_at bytes n 7 ≡ height_at ns n
    height-byte n h = (record_at n h).is 7 (omega arith)

    -- a node's height, by its children's records
    height-in : (n : ℕ) → n < length ns → height_at ns n ≡ height_in bytes (node_at ns n)
    height-in n h =
        height-now M ns g.nodes n h
        ∙ height_cong M n (height_at ns) (λ c. byte_at bytes c 7) (λ c l. sym (height-byte c (omega arith))) (node_at ns n) (g.nodes n h)

    complete-at : (n : ℕ) → n < length ns → Is (record_good M bytes n) × (node_from bytes n ≡ node_at ns n)
    complete-at n h = record_complete M bytes n (height_at ns n) (node_at ns n) (record_at n h) (height-in n h) (g.nodes n h)

    -- a good table passes the test
    pub good-complete : Is (good M bytes)
    unfolding good
    good-complete =
        let c = count-is in
        let w : 8 * N ≡ length bytes = omega (arith, ap length g.records, length-table ns) in
        and_both sizes (all (record_good M bytes) N)
        (and_both (eqb (8 * N) (length bytes)) (leb 1 N && leb N 128) (rw w (eqb_refl (length bytes)))
        (and_both (leb 1 N) (leb N 128) (le→leb 1 N (omega (arith, g.some))) (le→leb N 128 (omega (arith, g.few)))))
        ((all_iff (record_good M bytes) N).1 (λ n h. (complete-at n (omega arith)).0))

    -- and is the table of these nodes alone
    pub good-nodes : ns ≡ nodes_in bytes
    good-nodes =
        ext_get_or (atom 0) ns (nodes_in bytes) (count-is ∙ sym length-nodes_in) (λ n h. sym (node-is n (omega (arith, count-is)) ∙ (complete-at n h).1))
