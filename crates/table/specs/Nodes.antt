-- What a node that was read from its record stands for.
use Rattle.std.specs.Prelude.{◌≡◌, refl, Bool, true, false, cond, List, ℕ, ◌<◌, eqb, Result, Ok, Err}
use Rattle.std.proofs.Common.{arith}
use Rattle.std.proofs.Math.Option.{Option, none, some}
use Rattle.rules.specs.Rule.Unary.{not, eventually, always}
use Rattle.rules.specs.Rule.Binary.{and, or, implies, until}
use Rattle.rules.specs.Rule.Window.{within, throughout}
use Rattle.rules.specs.Table as Table
use Rattle.rules.specs.Table.Node.{atom, unary, binary, windowed}
use Rattle.rules.specs.Table.{node_at}
use Rattle.rules.specs.TableTest.{node_in, node_good, some_good, byte_at, nodes_in, record_count}
use Rattle.rules.proofs.TableTest.{node-is}
use Rattle.table.specs.declared.Kind.{Kind}
use Rattle.table.specs.declared.Kind.TheVariants.{Atom, Not, And, Or, Implies, Eventually, Always, Until, Within, Throughout}
use Rattle.table.specs.declared.UnknownKind.{UnknownKind}
use Rattle.table.specs.declared.Node.{Node}

-- "Kinds: 1 atom, 2 not, 3 and, 4 or, 5 implies (>), 6 eventually (F), 7 always (G), 8 until (U)"; "New kinds are 9 for F and 10 for G"
abbrev pub byte_of : Kind → ℕ
byte_of Atom = 1
byte_of Not = 2
byte_of And = 3
byte_of Or = 4
byte_of Implies = 5
byte_of Eventually = 6
byte_of Always = 7
byte_of Until = 8
byte_of Within = 9
byte_of Throughout = 10

abbrev pub unknown : ℕ → UnknownKind
unknown k = record { byte = k }

-- the kind that a byte stands for
unfoldable pub kind_in : ℕ → Result Kind UnknownKind
kind_in k =
    cond (eqb k 1) (Ok Atom)
    (cond (eqb k 2) (Ok Not)
    (cond (eqb k 3) (Ok And)
    (cond (eqb k 4) (Ok Or)
    (cond (eqb k 5) (Ok Implies)
    (cond (eqb k 6) (Ok Eventually)
    (cond (eqb k 7) (Ok Always)
    (cond (eqb k 8) (Ok Until)
    (cond (eqb k 9) (Ok Within)
    (cond (eqb k 10) (Ok Throughout) (Err (unknown k)))))))))))

-- the node of a kind, left, right and window
abbrev pub node_by : Kind → (left right from to : ℕ) → Table.Node
node_by Atom l r a b = atom l
node_by Not l r a b = unary not l
node_by And l r a b = binary and l r
node_by Or l r a b = binary or l r
node_by Implies l r a b = binary implies l r
node_by Eventually l r a b = unary eventually l
node_by Always l r a b = unary always l
node_by Until l r a b = binary until l r
node_by Within l r a b = windowed within a b l
node_by Throughout l r a b = windowed throughout a b l

abbrev pub node_of : Node → Table.Node
node_of nd = node_by nd.kind nd.left nd.right nd.from nd.to

-- what a call that reads node n's record hands out
pub record NodeRead (table : List ℕ) (n : ℕ) (nd : Node) : Type 0 where
  pub is : node_of nd ≡ node_at (nodes_in table) n
  pub left-byte : nd.left < 256
  pub right-byte : nd.right < 256
  pub from_byte : nd.from < 256
  pub to-byte : nd.to < 256

-- the node of a kind byte, by way of the kind
abbrev pub node_read : Result Kind UnknownKind → (left right from to : ℕ) → Option Table.Node
node_read (Ok k) l r a b = some (node_by k l r a b)
node_read (Err e) l r a b = none

module _ (l r i j : ℕ) where
  by_kind : (b : Bool) (k : Kind) (rest : Option Table.Node) (other : Result Kind UnknownKind) → rest ≡ node_read other l r i j →
      cond b (some (node_by k l r i j)) rest ≡ node_read (cond b (Ok k) other) l r i j
  by_kind true k rest other e = refl
  by_kind false k rest other e = e

  pub node_in_kind : (k : ℕ) → node_in k l r i j ≡ node_read (kind_in k) l r i j
  unfolding node_in kind_in
  node_in_kind k =
      by_kind (eqb k 1) Atom _ _
      (by_kind (eqb k 2) Not _ _
      (by_kind (eqb k 3) And _ _
      (by_kind (eqb k 4) Or _ _
      (by_kind (eqb k 5) Implies _ _
      (by_kind (eqb k 6) Eventually _ _
      (by_kind (eqb k 7) Always _ _
      (by_kind (eqb k 8) Until _ _
      (by_kind (eqb k 9) Within _ _
      (by_kind (eqb k 10) Throughout none (Err (unknown k)) refl)))))))))

-- the node of a record, where its kind byte stands for a kind
abbrev pub with_kind : Result Kind UnknownKind → (left right from to : ℕ) → Result Node UnknownKind
with_kind (Ok k) l r a b = Ok (record { kind = k; left = l; right = r; from = a; to = b })
with_kind (Err e) l r a b = Err e

abbrev pub record_read : List ℕ → ℕ → Result Node UnknownKind
record_read table n = with_kind (kind_in (byte_at table n 2)) (byte_at table n 3) (byte_at table n 4) (byte_at table n 5) (byte_at table n 6)

-- what a node that was read has from its record
pub record FromRecord (kind : Result Kind UnknownKind) (left right from to : ℕ) (nd : Node) : Type 0 where
  pub known : kind ≡ Ok nd.kind
  pub same-left : nd.left ≡ left
  pub same-right : nd.right ≡ right
  pub same-from : nd.from ≡ from
  pub same-to : nd.to ≡ to

pub from-record : (k : Result Kind UnknownKind) (l r i j : ℕ) (nd : Node) → Ok nd ≡ with_kind k l r i j → FromRecord k l r i j nd
from-record (Ok k) l r i j nd e = record { known = cc; same-left = cc; same-right = cc; same-from = cc; same-to = cc }
from-record (Err u) l r i j nd e = let z : ◌≡◌ {A = ℕ} 0 1 = cc in absurd (omega arith)

pub unread : (k : Result Kind UnknownKind) (l r i j : ℕ) (u : UnknownKind) → Err u ≡ with_kind k l r i j → k ≡ Err u
unread (Ok k) l r i j u e = let z : ◌≡◌ {A = ℕ} 0 1 = cc in absurd (omega arith)
unread (Err v) l r i j u e = cc

-- the test of a node that was read, and of one whose kind byte stands for no kind
pub read-good : (M n : ℕ) (k : Result Kind UnknownKind) (l r i j : ℕ) (nd : Node) → Ok nd ≡ with_kind k l r i j →
    node_good M n nd.right nd.from nd.to (node_of nd) ≡ some_good M n r i j (node_read k l r i j)
read-good M n k l r i j nd e = let f = from-record k l r i j nd e in rw (f.known, f.same-left, f.same-right, f.same-from, f.same-to) refl

pub unread-bad : (M n : ℕ) (k : Result Kind UnknownKind) (l r i j : ℕ) (u : UnknownKind) → Err u ≡ with_kind k l r i j →
    false ≡ some_good M n r i j (node_read k l r i j)
unread-bad M n k l r i j u e = rw (unread k l r i j u e) refl

-- from the record's kind byte, known or not
pub known_is : (table : List ℕ) (n : ℕ) (k : Kind) → n < record_count table → kind_in (byte_at table n 2) ≡ Ok k →
    node_by k (byte_at table n 3) (byte_at table n 4) (byte_at table n 5) (byte_at table n 6) ≡ node_at (nodes_in table) n
known_is table n k h e = rw (node-is 0 table n h, node_in_kind, e)

pub unknown_is : (table : List ℕ) (n : ℕ) (u : UnknownKind) → n < record_count table → kind_in (byte_at table n 2) ≡ Err u →
    atom 0 ≡ node_at (nodes_in table) n
unknown_is table n u h e = rw (node-is 0 table n h, node_in_kind, e)
