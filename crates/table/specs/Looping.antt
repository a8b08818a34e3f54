-- Request N8: the kinds that have a second set of slacks V where L is below T.
use Rattle.std.specs.Prelude.{◌≡◌, refl, Bool, true, false, cond, List, [], ◌∷◌, ℕ, zero, suc, ◌+◌, ◌≤◌, ◌<◌, length, take, Ok, Err}
use Rattle.std.proofs.Common.{sym, ap, ◌∙◌, add-one, arith}
use Rattle.rules.specs.Table as Table
use Rattle.rules.specs.Table.{node_at}
use Rattle.rules.specs.TableTest.{byte_at, nodes_in, record_count}
use Rattle.rules.specs.Rows.{loops, looping}
use Rattle.rules.proofs.Solution.Looping.{looping-next}
use Rattle.table.specs.declared.Kind.{Kind}
use Rattle.table.specs.declared.Kind.TheVariants.{Atom, Not, And, Or, Implies, Eventually, Always, Until, Within, Throughout}
use Rattle.table.specs.declared.UnknownKind.{UnknownKind}
use Rattle.table.specs.Nodes.{kind_in, node_by, known_is, unknown_is}

abbrev pub loops_by : Kind → Bool
loops_by Atom = false
loops_by Not = false
loops_by And = false
loops_by Or = false
loops_by Implies = false
loops_by Eventually = true
loops_by Always = true
loops_by Until = true
loops_by Within = false
loops_by Throughout = false

pub loops-by : (k : Kind) (l r a b : ℕ) → loops_by k ≡ loops (node_by k l r a b)
loops-by Atom l r a b = refl
loops-by Not l r a b = refl
loops-by And l r a b = refl
loops-by Or l r a b = refl
loops-by Implies l r a b = refl
loops-by Eventually l r a b = refl
loops-by Always l r a b = refl
loops-by Until l r a b = refl
loops-by Within l r a b = refl
loops-by Throughout l r a b = refl

-- of a record, by its kind byte
pub known_loops : (table : List ℕ) (n : ℕ) (k : Kind) → n < record_count table → kind_in (byte_at table n 2) ≡ Ok k →
    loops_by k ≡ loops (node_at (nodes_in table) n)
known_loops table n k h e =
    loops-by k (byte_at table n 3) (byte_at table n 4) (byte_at table n 5) (byte_at table n 6) ∙ ap loops (known_is table n k h e)

pub unknown_loops : (table : List ℕ) (n : ℕ) (u : UnknownKind) → n < record_count table → kind_in (byte_at table n 2) ≡ Err u →
    false ≡ loops (node_at (nodes_in table) n)
unknown_loops table n u h e = ap loops (unknown_is table n u h e)

-- ---- counted, one node after the other

-- how many of the first n nodes have one
abbrev pub looping_to : List Table.Node → ℕ → ℕ
looping_to ns n = looping (take n ns)

pub looping-more : (ns : List Table.Node) (n : ℕ) → n < length ns → looping_to ns (n + 1) ≡ cond (loops (node_at ns n)) (looping_to ns n + 1) (looping_to ns n)
looping-more ns n h = looping-next ns n h ∙ ap (λ (k : ℕ). cond (loops (node_at ns n)) k (looping_to ns n)) (sym (add-one (looping_to ns n)))

pub looping-few : (ns : List Table.Node) → (n : ℕ) → looping_to ns n ≤ n
looping-few [] n = go n
  where
    go : (n : ℕ) → looping (take n []) ≤ n
    go zero = omega arith
    go (suc n) = omega arith
looping-few (nd ∷ ns) zero = omega arith
looping-few (nd ∷ ns) (suc n) = go (loops nd) (looping-few ns n)
  where
    go : (b : Bool) → looping_to ns n ≤ n → cond b (suc (looping_to ns n)) (looping_to ns n) ≤ suc n
    go true h = omega arith
    go false h = omega arith

pub looping-all : (ns : List Table.Node) → looping_to ns (length ns) ≡ looping ns
looping-all [] = refl
looping-all (nd ∷ ns) = ap (λ (k : ℕ). cond (loops nd) (suc k) k) (looping-all ns)
