-- A node stands behind its parts: so does its variable, by T at least, behind the variables p and q of the parts that it has.
use Rattle.std.specs.Prelude.{◌≡◌, true, false, ℕ, ◌+◌, ◌*◌, ◌≤◌}
use Rattle.std.proofs.Common.{sym, ◌∙◌, arith}
use Rattle.std.proofs.Math.Path.{subst⁻¹}
use Rattle.lists.specs.Place.{place_end}
use Rattle.rules.specs.Table.{NodeGood}
use Rattle.table.specs.Nodes.{node_by, node_of}
use Rattle.table.specs.declared.Node as Table
use Rattle.table.specs.declared.Kind.{Kind}
use Rattle.table.specs.declared.Kind.TheVariants.{Atom, Not, And, Or, Implies, Eventually, Always, Until, Within, Throughout}
use Rattle.row.specs.declared.Block.{Block}
use Rattle.row.specs.Kinds.{left_block}
use Rattle.row.specs.NodeRows.{Own, Kept, loops_of, next_of, own-next, kept_loops}

abbrev pub Apart : Kind → (T P p q : ℕ) → Type 0
Apart Atom T P p q = p + T ≤ P
Apart Not T P p q = p + T ≤ P
Apart And T P p q = (p + T ≤ P) × (q + T ≤ P)
Apart Or T P p q = (p + T ≤ P) × (q + T ≤ P)
Apart Implies T P p q = (p + T ≤ P) × (q + T ≤ P)
Apart Eventually T P p q = p + T ≤ P
Apart Always T P p q = p + T ≤ P
Apart Until T P p q = (p + T ≤ P) × (q + T ≤ P)
Apart Within T P p q = p + T ≤ P
Apart Throughout T P p q = p + T ≤ P

apart : (M n T : ℕ) (k : Kind) (l r a b : ℕ) → NodeGood M n (node_by k l r a b) → Apart k T ((M + n) * T) (left_block k M l * T) ((M + r) * T)
apart M n T Atom l r a b h = place_end T (omega arith)
apart M n T Not l r a b h = place_end T (omega arith)
apart M n T And l r a b h = (place_end T (omega (arith, h.0)), place_end T (omega (arith, h.1)))
apart M n T Or l r a b h = (place_end T (omega (arith, h.0)), place_end T (omega (arith, h.1)))
apart M n T Implies l r a b h = (place_end T (omega (arith, h.0)), place_end T (omega (arith, h.1)))
apart M n T Eventually l r a b h = place_end T (omega arith)
apart M n T Always l r a b h = place_end T (omega arith)
apart M n T Until l r a b h = (place_end T (omega (arith, h.0)), place_end T (omega (arith, h.1)))
apart M n T Within l r a b h = place_end T (omega (arith, h.0))
apart M n T Throughout l r a b h = place_end T (omega (arith, h.0))

pub apart_by : (M n T : ℕ) (k : Kind) (l r a b P p q : ℕ) → P ≡ (M + n) * T → p ≡ left_block k M l * T → q ≡ (M + r) * T → NodeGood M n (node_by k l r a b) →
    Apart k T P p q
apart_by M n T k l r a b P p q e f g h =
    subst⁻¹ (λ (x : ℕ). Apart k T x p q) e
    (subst⁻¹ (λ (x : ℕ). Apart k T ((M + n) * T) x q) f (subst⁻¹ (Apart k T ((M + n) * T) (left_block k M l * T)) g (apart M n T k l r a b h)))

-- so it is at each slot
pub apart-at : (k : Kind) (T P p q s : ℕ) → 1 ≤ T → Apart k T P p q → Apart k 1 (P + s) (p + s) (q + s)
apart-at Atom T P p q s h g = omega arith
apart-at Not T P p q s h g = omega arith
apart-at And T P p q s h g = (omega (arith, g.0), omega (arith, g.1))
apart-at Or T P p q s h g = (omega (arith, g.0), omega (arith, g.1))
apart-at Implies T P p q s h g = (omega (arith, g.0), omega (arith, g.1))
apart-at Eventually T P p q s h g = omega arith
apart-at Always T P p q s h g = omega arith
apart-at Until T P p q s h g = (omega (arith, g.0), omega (arith, g.1))
apart-at Within T P p q s h g = omega arith
apart-at Throughout T P p q s h g = omega arith

-- ---- of a block of slacks

higher : (k : Kind) (T P Q p q : ℕ) → P ≤ Q → Apart k T P p q → Apart k T Q p q
higher Atom T P Q p q h g = omega arith
higher Not T P Q p q h g = omega arith
higher And T P Q p q h g = (omega (arith, g.0), omega (arith, g.1))
higher Or T P Q p q h g = (omega (arith, g.0), omega (arith, g.1))
higher Implies T P Q p q h g = (omega (arith, g.0), omega (arith, g.1))
higher Eventually T P Q p q h g = omega arith
higher Always T P Q p q h g = omega arith
higher Until T P Q p q h g = (omega (arith, g.0), omega (arith, g.1))
higher Within T P Q p q h g = omega arith
higher Throughout T P Q p q h g = omega arith

-- a block stands behind its parts, and what follows its last slot behind it
pub record Behind (T : ℕ) (b : Block) : Type 0 where
  pub parts : Apart b.kind T b.own b.left b.right
  pub next : loops_of b ≡ true → b.own + T ≤ next_of b

pub own_behind : (T M L n v : ℕ) (nd : Table.Node) (b : Block) → Own T M L n v nd b → NodeGood M n (node_of nd) → (M + n) * T + T ≤ v → Behind T b
own_behind T M L n v nd b o good h = record {
  parts =
      subst⁻¹ (λ (k : Kind). Apart k T b.own b.left b.right) o.kind_is
      (apart_by M n T nd.kind nd.left nd.right nd.from nd.to b.own b.left b.right o.own_is o.left_is o.right_is good);
  next = λ e. omega (arith, o.own_is, own-next o e);
}

pub kept-behind : (T v : ℕ) (b c : Block) → Kept v b c → b.own ≤ v → Behind T b → Behind T c
kept-behind T v b c k h g = record {
  parts =
      subst⁻¹ (λ (j : Kind). Apart j T c.own c.left c.right) k.kind_is
      (rw (k.own_is, k.left_is, k.right_is) (higher b.kind T b.own v b.left b.right h g.parts));
  next = λ e. let z : ◌≡◌ {A = ℕ} 0 1 = never (sym (kept_loops k) ∙ e) in absurd (omega arith);
}
  where
    never : false ≡ true → ◌≡◌ {A = ℕ} 0 1
    never e = cc
