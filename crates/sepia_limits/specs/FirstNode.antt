-- The first node of a good table is an atom's: so one node has no V, and one atom is not idle.
use Rattle.std.specs.Prelude.{◌≡◌, refl, Bool, true, false, cond, List, [], ◌∷◌, ℕ, ◌+◌, ◌≤◌, ◌<◌, eqb, length}
use Rattle.std.proofs.Common.{sym, ap, subst, ◌∙◌, arith, eqb-true}
use Rattle.std.proofs.Math.Dec.{eqb_refl}
use Rattle.lists.specs.Tests.{is_true}
use Rattle.lists.specs.Sums.{sum_le, sum-add, sum-even, pick, pick-once}
use Rattle.rules.specs.Table.{Node, NodeGood, node_at}
use Rattle.rules.specs.Table.Node.{atom, unary, binary, windowed}
use Rattle.rules.specs.Rows.{loops, looping}
use Rattle.mps.proofs.Proved.{looping_le}
use Rattle.mps_length.specs.Idle.{is_atom, has_atom, has-found, idle_atoms}

module _ (M : ℕ) where
  pub record FirstAtom (nd : Node) : Type 0 where
    pub number : ℕ
    pub is : atom number ≡ nd
    pub low : number < M

  pub first-atom : (nd : Node) → NodeGood M 0 nd → FirstAtom nd
  first-atom (atom a) h = record { number = a; is = refl; low = h }
  first-atom (unary u c) h = absurd (omega arith)
  first-atom (binary o l r) h = absurd (omega (arith, h.0))
  first-atom (windowed w a b c) h = absurd (omega (arith, h.0))

-- it has no V
pub looping-first : (ns : List Node) (a : ℕ) → atom a ≡ node_at ns 0 → 1 ≤ length ns → looping ns + 1 ≤ length ns
looping-first [] a e h = absurd (omega arith)
looping-first (nd ∷ ns) a e h = let f : loops nd ≡ false = ap loops (sym e) in rw f (omega (arith, looping_le ns))

-- its atom is not idle
module _ (ns : List Node) (a M : ℕ) (first : atom a ≡ node_at ns 0) (some : 1 ≤ length ns) (low : a < M) where
  found : has_atom ns a (length ns) ≡ true
  found = has-found ns a 0 (length ns) some (ap (is_atom a) (sym first) ∙ is_true (eqb a a) (eqb_refl a))

  abbrev idle : ℕ → ℕ
  idle x = cond (has_atom ns x (length ns)) 0 1

  at_most_one : (x : ℕ) → idle x + pick a 1 x ≤ 1
  at_most_one x = go (eqb a x) refl
    where
      other : (b : Bool) → cond b 0 1 + 0 ≤ 1
      other true = omega arith
      other false = omega arith

      go : (b : Bool) → eqb a x ≡ b → idle x + cond b 1 0 ≤ 1
      go true e = subst (λ (y : ℕ). idle y + 1 ≤ 1) (eqb-true a x e) (rw found (omega arith))
      go false e = other (has_atom ns x (length ns))

  pub idle-few : idle_atoms ns (length ns) M + 1 ≤ M
  idle-few =
      let h = sum_le (λ x. idle x + pick a 1 x) (λ x. 1) M (λ x g. at_most_one x) in
      omega (arith, sum-add idle (pick a 1) M, pick-once a 1 M low, sum-even (λ x. 1) 1 M (λ x g. refl))
