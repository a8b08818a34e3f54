-- A row is broken exactly where its shortfall is above the tolerance.
use Rattle.std.specs.Prelude.{◌≡◌, refl, Bool, true, false, cond, ◌↔◌, List, ℕ, zero, suc, ◌+◌, ◌-◌, ◌<◌, ltb, ℤ, pos, negsuc, neg_ℤ, nat_abs, ◌-ℤ◌, ◌*ℤ◌, ◌<ℤ◌}
use Rattle.std.proofs.Common.{sym, ap, ◌∙◌, arith, ltb-true, lt-ltb, le-ltb, ltb→lt, lt→ltb}
use Rattle.std.proofs.Math.Decide.{dec_lt}
use Rattle.std.proofs.Math.IntN.{+ℤ_idr}
use Rattle.std.specs.Int.Signed.{lt_z}
use Rattle.ints.specs.Sums.{swap-last}
use Rattle.rules.specs.Quantities.{one}
use Rattle.rules.specs.Rows.{Relation, Row, sum_of}
use Rattle.rules.specs.Rows.Relation.{at_least, equal}
use Rattle.rules.specs.Judge.{BrokenBy, Broken, shortfall_by, shortfall}

-- ---- a number is below another exactly where their difference is above 0

same_test : (a b c d : ℕ) → (a < b → c < d) → (c < d → a < b) → ltb a b ≡ ltb c d
same_test a b c d to from = go (dec_lt a b)
  where
    go : Dec (a < b) → ltb a b ≡ ltb c d
    go (yes h) = lt-ltb a b h ∙ sym (lt-ltb c d (to h))
    go (no h) = le-ltb a b (omega arith) ∙ sym (le-ltb c d (let k : c < d → ⊥ = λ l. h (from l) in omega arith))

difference_above : (a b : ℕ) (t : Bool) → ltb a b ≡ t → ltb b a ≡ lt_z (pos 0) (cond t (negsuc (b - suc a)) (pos (a - b)))
difference_above a b true e = le-ltb b a (let h = ltb-true a b e in omega arith)
difference_above a b false e = same_test b a 0 (a - b) (λ h. omega arith) (λ h. omega arith)

pub below_difference : (a b : ℤ) → lt_z a b ≡ lt_z (pos 0) (b -ℤ a)
below_difference (pos zero) b = ap (lt_z (pos 0)) (sym (+ℤ_idr b))
below_difference (pos (suc a)) (pos b) = difference_above b (suc a) (ltb b (suc a)) refl
below_difference (pos (suc a)) (negsuc b) = refl
below_difference (negsuc a) (pos b) = sym (lt-ltb 0 (b + suc a) (omega arith))
below_difference (negsuc a) (negsuc b) =
    same_test b a (suc b) (suc a) (λ h. omega arith) (λ h. omega arith) ∙ difference_above (suc a) (suc b) (ltb (suc a) (suc b)) refl

-- s is below b less e exactly where e is below b less s
below_less : (e b s : ℤ) → lt_z s (b -ℤ e) ≡ lt_z e (b -ℤ s)
below_less e b s = below_difference s (b -ℤ e) ∙ ap (lt_z (pos 0)) (swap-last b (neg_ℤ e) (neg_ℤ s)) ∙ sym (below_difference e (b -ℤ s))

-- ---- broken, by the shortfall

broken-by : (o : Relation) (e : ℕ) (b s : ℤ) → BrokenBy o e b s ↔ (pos e <ℤ shortfall_by o b s)
broken-by at_least e b s =
    let same = below_less (pos e) b s in
    (λ h. record { lt = rw same at h.lt }, λ h. record { lt = rw same h.lt })
broken-by equal e b s = (λ h. record { lt = lt→ltb e (nat_abs (s -ℤ b)) h }, λ h. ltb→lt e (nat_abs (s -ℤ b)) h.lt)

pub broken-short : (e : ℕ) (xs : List ℤ) (r : Row) → Broken e xs r ↔ (pos e <ℤ shortfall xs r)
broken-short e xs r = broken-by r.relation e (r.right *ℤ pos one) (sum_of xs r.terms)
