-- Rows that all hold: the search goes on by their count.
use Rattle.std.specs.Prelude.{◌≡◌, refl, Bool, true, false, not, List, [], ◌∷◌, ◌++◌, ℕ, zero, suc, ◌+◌, ◌≤◌, ◌<◌, ℤ, Ok, Err, length}
use Rattle.std.proofs.Math.Path.{sym, ap, subst⁻¹}
use Rattle.std.proofs.Common.{◌∙◌, subst, add-one, arith, length-append}
use Rattle.lists.specs.Flat.{flat, flat-zero, flat-more}
use Rattle.rules.specs.Rows.{Row}
use Rattle.rules.specs.Verdicts.{is_short}
use Rattle.judge_slot.specs.Counts.{at_slot}
use Rattle.judge_slot.specs.Searches.{Search, tested, tested-none, tested-one, tested-append, stuck, Tested}

-- a test that fails
pub never : {X : Type 0} → false ≡ true → X
never p = let z : ◌≡◌ {A = ℕ} 0 1 = cc in absurd (omega arith)

pub fails : (b : Bool) → not b ≡ true → b ≡ false
fails false p = refl
fails true p = never p

-- so many more rows hold, if none was broken
abbrev pub passed : (n : ℕ) → Search → Search
passed n (Ok i) = Ok (i + n)
passed n (Err b) = Err b

abbrev of_count : ℕ → Search
of_count i = Ok i

module _ (e : ℕ) (f : Row → ℤ) where
  -- none of the rows is broken
  pub record Held (rs : List Row) : Type 0 where
    pub clear : (i : ℕ) → tested e f (Ok i) rs ≡ Ok (i + length rs)

  held_none : Held []
  held_none = record { clear = λ i. tested-none e f (Ok i) ∙ ap of_count (let z : i ≡ i + 0 = omega arith in z) }

  held_one : (r : Row) → is_short e (f r) ≡ false → Held (r ∷ [])
  held_one r t = record { clear = λ i. tested-one e f (Ok i) r ∙ rw t refl }

  held-append : {a b : List Row} → Held a → Held b → Held (a ++ b)
  held-append {a} {b} p q =
      record {
        clear = λ i.
            let z : i + length a + length b ≡ i + length (a ++ b) = omega (arith, length-append a b) in
            tested-append e f (Ok i) a b ∙ ap (λ (s : Search). tested e f s b) (p.clear i) ∙ q.clear (i + length a) ∙ ap of_count z;
      }

  held-flat : (h : ℕ → Row) (k : ℕ) → ((i : ℕ) → i < k → is_short e (f (h i)) ≡ false) → Held (flat (λ i. h i ∷ []) k)
  held-flat h zero t = subst⁻¹ Held (flat-zero (λ i. h i ∷ [])) held_none
  held-flat h (suc k) t =
      subst⁻¹ Held (ap (flat (λ i. h i ∷ [])) (sym (add-one k)) ∙ flat-more (λ i. h i ∷ []) k)
      (held-append (held-flat h k (λ i g. t i (omega arith))) (held_one (h k) (t k (omega arith))))

  -- rows one by one, and a last one
  pub held-last : (h : ℕ → Row) (k : ℕ) {rs : List Row} (r : Row) → flat (λ i. h i ∷ []) k ++ (r ∷ []) ≡ rs → ((i : ℕ) → i < k → is_short e (f (h i)) ≡ false) →
      is_short e (f r) ≡ false → Held rs
  held-last h k r p t u = subst Held p (held-append (held-flat h k t) (held_one r u))

  -- the search passes them
  pub held-tested : {rs : List Row} (n : ℕ) (s : Search) {x : Search} → Held rs → length rs ≡ n → n ≤ at_slot → x ≡ passed n s → Tested e f s rs x
  held-tested {rs} n (Ok i) h l b p =
      record { is = p ∙ ap (λ (m : ℕ). of_count (i + m)) (sym l) ∙ sym (h.clear i); by_many = rw p (omega arith) }
  held-tested {rs} n (Err b) h l k p = record { is = p ∙ sym (stuck e f b rs); by_many = rw p (omega arith) }
